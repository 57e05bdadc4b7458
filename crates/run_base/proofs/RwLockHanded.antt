-- A thread that is handed a reader-writer lock while it sleeps in the main queue: what it was told, and where
-- it goes on.
use Rattle.std.proofs.Common.{◌∷◌, ◌⊎◌, inl, inr, unwrap_or}
use Rattle.core_base.specs.declared.wants.Want.{Want}
use Rattle.core_base.specs.declared.wants.Want.TheVariants as wants
use Rattle.spec_locks.specs.declared.calls.Access.{Access}
use Rattle.spec_locks.specs.declared.calls.Access.TheVariants as access
use Rattle.spec_locks.specs.declared.calls.Patience.{Patience}
use Rattle.spec_locks.specs.declared.calls.Patience.TheVariants.{Patient, Timed, Try}
use Rattle.steps_base.specs.declared.acts.Reply.TheVariants.{Late, MovedTo}
use Rattle.steps_rwlock.specs.RwLockDeeds.{IsFreshTry}
use Rattle.steps_rwlock.specs.RwLockProfiles.{rwlock_wants}
use Rattle.steps_rwlock.specs.RwLockSteps.{wanted}
use Rattle.steps_rwlock.specs.declared.purposes.RwLockPurpose.TheVariants as purpose
use Rattle.steps_rwlock_fair.specs.FairCalls.{IsOfBump}
use Rattle.steps_rwlock_fair.specs.declared.places.RwLockCallPlace.TheVariants.{Bump}
use Rattle.core_words.specs.Rights.{MayHand, owner_for}
use Rattle.core_words.specs.Views.{owning}
use Rattle.core_words.specs.declared.owners.Owner.{Owner}
use Rattle.core_words.specs.declared.owners.Owner.TheVariants as owners
use Rattle.core_words.specs.declared.words.WordKind.TheVariants as kinds_of
use Rattle.run_base.specs.Fitting.{call_aim}
use Rattle.run_base.specs.Paths.{rwlock_at}
use Rattle.run_base.specs.RwLockFitting.{IsBeside, OwnsRight}
use Rattle.run_base.specs.Stages.{stage}
use Rattle.std.proofs.Common.{ℕ, Bool, true, false, List, None, ◌≡◌, refl, ap, ◌∙◌, sym, subst}
use Rattle.steps_base.specs.declared.acts.Act.{Act}
use Rattle.steps_base.specs.declared.acts.Act.TheVariants as act
use Rattle.steps_base.specs.declared.acts.Reply.{Reply}
use Rattle.steps_base.specs.declared.acts.Reply.TheVariants.{HandedBy, Woken}
use Rattle.steps_base.specs.declared.acts.TakeWhich.TheVariants as whom
use Rattle.core_base.specs.declared.notes.Note.TheVariants as note
use Rattle.lot_steps.specs.Steps.{rwlock_goes, rwlock_does}
use Rattle.lot_steps.specs.declared.places.Place.TheVariants.{RwLock}
use Rattle.steps_rwlock.specs.declared.park.ParkAt.TheVariants as parking
use Rattle.steps_rwlock.specs.declared.places.Admission.{Admission}
use Rattle.steps_rwlock.specs.declared.places.RwLockAt.{RwLockAt}
use Rattle.steps_rwlock.specs.declared.places.RwLockAt.TheVariants as at
use Rattle.steps_rwlock.specs.declared.places.RwLockPlace.{RwLockPlace}
use Rattle.steps_rwlock.specs.declared.purposes.RwLockPurpose.{RwLockPurpose}
use Rattle.steps_rwlock_fair.specs.declared.places.RwLockCallPlace.{RwLockCallPlace}
use Rattle.steps_rwlock_fair.specs.declared.places.RwLockCallPlace.TheVariants.{Plain}
use Rattle.steps_rwlock_fair.specs.FairSteps.{call_next, given}
use Rattle.core_words.specs.declared.owners.Ownership.{Ownership}
use Rattle.core_words.specs.declared.words.WordKind.{WordKind}
use Rattle.run_base.specs.declared.sleepers.Sleeper.{Sleeper}
use Rattle.run_base.specs.Fitting.{ReachedBy, answer_of, sleeper_at}
use Rattle.run_base.specs.Paths.{rwlocks, at_rwlock}
use Rattle.run_base.specs.RwLockFitting.{FitsRwLock}
use Rattle.run_base.specs.Stages.{ThreadState, Became}

-- ---------------------------------------------------------------- the note that it was told

module _ (up : Type 0) (kinds : ℕ → WordKind) (at : ℕ → ℕ) (sleeper : Sleeper) (st new : ThreadState) where
  -- where it is told of no right, it may as well be one that takes none
  quietly : (reply : Reply) (x : Act) → (reply ≡ Woken note.HandOff → ⊥) → Became up kinds at sleeper st x
      reply new → Became up kinds at (record sleeper { takes_over = false }) st x reply new
  quietly (Woken note.HandOff) x other b = absurd (other refl)
  quietly (Woken note.Normal) act.Sleep other b = b
  quietly (Woken note.Normal) x other b = b
  quietly Late act.Sleep other b = b
  quietly Late x other b = b
  quietly (MovedTo key) act.Sleep other b = b
  quietly (MovedTo key) x other b = b
  quietly reply act.Sleep other b = b
  quietly reply x other b = b

  never_by : (by : ℕ) (alone : Bool) (x : Act) → Became up kinds at sleeper st x (HandedBy by alone) new → ⊥
  never_by by alone (act.Take key whom.First) h = h.0
  never_by by alone (act.Take key (whom.Picked start recursive)) h = h.0
  never_by by alone (act.Take key whom.All) h = h.0
  never_by by alone act.Sleep h = h
  never_by by alone x h = h

  sleeps : (x : Act) → Became up kinds at sleeper st x (Woken note.HandOff) new → x ≡ act.Sleep
  sleeps (act.Take key whom.First) h = absurd h.0
  sleeps (act.Take key (whom.Picked start recursive)) h = absurd h.0
  sleeps (act.Take key whom.All) h = absurd h.0
  sleeps act.Sleep h = refl
  sleeps x h = absurd h

  -- the thread sleeps and is told that it was handed the lock, or it is told of no right
  pub told_plainly : (reply : Reply) (x : Act) → Became up kinds at sleeper st x reply new
      → (((b : Bool) (p : RwLockPlace) → given b p reply ≡ None)
      × Became up kinds at (record sleeper { takes_over = false }) st x reply new)
      ⊎ ((reply ≡ Woken note.HandOff) × Became up kinds at sleeper st act.Sleep (Woken note.HandOff) new)
  told_plainly (HandedBy by alone) x became = absurd (never_by by alone x became)
  told_plainly (Woken note.HandOff) x became =
      inr (
        refl,
        subst (λ (y : Act). Became up kinds at sleeper st y (Woken note.HandOff) new)
            (sleeps x became) became,
      )
  told_plainly reply x became = inl ((λ b p. refl), quietly reply x (λ e. absurd cc) became)

-- ---------------------------------------------------------------- where it goes on

module _ (up : Type 0) (l : ℕ) (a : Admission) (base : List Ownership) (st new : ThreadState) where
  abbrev asleep : RwLockPurpose → Bool → RwLockPlace
  asleep q again = record { purpose = q; retries = again; at = at.Park parking.Asleep }

  -- how it owns the lock, beside what it owned
  abbrev Handed : Want → Type 0
  Handed x = (owner : Owner) × MayHand kinds_of.RwLock x owner
      × (new ≡ stage (owning (rwlock_at l) owner ∷ st.owns) st.inside st.last st.steps)

  -- a writer waits for the last readers, or finds none
  pub writer_looks : (how : Patience) (again : Bool) → FitsRwLock up l base a
      (asleep (purpose.Enter access.Exclusive how) again) st → Handed wants.Exclusive
      → FitsRwLock up l base a (record {
        purpose = purpose.Enter access.Exclusive how;
        retries = false;
        at = at.Look;
      }) new
  writer_looks how again f h = record {
    stands = record { place = f.stands.place; fresh = fresh how; decided = tt };
    room = f.room;
    begun = tt;
    seen = tt;
    stood = tt;
    owns = (h.0, st.owns, h.1, f.owns, ap (λ (s : ThreadState). s.owns) h.2);
    within = ap (λ (s : ThreadState). s.inside) h.2 ∙ f.within;
    late = λ e. absurd cc;
  }
    where
      fresh : (how : Patience) → IsFreshTry how false
      fresh Try = refl
      fresh Patient = tt
      fresh Timed = tt

  reads_now : (o : Owner) (x : Access) (how : Patience) (again : Bool) → FitsRwLock up l base a
      (asleep (purpose.Enter x how) again) st → owner_for (wanted x) ≡ o → (h : (owner : Owner) × (owner ≡ o)
      × (new ≡ stage (owning (rwlock_at l) owner ∷ st.owns) st.inside st.last st.steps))
      → IsBeside l base st.owns → st.inside ≡ None → OwnsRight l (wanted x) base new.owns
      × (new.inside ≡ None)
  reads_now o x how again f is h beside outside = (
    (h.0, st.owns, h.1 ∙ sym is, beside, ap (λ (s : ThreadState). s.owns) h.2),
    ap (λ (s : ThreadState). s.inside) h.2
        ∙ outside,
  )

  abbrev Goes : RwLockCallPlace → Type 0
  Goes c = ReachedBy up base (call_aim l a c) (rwlock_goes l a (call_next a c (Woken note.HandOff)))
      (answer_of (rwlock_does l a (call_next a c (Woken note.HandOff)))) new

  -- as its call is one that enters, or the second half of a bump
  plain_handed : (q : RwLockPurpose) (again : Bool) → FitsRwLock up l base a (asleep q again) st
      → Handed (unwrap_or (rwlock_wants (asleep q again)) wants.Exclusive) → Goes (Plain (asleep q again))
  plain_handed (purpose.Enter access.Exclusive how) again f h = (writer_looks how again f h, refl)
  plain_handed (purpose.Enter access.Shared how) again f h =
      (reads_now owners.Shared access.Shared how again f refl h f.owns f.within, refl)
  plain_handed (purpose.Enter access.Upgradable how) again f h =
      (reads_now owners.Upgradable access.Upgradable how again f refl h f.owns f.within, refl)
  plain_handed (purpose.Upgrade Try) again f h = absurd f.stands.place
  plain_handed (purpose.Upgrade Patient) again f h = absurd f.stands.place
  plain_handed (purpose.Upgrade Timed) again f h = absurd f.stands.place
  plain_handed (purpose.Release access.Shared) again f h = absurd f.stands.place
  plain_handed (purpose.Release access.Upgradable) again f h = absurd f.stands.place
  plain_handed (purpose.Release access.Exclusive) again f h = absurd f.stands.place
  plain_handed (purpose.Downgrade d) again f h = absurd f.stands.place

  bump_handed : (q : RwLockPurpose) (again : Bool) → IsOfBump q again → FitsRwLock up l base a
      (asleep q again) st → Handed (unwrap_or (rwlock_wants (asleep q again)) wants.Exclusive)
      → Goes (Bump (asleep q again))
  bump_handed (purpose.Enter access.Exclusive Patient) again of f h = (
    (tt, writer_looks Patient again f h),
    refl,
  )
  bump_handed (purpose.Enter access.Shared Patient) again of f h =
      (reads_now owners.Shared access.Shared Patient again f refl h f.owns f.within, refl)
  bump_handed (purpose.Enter access.Upgradable Patient) again of f h =
      (reads_now owners.Upgradable access.Upgradable Patient again f refl h f.owns f.within, refl)
  bump_handed (purpose.Enter x Timed) again of f h = absurd of
  bump_handed (purpose.Enter x Try) again of f h = absurd of
  bump_handed (purpose.Upgrade how) again of f h = absurd of
  bump_handed (purpose.Release access.Shared) again of f h = absurd f.stands.place
  bump_handed (purpose.Release access.Upgradable) again of f h = absurd of
  bump_handed (purpose.Release access.Exclusive) again of f h = absurd of
  bump_handed (purpose.Downgrade d) again of f h = absurd of

  never : {A : Type 0} → false ≡ true → A
  never e = absurd cc

  -- the thread was asleep in the main queue
  pub plain_goes : (p : RwLockPlace) → FitsRwLock up l base a p st → Became up rwlocks (at_rwlock l)
      (sleeper_at (RwLock l a (Plain p))) st act.Sleep (Woken note.HandOff) new → Goes (Plain p)
  plain_goes p f h = by_place p.at p.purpose p.retries f h
    where
      by_place : (to : RwLockAt) (q : RwLockPurpose) (again : Bool) → FitsRwLock up l base a (record {
        purpose = q;
        retries = again;
        at = to;
      }) st → Became up rwlocks (at_rwlock l) (sleeper_at (RwLock l a (Plain (record {
        purpose = q;
        retries = again;
        at = to;
      })))) st act.Sleep (Woken note.HandOff) new → Goes (Plain (record {
        purpose = q;
        retries = again;
        at = to;
      }))
      by_place (at.Park parking.Asleep) q again f h = plain_handed q again f (h.0, h.1, h.2)
      by_place (at.Park to) q again f h = never h.3
      by_place to q again f h = never h.3

  pub bump_goes : (p : RwLockPlace) → IsOfBump p.purpose p.retries → FitsRwLock up l base a p st
      → Became up rwlocks (at_rwlock l) (sleeper_at (RwLock l a (Bump p))) st act.Sleep (Woken note.HandOff)
      new → Goes (Bump p)
  bump_goes p of f h = by_place p.at p.purpose p.retries of f h
    where
      by_place : (to : RwLockAt) (q : RwLockPurpose) (again : Bool) → IsOfBump q again
          → FitsRwLock up l base a (record {
            purpose = q;
            retries = again;
            at = to;
          }) st → Became up rwlocks (at_rwlock l) (sleeper_at (RwLock l a (Bump (record {
            purpose = q;
            retries = again;
            at = to;
          })))) st act.Sleep (Woken note.HandOff) new → Goes (Bump (record {
            purpose = q;
            retries = again;
            at = to;
          }))
      by_place (at.Park parking.Asleep) q again of f h = bump_handed q again of f (h.0, h.1, h.2)
      by_place (at.Park to) q again of f h = never h.3
      by_place to q again of f h = never h.3
