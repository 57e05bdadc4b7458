-- A wait that releases its mutex goes out of its section and wakes the threads that it has in hand, itself
-- too where a notification brought it there and it took itself: every lock is a site again.
use Rattle.lot_laws.proofs.Imports
use Imports.{ℕ, Bool, true, false, Option, Some, None, if◌then◌else◌, ◌==◌, ◌≡◌, ◌≢◌, ◌⊎◌, ◌*◌, ◌<◌, [], ◌∷◌}
use Imports.{length, refl, sym, ◌∙◌, ap, subst, inl, inr, cases_eq, get_or-map, One, Act, At, Done, Woken}
use Imports.{wakes_taken, is_thread, hand, taken_from, in_hand, Location, location_by, Place, Condvar, Idle}
use Imports.{next_place, taker, CondvarPlace, Wait, WaiterFate, WaitAt, past_release, row_at_mutex, row_at_condvar}
use Imports.{there}
use Imports.{hand_of, taker_of, wait_row, WaiterFollows, Taken, keep_from, Role, Main, Out, Site, wakened}
use Imports.{State, place_after_telling, place_at, put, state_after_act, state_after_telling}
use Imports.{state_with_sections, acts, taken_at, role_on, location_at, FitsItsLock, Goes, IsInductive}
use Imports.{carried_at, hand_at, key_of, rules_in, site_of}
use Rattle.core_base.specs.declared.notes.Note.TheVariants as note
use Rattle.steps_base.specs.declared.acts.Act.TheVariants as act
use Rattle.steps_mutex.specs.declared.places.MutexPlace.TheVariants as mutex
use Rattle.steps_mutex.specs.declared.unlock.UnlockAt.TheVariants as unlock
use Rattle.steps_condvar.specs.declared.wait.WaiterFate.TheVariants as stands
use Rattle.steps_condvar.specs.declared.wait.WaitAt.TheVariants as wait
use Rattle.spec_locks.specs.Deeds as laws
use Rattle.spec_locks.specs.Locks as locks
use Rattle.lot_laws.proofs.machine.Parts as glue
use Rattle.lot_laws.proofs.machine.Parts.{differ, untaken}
use Rattle.lot_laws.proofs.hands.Handed.{CarriesAt}
use Rattle.lot_laws.proofs.condvar.TwoParts.{nothing_there, location_there, location_beside, taken_beside}
use Rattle.lot_laws.proofs.condvar.Replies.{waiter_hears}
use Rattle.lot_laws.proofs.mutex.Acts.{goes_out_at, goes_out_waking}
use Rattle.lot_laws.proofs.mutex.Hands.{tries}
use Rattle.lot_laws.proofs.mutex.Waiters.{IsHeldThere, calls_mutex_at, held_there, holds_here}
use Rattle.lot_laws.proofs.condvar.WaitWords as beside
use Rattle.lot_laws.proofs.condvar.WaitWords.{StaysAtCondvar}
use Rattle.lot_laws.proofs.sites.WakesAt.{IsWokenAt}
use Rattle.lot_laws.proofs.sites.StandsKept.{AlikeBeside}

-- a thread that is in nobody's hand, or in another's, isn't woken
unwoken : (t : ℕ) (o : Option Taken) (d : Role) → keep_from t o ≡ o → wakened t o d ≡ d
unwoken t None d h = refl
unwoken t (Some x) d h = either (x.by == t) h
  where
    either : (b : Bool) → (if b then None else Some x) ≡ Some x
        → (if b then record d { retries = Some x.want } else d) ≡ d
    either true e = absurd cc
    either false e = refl

module _ (w : State) (t l m : ℕ) (timed : Bool) (inductive : IsInductive w) (is_there : t < length w.places)
    (apart : m ≢ l)
    (sort : (rules_in w m).sort ≡ locks.Mutex) (plain : rules_in w m ≡ glue.mutex)
    (section : key_of m Main < length w.sections) where
  abbrev waits : WaitAt → CondvarPlace
  waits at = Wait m timed at

  abbrev here : Site
  here = site_of w m

  abbrev leaving : Bool → WaiterFate → WaitAt
  leaving any s = wait.Release s (mutex.Unlock (unlock.Leave any))

  abbrev leave : Bool → Act
  leave any = act.Leave (One (2 * m)) (wakes_taken any note.Normal)

  abbrev Kept : Bool → WaiterFate → Type 0
  Kept any s = let v = state_after_act w t (Condvar l (waits (leaving any s))) (leave any)
      in Goes w (put v t (next_place (place_at v t) Done)) m (acts t (Out ∷ []))

  abbrev FitsNext : Bool → WaiterFate → Type 0
  FitsNext any s = let v = state_after_act w t (Condvar l (waits (leaving any s))) (leave any)
      in FitsItsLock w (next_place (place_at v t) Done)

  -- by its row
  abbrev taken_of : WaitAt → Option Taken
  taken_of at = taken_from (row_at_mutex (At (waits at))).hand (row_at_mutex (At (waits at))).wants true

  abbrev beside_of : WaitAt → Location
  beside_of at = location_by (row_at_mutex (At (waits at)))

  -- tells what leaving makes of how it stands
  record GoesOn (any : Bool) (s s2 : WaiterFate) : Type 0 where
    stays : location_by (row_at_condvar (At (waits (past_release s2)))) ≡ there (waits (leaving any s))
    side : beside_of (past_release s2) ≡ record (beside_of (leaving any s)) {
      inside = None;
      has_taken = None;
      hand = (if is_thread t (taker_of s) then None else hand_of s);
    }
    taken : taken_of (past_release s2) ≡ keep_from t (taken_of (leaving any s))
    role : (wait_row m (past_release s2)).role ≡ wakened t (taken_of (leaving any s))
        (wait_row m (past_release s)).role
    told : next_place (place_after_telling t (Woken note.Normal) (Condvar l (waits (leaving any s)))) Done
        ≡ Condvar l (waits (past_release s2))

  goes_on : (any : Bool) (s : WaiterFate) → (hand_of s ≡ hand t true → ⊥) → (s2 : WaiterFate)
      × GoesOn any s s2
  goes_on any stands.Listed h = (
    stands.Listed,
    record {
      stays = refl;
      side = refl;
      taken = refl;
      role = refl;
      told = refl;
    },
  )
  goes_on any stands.Moved h = (
    stands.Moved,
    record {
      stays = refl;
      side = refl;
      taken = refl;
      role = refl;
      told = refl;
    },
  )
  goes_on any (stands.InHand u) h = either (u == t) refl
    where
      either : (b : Bool) → (u == t) ≡ b → (s2 : WaiterFate) × GoesOn any (stands.InHand u) s2
      either true e = (
        stands.Noted note.Normal,
        record {
          stays = refl;
          side = rw e refl;
          taken = rw e refl;
          role = rw e refl;
          told = rw e refl;
        },
      )
      either false e = (
        stands.InHand u,
        record {
          stays = refl;
          side = rw e refl;
          taken = rw e refl;
          role = rw e refl;
          told = rw e refl;
        },
      )
  goes_on any (stands.Handed u) h = either (cases_eq u t)
    where
      either : ((u ≡ t) ⊎ (u ≢ t)) → (s2 : WaiterFate) × GoesOn any (stands.Handed u) s2
      either (inl e) = absurd (h (ap (λ x. hand x true) e))
      either (inr ne) = let f : (u == t) ≡ false = differ u t ne in (
        stands.Handed u,
        record {
          stays = refl;
          side = rw f refl;
          taken = refl;
          role = refl;
          told = rw f refl;
        },
      )
  goes_on any (stands.Noted note.Normal) h = (
    stands.Noted note.Normal,
    record {
      stays = refl;
      side = refl;
      taken = refl;
      role = refl;
      told = refl;
    },
  )
  goes_on any (stands.Noted note.HandOff) h = (
    stands.Noted note.HandOff,
    record {
      stays = refl;
      side = refl;
      taken = refl;
      role = refl;
      told = refl;
    },
  )

  -- ---------------------------------------------------------------- the thread goes out

  module _ (any : Bool) (s : WaiterFate) (is : place_at w t ≡ Condvar l (waits (leaving any s))) where
    location_was : location_at (place_at w t) m ≡ beside_of (leaving any s)
    location_was = ap (λ q. location_at q m) is ∙ location_beside l m apart (At (waits (leaving any s))) refl

    taken_was : taken_at (place_at w t) m ≡ taken_of (leaving any s)
    taken_was = ap (λ q. taken_at q m) is ∙ taken_beside l m apart (At (waits (leaving any s))) refl

    follows : WaiterFollows (rules_in w m) here t m timed (leaving any s) None Done
    follows = beside.follows w t l m timed inductive is_there apart sort (leaving any s) is None Done
        (waiter_hears w t l m timed (leaving any s) inductive is refl)

    -- the thread has nobody in hand elsewhere
    carries_here : CarriesAt m (place_at w t)
    carries_here k ne = ap (λ q. carried_at q k) is ∙ elim (cases_eq k l) [
      | inl e ↦ subst (λ j. carried_at (Condvar l (waits (leaving any s))) j ≡ None) (sym e)
          (ap (λ (y : Location). y.has_taken) (location_there l m apart (At (waits (leaving any s))) refl))
      | inr nl ↦ ap (λ (y : Location). y.has_taken) (nothing_there l m apart (At (waits (leaving any s))) refl k
          nl ne)
    ]

    -- A thread has taken each waiter that it has in hand.
    pub not_given : hand_of s ≡ hand t true → ⊥
    not_given e = by_any any (ap (λ (y : Location). y.has_taken) location_was)
        (inductive.stands.hands.taken t t m true (ap (λ (y : Location). y.hand) location_was ∙ e))
      where
        by_any : (b : Bool) → carried_at (place_at w t) m ≡ in_hand b false → carried_at (place_at w t) m
            ≡ Some true → ⊥
        by_any true a b = let c : Some false ≡ Some true = sym a ∙ b in cc
        by_any false a b = let c : ◌≡◌ {A = Option Bool} None (Some true) = sym a ∙ b in cc

    goes : (s2 : WaiterFate) × GoesOn any s s2
    goes = goes_on any s not_given

    abbrev p2 : Place
    p2 = Condvar l (waits (past_release goes.0))

    stays : StaysAtCondvar w t l m timed inductive is_there apart sort (leaving any s)
        (At (waits (past_release goes.0)))
    stays = (refl, goes.1.stays)

    abbrev alike : AlikeBeside m (place_at w t) p2
    alike = beside.alike w t l m timed inductive is_there apart sort (leaving any s) is
        (At (waits (past_release goes.0))) stays

    location_then : location_at p2 m ≡ beside_of (past_release goes.0)
    location_then = location_beside l m apart (At (waits (past_release goes.0))) refl

    -- how it stands then, but for the threads that it has in hand
    side : location_at p2 m ≡ record (location_at (place_at w t) m) {
      inside = None;
      has_taken = None;
      hand =
          (if is_thread t (taker_of s) then None else hand_of s);
    }
    side = location_then ∙ goes.1.side ∙ sym (ap (λ (y : Location). record y {
      inside = None;
      has_taken = None;
      hand = (if is_thread t (taker_of s) then None else hand_of s);
    }) location_was)

    -- tells what it does then
    role : (laws.after_all (rules_in w m) (Out ∷ []) here t).role t ≡ role_on p2 m
    role = follows.role ∙ ap (λ o. wakened t o (wait_row m (past_release s)).role) taken_was
        ∙ sym goes.1.role ∙ sym (beside.does_next w t l m timed inductive is_there apart sort
        (At (past_release goes.0)) refl)

    taken_then : taken_at p2 m ≡ keep_from t (taken_at (place_at w t) m)
    taken_then = taken_beside l m apart (At (waits (past_release goes.0))) refl ∙ goes.1.taken
        ∙ sym (ap (keep_from t) taken_was)

  -- a thread that it has in hand tries again
  module _ (s : WaiterFate) (is : place_at w t ≡ Condvar l (waits (leaving true s))) where
    abbrev then_at : Place
    then_at = Condvar l (waits (past_release (goes true s is).0))

    woken : (u : ℕ) (b : Bool) → hand_at (place_at w u) m ≡ hand t b → IsWokenAt w t m note.Normal
        (place_at w u)
    woken u b held = by_hand b held taken_only
      where
        taken_only : Some false ≡ Some b
        taken_only = sym (ap (λ (y : Location). y.has_taken) (location_was true s is))
            ∙ inductive.stands.hands.taken t u m b held

        by_hand : (b : Bool) → hand_at (place_at w u) m ≡ hand t b → Some false ≡ Some b
            → IsWokenAt w t m note.Normal (place_at w u)
        by_hand false held e = let k : IsHeldThere m t (place_at w u) = held_there (place_at w u) t m
            (calls_mutex_at w m (place_at w u) (inductive.stands.calls u) plain) held in
            record {
              lets = tries m t (place_at w u) k;
              goes = k.woken.location;
              alike = k.woken.others;
              fits = k.woken.fits tt w (inductive.stands.calls u);
            }
        by_hand true held e = absurd cc

    abbrev told_state : State
    told_state = state_after_telling (state_with_sections w (One (2 * m)) None) t (Woken note.Normal)

    told_place : next_place (place_at told_state t) Done ≡ then_at
    told_place = ap (λ q. next_place q Done) (get_or-map (place_after_telling t (Woken note.Normal)) w.places
        t Idle ∙ ap (place_after_telling t (Woken note.Normal)) is) ∙ (goes true s is).1.told

    own_hand : (location_at then_at m).hand
        ≡ (if is_thread t (taker (place_at w t)) then None else (location_at (place_at w t) m).hand)
    own_hand = ap (λ (y : Location). y.hand) (side true s is)
        ∙ sym (ap (λ q. if is_thread t (taker q) then None else (location_at (place_at w t) m).hand) is
        ∙ ap (λ o. if is_thread t o then None else (location_at (place_at w t) m).hand) (taker_is s)
        ∙ ap (λ (y : Location). if is_thread t (taker_of s) then None else y.hand) (location_was true s is))
      where
        taker_is : (s : WaiterFate) → taker (Condvar l (waits (leaving true s))) ≡ taker_of s
        taker_is stands.Listed = refl
        taker_is stands.Moved = refl
        taker_is (stands.InHand by) = refl
        taker_is (stands.Handed by) = refl
        taker_is (stands.Noted by) = refl

    pub leaves_waking : FitsNext true s → Kept true s
    leaves_waking fits = subst (λ q. Goes w (put told_state t q) m (acts t (Out ∷ []))) (sym told_place)
        (goes_out_waking w t m inductive is_there sort then_at (alike true s is)
        (subst (FitsItsLock w) told_place fits) section (holds_here w t m inductive (carries_here true s is))
        woken
        (ap (λ (y : Location). y.inside) (location_was true s is)) (ap (λ (y : Location). y.inside)
        (side true s is)) (ap (λ (y : Location). y.has_taken) (side true s is))
        (ap (λ (y : Location). y.stands) (side true s is)) (ap (λ (y : Location). y.waits)
        (side true s is))
        own_hand (taken_then true s is) (Out ∷ []) tt (follows true s is).needed (role true s is))

  -- ---------------------------------------------------------------- nobody is in hand

  module _ (s : WaiterFate) (is : place_at w t ≡ Condvar l (waits (leaving false s))) where
    abbrev out_at : Place
    out_at = Condvar l (waits (past_release s))

    out_there : (s : WaiterFate) → location_by (row_at_condvar (At (waits (past_release s)))) ≡ there
        (waits (leaving false s))
    out_there stands.Listed = refl
    out_there stands.Moved = refl
    out_there (stands.InHand by) = refl
    out_there (stands.Handed by) = refl
    out_there (stands.Noted note.Normal) = refl
    out_there (stands.Noted note.HandOff) = refl

    out_beside : (s : WaiterFate) → beside_of (past_release s) ≡ record (beside_of (leaving false s)) {
      inside =
          None;
    }
    out_beside stands.Listed = refl
    out_beside stands.Moved = refl
    out_beside (stands.InHand by) = refl
    out_beside (stands.Handed by) = refl
    out_beside (stands.Noted note.Normal) = refl
    out_beside (stands.Noted note.HandOff) = refl

    out_taken : (s : WaiterFate) → taken_of (past_release s) ≡ taken_of (leaving false s)
    out_taken stands.Listed = refl
    out_taken stands.Moved = refl
    out_taken (stands.InHand by) = refl
    out_taken (stands.Handed by) = refl
    out_taken (stands.Noted note.Normal) = refl
    out_taken (stands.Noted note.HandOff) = refl

    abbrev out_stays : StaysAtCondvar w t l m timed inductive is_there apart sort (leaving false s)
        (At (waits (past_release s)))
    out_stays = (refl, out_there s)

    -- nor is it in its own
    unheld : keep_from t (taken_at (place_at w t) m) ≡ taken_at (place_at w t) m
    unheld = untaken (place_at w t) t m (λ h. let a : carried_at (place_at w t) m ≡ Some false =
        inductive.stands.hands.taken t t m false h in
        let b : carried_at (place_at w t) m ≡ None = ap (λ (y : Location). y.has_taken)
        (location_was false s is) in let c : ◌≡◌ {A = Option Bool} None (Some false) = sym b ∙ a in cc)

    pub leaves_nobody : FitsNext false s → Kept false s
    leaves_nobody fits = subst (λ p. FitsItsLock w (next_place p Done)
        → Goes w (put (state_with_sections w (One (2 * m)) None) t (next_place p Done)) m (acts t (Out ∷ [])))
        (sym is)
        (λ fits. goes_out_at w t m inductive is_there sort out_at (beside.alike w t l m timed inductive
        is_there
        apart sort (leaving false s) is (At (waits (past_release s))) out_stays) fits section
        (ap (λ (y : Location). y.inside) (location_was false s is)) (ap (λ (y : Location). y.has_taken)
        (location_was false s is)) (Out ∷ []) tt (follows false s is).needed
        ((follows false s is).role ∙ unwoken t (taken_at (place_at w t) m)
        (wait_row m (past_release s)).role unheld
        ∙ sym (beside.does_next w t l m timed inductive is_there apart sort (At (past_release s)) refl))
        (location_beside l m apart (At (waits (past_release s))) refl ∙ out_beside s
        ∙ sym (ap (λ (y : Location). record y { inside = None }) (location_was false s is)))
        (taken_was false s is ∙ sym (out_taken s)
        ∙ sym (taken_beside l m apart (At (waits (past_release s))) refl)) unheld) fits
