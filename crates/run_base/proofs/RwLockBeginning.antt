-- The first step of a reader-writer call, and where it leads.
use Rattle.std.proofs.Common.{ℕ, Bool, true, false, List, ◌∷◌, Option, Some, None, if◌then◌else◌, ◌==◌, ◌&&◌}
use Rattle.std.proofs.Common.{◌≡◌, inl, inr, ◌-◌, ◌/◌, ◌^◌, ◌<◌, refl, ap, ◌∙◌, sym, subst, eq-eqb, ne_eqb}
use mathlib.Core.Logic.{dite}
use native.Mathlib.Decide.{ℕ_discrete}
use Rattle.core_base.specs.declared.keys.Line.{Line}
use Rattle.core_base.specs.declared.keys.Line.TheVariants.{Main, Second}
use Rattle.core_base.specs.declared.ops.Op.{Op}
use Rattle.core_base.specs.declared.ops.Op.TheVariants.{Sub, Add}
use Rattle.core_base.specs.declared.wants.Want.TheVariants as wants
use Rattle.spec_locks.specs.declared.calls.Access.{Access}
use Rattle.spec_locks.specs.declared.calls.Access.TheVariants as access
use Rattle.spec_locks.specs.declared.calls.Downgrade.{Downgrade}
use Rattle.spec_locks.specs.declared.calls.Downgrade.TheVariants as downgrade
use Rattle.spec_locks.specs.declared.calls.Patience.{Patience}
use Rattle.spec_locks.specs.declared.calls.Patience.TheVariants.{Patient, Timed, Try}
use Rattle.spec_locks.specs.declared.outcomes.Answer.{Answer}
use Rattle.spec_locks.specs.declared.outcomes.Answer.TheVariants.{Ok}
use Rattle.spec_locks.specs.Codes.{count_in, has_aside, has_parked}
use Rattle.spec_locks.specs.Sites.{Claim, Has, Pends}
use Rattle.steps_base.specs.declared.acts.Act.TheVariants as act
use Rattle.steps_base.specs.declared.acts.Next.{Next}
use Rattle.steps_base.specs.declared.acts.Next.TheVariants.{At, End}
use Rattle.steps_base.specs.declared.acts.Reply.TheVariants.{Value}
use Rattle.steps_rwlock.proofs.RwLockOpenings.{rwlock_calls_open}
use Rattle.steps_rwlock.proofs.RwLockStands.{rwlock_calls_stand}
use Rattle.steps_rwlock.specs.RwLockBegins.{rwlock_first}
use Rattle.steps_rwlock.specs.RwLockCalls.{MayBeTold, MayStandNext}
use Rattle.steps_rwlock.specs.RwLockDeeds.{kept_claim, rwlock_role}
use Rattle.steps_rwlock.specs.RwLockProfiles.{is_late, late_at, rwlock_profile}
use Rattle.steps_rwlock.specs.RwLockSteps.{wanted, from_of, to_of, start_of, entered, give_op, goes, wakes}
use Rattle.steps_rwlock.specs.RwLockSteps.{wakes_or_ends, released, rwlock_next}
use Rattle.steps_rwlock.specs.declared.places.Admission.{Admission}
use Rattle.steps_rwlock.specs.declared.places.RwLockAt.TheVariants as at
use Rattle.steps_rwlock.specs.declared.places.RwLockPlace.{RwLockPlace}
use Rattle.steps_rwlock.specs.declared.purposes.RwLockPurpose.{RwLockPurpose}
use Rattle.steps_rwlock.specs.declared.purposes.RwLockPurpose.TheVariants as purpose
use Rattle.core_words.specs.Steps.{MayStep, owns_after_step}
use Rattle.core_words.specs.Views.{owning}
use Rattle.core_words.specs.declared.owners.Owner.{Owner}
use Rattle.core_words.specs.declared.owners.Owner.TheVariants as owners
use Rattle.core_words.specs.declared.owners.Ownership.{Ownership}
use Rattle.core_words.specs.declared.words.WordKind.TheVariants as kinds
use Rattle.core_words.proofs.RwLockKinds.{rwlock_steps}
use Rattle.core_words.proofs.RwLockOwning.{downgraded, downgraded_to_upgradable, exclusive_is_left, fits}
use Rattle.core_words.proofs.RwLockOwning.{shared_is_left, upgradable_downgraded, upgradable_is_left}
use Rattle.core_words.proofs.RwLockOwning.{upgraded_alone, upgraded_beside}
use Rattle.lot_steps.specs.Steps.{act_of}
use Rattle.run_base.specs.Paths.{rwlock_at}
use Rattle.run_base.specs.RwLockCalls.{AnswersCall, BeginsWith, first_op, rwlock_begin}
use Rattle.run_base.specs.RwLockFitting.{Answers, FitsRwLock, HasGivenWay, SeenInRange, HasStood, IsWithin}
use Rattle.run_base.specs.RwLockFitting.{IsBeside, OwnsBeside, OwnsRight}
use Rattle.run_base.specs.Stages.{ThreadState, Stepped}
use Rattle.run_base.proofs.RwLockLeads.{Comes, Kept, leads_at}
use Rattle.run_base.proofs.RwLockNeeds.{has_right}

pub begins_with : (l : ℕ) (a : Admission) (c : RwLockPurpose) → act_of (rwlock_begin l a c) ≡ act.Word l
    (first_op c)
begins_with l a (purpose.Enter access.Shared how) = refl
begins_with l a (purpose.Enter access.Upgradable how) = refl
begins_with l a (purpose.Enter access.Exclusive how) = refl
begins_with l a (purpose.Release x) = refl
begins_with l a (purpose.Downgrade d) = refl
begins_with l a (purpose.Upgrade Try) = refl
begins_with l a (purpose.Upgrade Patient) = refl
begins_with l a (purpose.Upgrade Timed) = refl

-- a thread that has the right that its call needs may take the first step
pub may_begin : (l : ℕ) (c : RwLockPurpose) (base owns : List Ownership) → BeginsWith l c base owns
    → MayStep kinds.RwLock (rwlock_at l) (first_op c) owns
may_begin l (purpose.Enter access.Shared how) base owns b = (rwlock_steps (rwlock_at l) owns).load
may_begin l (purpose.Enter access.Upgradable how) base owns b = (rwlock_steps (rwlock_at l) owns).load
may_begin l (purpose.Enter access.Exclusive how) base owns b = (rwlock_steps (rwlock_at l) owns).write_alone
may_begin l (purpose.Release access.Shared) base owns b = (rwlock_steps (rwlock_at l) owns).leave_shared
    (has_right l owners.Shared base owns b)
may_begin l (purpose.Release access.Upgradable) base owns b =
    (rwlock_steps (rwlock_at l) owns).leave_upgradable (has_right l owners.Upgradable base owns b)
may_begin l (purpose.Release access.Exclusive) base owns b = (rwlock_steps (rwlock_at l) owns).leave_exclusive
    (has_right l owners.Exclusive base owns b)
may_begin l (purpose.Downgrade downgrade.ToShared) base owns b = (rwlock_steps (rwlock_at l) owns).downgrade
    (has_right l owners.Exclusive base owns b)
may_begin l (purpose.Downgrade downgrade.ToUpgradable) base owns b =
    (rwlock_steps (rwlock_at l) owns).downgrade_to_upgradable (has_right l owners.Exclusive base owns b)
may_begin l (purpose.Downgrade downgrade.UpgradableToShared) base owns b =
    (rwlock_steps (rwlock_at l) owns).downgrade_upgradable (has_right l owners.Upgradable base owns b)
may_begin l (purpose.Upgrade Try) base owns b = (rwlock_steps (rwlock_at l) owns).load
may_begin l (purpose.Upgrade Patient) base owns b = (rwlock_steps (rwlock_at l) owns).upgrade
    (has_right l owners.Upgradable base owns b)
may_begin l (purpose.Upgrade Timed) base owns b = (rwlock_steps (rwlock_at l) owns).upgrade
    (has_right l owners.Upgradable base owns b)

-- tells what the first step came to
abbrev pub ComesBegun : Type 0 → ℕ → List Ownership → Admission → RwLockPurpose → Next RwLockPlace
    → ThreadState
    → Type 0
ComesBegun up l base a q (At p) st = Kept up l base a p st × (p.purpose ≡ q)
ComesBegun up l base a q (End answer) st = (st.inside ≡ None) × AnswersCall up l base a q answer st

module _ (up : Type 0) (l : ℕ) (a : Admission) (base : List Ownership) (st new : ThreadState) (seen : ℕ)
    (outside : st.inside ≡ None) where
  abbrev Step : Op → Type 0
  Step op = Stepped kinds.RwLock (rwlock_at l) op seen st new

  owns_now : (op : Op) (c : Option Claim) → Step op
      → OwnsBeside l c base (owns_after_step kinds.RwLock (rwlock_at l) op seen st.owns)
      → OwnsBeside l c base new.owns
  owns_now op c b = subst (OwnsBeside l c base) (sym (ap (λ (s : ThreadState). s.owns) b.1))

  none_now : (op : Op) → Step op → new.inside ≡ None
  none_now op b = ap (λ (s : ThreadState). s.inside) b.1 ∙ outside

  of_owner : (o w : Owner) (rest : List Ownership) → w ≡ o → st.owns ≡ owning (rwlock_at l) w ∷ rest
      → st.owns ≡ owning (rwlock_at l) o ∷ rest
  of_owner o w rest is e = e ∙ ap (λ (x : Owner). owning (rwlock_at l) x ∷ rest) is

  -- the thread ends, or goes to wake others of a line
  wakes_some : (q : RwLockPurpose) (m : Line) (b : Bool) → (late_at is_late q (wakes m) ≡ true → up)
      → OwnsBeside l (kept_claim (start_of q)) base new.owns → new.inside ≡ None
      → AnswersCall up l base a q Ok new
      → ComesBegun up l base a q (wakes_or_ends (record {
        purpose = q;
        retries = false;
        at = at.GiveWay;
      }) m b) new
  wakes_some q m true late owns none over = (
    record {
      begun = tt;
      seen = tt;
      owns = owns;
      within = none;
      stood = tt;
      late = late;
    },
    refl,
  )
  wakes_some q m false late owns none over = (none, over)

  never_late : {A : Type 0} → false ≡ true → A
  never_late e = absurd cc

  gave_right : (x : Access) → OwnsBeside l (Some (Has (wanted x))) base st.owns
      → Step (give_op (purpose.Release x)) → IsBeside l base new.owns
  gave_right access.Shared c b = owns_now (Sub 16) None b (λ settled. shared_is_left (rwlock_at l) seen
      st.owns b.0 c.1 (of_owner owners.Shared c.0 c.1 c.2 c.4) ∙ c.3 settled)
  gave_right access.Upgradable c b = owns_now (Sub 20) None b (λ settled. upgradable_is_left (rwlock_at l)
      seen st.owns b.0 c.1 (of_owner owners.Upgradable c.0 c.1 c.2 c.4) ∙ c.3 settled)
  gave_right access.Exclusive c b = owns_now (Sub 8) None b (λ settled. exclusive_is_left (rwlock_at l) seen
      st.owns b.0 c.1 (of_owner owners.Exclusive c.0 c.1 c.2 c.4) ∙ c.3 settled)

  turned_right : (d : Downgrade) → OwnsBeside l (Some (Has (wanted (from_of d)))) base st.owns
      → Step (give_op (purpose.Downgrade d)) → OwnsRight l (wanted (to_of d)) base new.owns
  turned_right downgrade.ToShared c b = owns_now (Add 8) (Some (Has wants.Shared)) b (
    owners.Shared,
    c.1,
    refl,
    c.3,
    downgraded (rwlock_at l) seen st.owns b.0 c.1 (of_owner owners.Exclusive c.0 c.1 c.2 c.4),
  )
  turned_right downgrade.ToUpgradable c b = owns_now (Add 12) (Some (Has wants.Upgradable)) b (
    owners.Upgradable,
    c.1,
    refl,
    c.3,
    downgraded_to_upgradable (rwlock_at l) seen st.owns b.0 c.1
        (of_owner owners.Exclusive c.0 c.1 c.2 c.4),
  )
  turned_right downgrade.UpgradableToShared c b = owns_now (Sub 4) (Some (Has wants.Shared)) b (
    owners.Shared,
    c.1,
    refl,
    c.3,
    upgradable_downgraded (rwlock_at l) seen st.owns b.0 c.1
        (of_owner owners.Upgradable c.0 c.1 c.2 c.4),
  )

  gave_release : (x : Access) → OwnsBeside l (Some (Has (wanted x))) base st.owns
      → Step (give_op (purpose.Release x)) → ComesBegun up l base a (purpose.Release x) (released (record {
        purpose = purpose.Release x;
        retries = false;
        at = at.GiveWay;
      }) seen x) new
  gave_release access.Shared c b = let left = gave_right access.Shared c b
      in wakes_some (purpose.Release access.Shared) Second (has_aside seen && (count_in seen == 1))
      (λ e. never_late e) left (none_now (Sub 16) b) (refl, left)
  gave_release access.Upgradable c b = let left = gave_right access.Upgradable c b
      in wakes_some (purpose.Release access.Upgradable) Main (has_parked seen) (λ e. never_late e) left
      (none_now (Sub 20) b) (refl, left)
  gave_release access.Exclusive c b = let left = gave_right access.Exclusive c b
      in wakes_some (purpose.Release access.Exclusive) Main (has_parked seen) (λ e. never_late e) left
      (none_now (Sub 8) b) (refl, left)

  gave_downgrade : (d : Downgrade) → OwnsBeside l (Some (Has (wanted (from_of d)))) base st.owns
      → Step (give_op (purpose.Downgrade d)) → ComesBegun up l base a (purpose.Downgrade d)
      (wakes_or_ends (record {
        purpose = purpose.Downgrade d;
        retries = false;
        at = at.GiveWay;
      }) Main (has_parked seen)) new
  gave_downgrade d c b = let right = turned_right d c b in wakes_some (purpose.Downgrade d) Main
      (has_parked seen) (λ e. never_late e) right (none_now (give_op (purpose.Downgrade d)) b) (refl, right)

  gave_upgrade : (how : Patience) → OwnsBeside l (Some (Has wants.Upgradable)) base st.owns → Step (Sub 12)
      → ComesBegun up l base a (purpose.Upgrade how) (if count_in seen == 1 then End (entered how)
      else goes (record {
        purpose = purpose.Upgrade how;
        retries = false;
        at = at.GiveWay;
      }) at.Look false) new
  gave_upgrade how c b = dite (ℕ_discrete (seen / 16) 1)
      (λ one. rw (eq-eqb (seen / 16) 1 one) (
        none_now (Sub 12) b,
        inl (
          refl,
          owns_now (Sub 12) (Some (Has wants.Exclusive)) b (
            owners.Exclusive,
            c.1,
            refl,
            c.3,
            upgraded_alone (rwlock_at l) seen st.owns b.0 c.1 (of_owner owners.Upgradable c.0 c.1 c.2 c.4)
                one,
          ),
        ),
      ))
      (λ more. rw (ne_eqb (seen / 16) 1 more) (
        record {
          begun = tt;
          seen = tt;
          stood = tt;
          owns = owns_now (Sub 12) (Some (Pends true)) b (
            owners.Upgrading,
            c.1,
            inr refl,
            c.3,
            upgraded_beside (rwlock_at l) seen st.owns b.0 c.1 (of_owner owners.Upgradable c.0 c.1 c.2 c.4)
                more,
          );
          within = none_now (Sub 12) b;
          late = λ e. never_late e;
        },
        refl,
      ))

  module _ (room : a.limit < 2 ^ 60 - 1) where
    -- a call that enters, or tries to upgrade, begins at a place that fits
    fits_first : (c : RwLockPurpose) → HasGivenWay (rwlock_first c).at → SeenInRange (rwlock_first c).at
        → HasStood l (rwlock_first c).at st.steps → (rwlock_role (rwlock_first c)).inside ≡ None
        → ((rwlock_profile a (rwlock_first c)).late ≡ true → up) → BeginsWith l c base st.owns
        → FitsRwLock up l base a (rwlock_first c) st
    fits_first c begun seen stood inside late owns = record {
      stands = (rwlock_calls_open a c).stands;
      room = room;
      begun = begun;
      seen = seen;
      stood = stood;
      owns = owns;
      within = subst (λ (o : Option Line). IsWithin l a c o (rwlock_role (rwlock_first c)).has_taken st.inside)
          (sym inside) outside;
      late = late;
    }

    first_enters : (q : RwLockPurpose) (n : Next RwLockPlace)
        → ((answer : Answer) → Answers up l base a q answer new → AnswersCall up l base a q answer new)
        → Comes up l base a q n new → ComesBegun up l base a q n new
    first_enters q (At p) same c = c
    first_enters q (End answer) same c = (c.0, same answer c.1)

    pub begun_comes : (c : RwLockPurpose) → BeginsWith l c base st.owns → Step (first_op c)
        → ComesBegun up l base a c (rwlock_next a (rwlock_first c) (Value seen)) new
    begun_comes (purpose.Enter access.Exclusive how) owns b =
        first_enters (purpose.Enter access.Exclusive how)
        (rwlock_next a (rwlock_first (purpose.Enter access.Exclusive how)) (Value seen)) (λ answer h. h)
        (leads_at up l a base (purpose.Enter access.Exclusive how) false st new at.First
        (fits_first (purpose.Enter access.Exclusive how) tt tt tt refl (λ e. never_late e) owns)
        (Value seen) b).0
    begun_comes (purpose.Enter access.Shared how) owns b = first_enters (purpose.Enter access.Shared how)
        (rwlock_next a (rwlock_first (purpose.Enter access.Shared how)) (Value seen)) (λ answer h. h)
        (leads_at up l a base (purpose.Enter access.Shared how) false st new at.Load
        (fits_first (purpose.Enter access.Shared how) tt tt tt refl (λ e. never_late e) owns) (Value seen)
        b).0
    begun_comes (purpose.Enter access.Upgradable how) owns b =
        first_enters (purpose.Enter access.Upgradable how)
        (rwlock_next a (rwlock_first (purpose.Enter access.Upgradable how)) (Value seen)) (λ answer h. h)
        (leads_at up l a base (purpose.Enter access.Upgradable how) false st new at.Load
        (fits_first (purpose.Enter access.Upgradable how) tt tt tt refl (λ e. never_late e) owns)
        (Value seen) b).0
    begun_comes (purpose.Upgrade Try) owns b = first_enters (purpose.Upgrade Try)
        (rwlock_next a (rwlock_first (purpose.Upgrade Try)) (Value seen)) (λ answer h. h)
        (leads_at up l a base (purpose.Upgrade Try) false st new at.Load (fits_first (purpose.Upgrade Try) tt
        tt tt refl (λ e. never_late e) owns) (Value seen) b).0
    begun_comes (purpose.Upgrade Patient) owns b = gave_upgrade Patient owns b
    begun_comes (purpose.Upgrade Timed) owns b = gave_upgrade Timed owns b
    begun_comes (purpose.Release x) owns b = gave_release x owns b
    begun_comes (purpose.Downgrade d) owns b = gave_downgrade d owns b

    -- the next place fits, or the call has ended rightly
    abbrev pub Begun : RwLockPurpose → Next RwLockPlace → Type 0
    Begun q (At p) = FitsRwLock up l base a p new × (p.purpose ≡ q)
    Begun q (End answer) = (new.inside ≡ None) × AnswersCall up l base a q answer new

    pub begun : (c : RwLockPurpose) → BeginsWith l c base st.owns → Step (first_op c)
        → Begun c (rwlock_next a (rwlock_first c) (Value seen))
    begun c owns b = by_next (rwlock_next a (rwlock_first c) (Value seen))
        (rwlock_calls_stand a (rwlock_first c) (Value seen) (rwlock_calls_open a c).stands
        (told c (fits (rwlock_at l) seen st.owns b.0))) (begun_comes c owns b)
      where
        told : (c : RwLockPurpose) → seen < 2 ^ 64 → MayBeTold a (rwlock_first c) (rwlock_first c).at
            (Value seen)
        told (purpose.Enter access.Exclusive how) s = s
        told (purpose.Enter access.Shared how) s = s
        told (purpose.Enter access.Upgradable how) s = s
        told (purpose.Upgrade Try) s = s
        told (purpose.Upgrade Patient) s = s
        told (purpose.Upgrade Timed) s = s
        told (purpose.Release x) s = s
        told (purpose.Downgrade d) s = s

        by_next : (n : Next RwLockPlace) → MayStandNext a n → ComesBegun up l base a c n new → Begun c n
        by_next (At p) stands k = (
          record {
            stands = stands;
            room = room;
            begun = k.0.begun;
            seen = k.0.seen;
            owns = k.0.owns;
            within = k.0.within;
            stood = k.0.stood;
            late = k.0.late;
          },
          k.1,
        )
        by_next (End answer) stands k = k
