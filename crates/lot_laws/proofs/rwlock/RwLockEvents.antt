-- Each step of a thread in a call of a reader-writer lock is a step of the abstract locks, and a call begins
-- where it has its right.
use Rattle.lot_laws.proofs.Imports
use Imports.{ℕ, Bool, true, false, Option, Some, None, if◌then◌else◌, ◌==◌, not, ◌≡◌, ◌≤◌, ◌<◌, ◌⊎◌, inl, inr}
use Imports.{length, get_or-set_same, refl, sym, ◌∙◌, ap, subst, arith, is_closure, nat_tests, Access}
use Imports.{RwLockCall, Kind, Act, Next, Reply, outcome_of, Hand, Profile, hand, taken_from, Location}
use Imports.{Admission, RwLockPlace, has_access, from_of, rwlock_next, wanted, RwLockCallPlace, RwLockPurpose}
use Imports.{Ok, Done, HandedBy, Picked, Value, Woken, Normal, Plain, PeekQueue, HandOver, Bump, Handed}
use Imports.{HandOverAt, CallMoves, call_hears, call_move, any_taken, bump_next, call_act, call_next}
use Imports.{enters_again, freed_next, given, gives_up_at, gives_way, hand_over_next, has_room, looked}
use Imports.{plain_next, took, unless_given, fair_acts_move, never_given, call_first, call_right, CallOpens}
use Imports.{next_rows, call_profile, calls_open, Idle, RwLock, calls, called_lock, next_act, profile}
use Imports.{rwlock_does, rwlock_goes, LockCase, Owns, Rights, standing, purpose_of, rules_of, rwlock_purpose}
use Imports.{GoesOn, HasRight, new_call, has_readers, State, can_do, owners_at, place_at, reply_to, share_at}
use Imports.{state_after_act, IsWellFormed, performed_counts, call_state, lock_state, locks_of, taken_at}
use Imports.{AreCounted, FitsItsLock, IsInductive, rules_in}
use Rattle.lot_laws.proofs.calls.Closures.{call_runs_none, closure_told}
use Rattle.lot_laws.proofs.rwlock.RwLockStaysASite.{admits, stands}
use Rattle.lot_laws.proofs.calls.CallEvents.{RunsNothing, begins_nothing, runs_nothing}
use Rattle.spec_locks.specs.declared.calls.Access.TheVariants as access
use Rattle.spec_locks.specs.declared.calls.Call.TheVariants as call
use Rattle.spec_locks.specs.declared.calls.RwLockCall.TheVariants as rwlock_call
use Rattle.spec_locks.specs.declared.kinds.Kind.TheVariants as kind
use Rattle.spec_locks.specs.declared.outcomes.Outcome.TheVariants as outcome
use Rattle.steps_base.specs.declared.acts.Act.TheVariants as act
use Rattle.steps_base.specs.declared.acts.Next.TheVariants as next
use Rattle.steps_base.specs.declared.acts.TakeWhich.TheVariants as whom
use Rattle.steps_rwlock.specs.declared.purposes.RwLockPurpose.TheVariants as purpose
use Rattle.core_base.specs.declared.notes.Note.TheVariants.{HandOff}
use Rattle.steps_rwlock_fair.specs.declared.hand_over.HandOverAt.TheVariants as handing
use Rattle.steps_rwlock_fair.specs.declared.handed.HandedAt.TheVariants as handed
use Rattle.steps_rwlock_fair.specs.FairSteps.{released}
use Rattle.lot_laws.proofs.calls.CallEvents.{LeadsTo, goes_by}
use Rattle.lot_laws.proofs.machine.Parts.{IsSingle, is_owner, thread_is}
use Rattle.lot_laws.proofs.promises.PlacePromises.{waiting_stands}
use Rattle.lot_laws.proofs.promises.RowPromises.{IsWaiting, RowPromises, WasHanded, is_acting}
use Rattle.lot_laws.proofs.rwlock.RwLockStepsAreEvents.{GoesOnBy, case_by, rwlock_goes_on}
use Rattle.lot_laws.proofs.rwlock.CallRows.{call_promises}
use Rattle.lot_laws.proofs.sites.SitesKept.{go_by}

-- ---------------------------------------------------------------- a thread goes on

-- a thread that goes on by an act of its own, and sleeps, was not handed the lock
abbrev CallAwake : Profile → Act → Type 0
CallAwake row y = (u : ℕ) → row.hand ≡ hand u true → ⊥

abbrev NextAwake : Admission → ℕ → Next RwLockCallPlace → Type 0
NextAwake a l (next.At q) = CallAwake (call_profile a q) (call_act l a q)
NextAwake a l (next.End answer) = Unit {0}

in_no_hand_now : (a : Admission) (c : RwLockCallPlace) → (call_profile a c).hand ≡ None → (u : ℕ)
    → (call_profile a c).hand ≡ hand u true → ⊥
in_no_hand_now a c none u h = let f : ◌≡◌ {A = Option Hand} None (hand u true) = sym none ∙ h in cc

enters_again_bare : (a : Admission) (x : Access) → (call_profile a (enters_again x)).hand ≡ None
enters_again_bare a access.Exclusive = refl
enters_again_bare a access.Upgradable = refl
enters_again_bare a access.Shared = refl

released_awake : (l : ℕ) (a : Admission) (x : Access) (b : Bool) → NextAwake a l (released x b)
released_awake l a x true = in_no_hand_now a (enters_again x) (enters_again_bare a x)
released_awake l a x false = tt

gives_up_awake : (l : ℕ) (a : Admission) (x : Access) (b : Bool)
    → NextAwake a l (if b then next.At (gives_up_at x) else next.End Ok)
gives_up_awake l a access.Shared true = in_no_hand_now a (gives_up_at access.Shared) refl
gives_up_awake l a access.Upgradable true = in_no_hand_now a (gives_up_at access.Upgradable) refl
gives_up_awake l a access.Exclusive true = in_no_hand_now a (gives_up_at access.Exclusive) refl
gives_up_awake l a x false = tt

module _ (l : ℕ) (a : Admission) (x : Access) (b : Bool) where
  -- a thread that hands over is in nobody's hand
  goes_bare : (to : HandOverAt) → NextAwake a l (next.At (HandOver x b to))
  goes_bare to = in_no_hand_now a (HandOver x b to) refl

  either_bare : (c : Bool) (to : HandOverAt)
      → NextAwake a l (if c then released x b else next.At (HandOver x b to))
  either_bare true to = released_awake l a x b
  either_bare false to = goes_bare to

  hands_bare : (c : Bool) (to too : HandOverAt)
      → NextAwake a l (if c then next.At (HandOver x b to) else next.At (HandOver x b too))
  hands_bare true to too = goes_bare to
  hands_bare false to too = goes_bare too

  handing_awake : (to : HandOverAt) (told : Reply) → NextAwake a l (hand_over_next a x b to told)
  handing_awake handing.Load (Value seen) = goes_bare (looked seen)
  handing_awake (handing.Free expected) (Value seen) = either_bare (seen == expected) (freed_next x seen)
  handing_awake handing.Enter Done = goes_bare handing.Take
  handing_awake handing.Take (Picked n y none_left) = goes_bare (took x (record {
    sharers = n;
    successor = y;
    none_left = none_left;
  }))
  handing_awake (handing.Store k) (Value seen) = goes_bare (handing.Leave (any_taken k) true)
  handing_awake (handing.Look k) (Value seen) = goes_bare (handing.Exchange k seen)
  handing_awake (handing.Exchange k expected) (Value seen) =
      hands_bare (seen == expected) (handing.Leave (any_taken k) (has_room a.limit k seen))
      (handing.Exchange k seen)
  handing_awake (handing.Leave any given) Done = released_awake l a x b
  handing_awake to told = goes_bare to

-- nobody hands the thread anything
abbrev IsOwn : Reply → Type 0
IsOwn (HandedBy u alone) = ⊥
IsOwn (Woken HandOff) = ⊥
IsOwn told = Unit {0}

not_given : (b : Bool) (p : RwLockPlace) (told : Reply) → IsOwn told → given b p told ≡ None
not_given b p (HandedBy u alone) h = absurd h
not_given b p (Woken HandOff) h = absurd h
not_given b p (Woken Normal) h = refl
not_given b p told h = refl

own_next : (l : ℕ) (a : Admission) (c : RwLockCallPlace) (told : Reply) → IsOwn told
    → (call_act l a c ≡ act.Sleep → ⊥)
    → NextAwake a l (call_next a c told)
own_next l a (Plain p) told own awake =
    subst (λ (o : Option RwLockCallPlace). NextAwake a l (unless_given o (plain_next (rwlock_next a p told))))
    (sym (not_given false p told own)) (by_next (rwlock_next a p told))
  where
    by_next : (n : Next RwLockPlace) → NextAwake a l (plain_next n)
    by_next (next.At q) = never_given a l q.at
    by_next (next.End answer) = tt
own_next l a (Bump p) told own awake =
    subst (λ (o : Option RwLockCallPlace). NextAwake a l
    (unless_given o (bump_next p.purpose (rwlock_next a p told)))) (sym (not_given true p told own))
    (by_next p.purpose (rwlock_next a p told))
  where
    by_next : (q : RwLockPurpose) (n : Next RwLockPlace) → NextAwake a l (bump_next q n)
    by_next q (next.At p2) = never_given a l p2.at
    by_next (purpose.Release x) (next.End answer) = in_no_hand_now a (enters_again x) (enters_again_bare a x)
    by_next q (next.End answer) = tt
own_next l a (PeekQueue x) (Value seen) own awake = gives_up_awake l a x (gives_way a x seen)
own_next l a (PeekQueue x) told own awake = in_no_hand_now a (PeekQueue x) refl
own_next l a (HandOver x b to) told own awake = handing_awake l a x b to told
own_next l a (Handed x how b (handed.Asleep u alone)) told own awake = absurd (awake refl)
own_next l a (Handed x how b handed.Accept) Done own awake = tt
own_next l a (Handed x how b handed.Accept) (Value seen) own awake = tt
own_next l a (Handed x how b handed.Accept) told own awake = in_no_hand_now a (Handed x how b handed.Accept)
    refl

own_reply : (w : State) (t : ℕ) (y : Act) → IsOwn (reply_to w t y)
own_reply w t act.Rest = tt
own_reply w t (act.Word l op) = tt
own_reply w t (act.HandOver l op) = tt
own_reply w t (act.Enter keys) = tt
own_reply w t (act.Park l key check x) = tt
own_reply w t (act.Stand key x) = tt
own_reply w t (act.Take key whom.First) = tt
own_reply w t (act.Take key (whom.Picked start recursive)) = tt
own_reply w t (act.Take key whom.All) = tt
own_reply w t (act.Requeue from to how) = tt
own_reply w t (act.Remove key) = tt
own_reply w t (act.Leave keys wakes) = tt
own_reply w t act.Sleep = tt
own_reply w t act.Accept = tt
own_reply w t (act.Closure state) = tt
own_reply w t (act.End answer) = tt

module _ (w : State) (t l : ℕ) (a : Admission) (c : RwLockCallPlace) (inductive : IsInductive w)
    (shape : IsWellFormed w)
    (there : t < length w.places) (lt : l < length w.locks) (is : place_at w t ≡ RwLock l a c)
    (counted : AreCounted w)
    (can : can_do w (call_act l a c) ≡ true) where
  kept : GoesOnBy w t l a c (call_act l a c)
  kept = rwlock_goes_on w t l a c inductive shape there lt is counted can

  abbrev told : Reply
  told = reply_to w t (call_act l a c)

  abbrev afterwards : State
  afterwards = go_by w t (RwLock l a c) (call_act l a c)

  abbrev happened : Option LockCase
  happened = case_by w t l a c kept.whom (call_act l a c)

  -- a thread that sleeps in a call stands about its lock
  rests : (q : RwLockCallPlace) → place_at afterwards t ≡ RwLock l a q → CallAwake (call_profile a q)
      (call_act l a q)
      → (outcome_of (call_act l a q) ≡ outcome.Step)
      ⊎ ((outcome_of (call_act l a q) ≡ outcome.Sleep) × (1 ≤ standing t (lock_state afterwards l)))
  rests q e awake = by_act (call_act l a q) (fair_acts_move l a q fits.1) promises.acts promises.asleep awake
    where
      fits : FitsItsLock afterwards (RwLock l a q)
      fits = subst (FitsItsLock afterwards) e (kept.happened.after.stands.calls t)

      promises : RowPromises (rules_in afterwards l).sort l (call_profile a q) (call_act l a q)
      promises = call_promises (rules_in afterwards l) a l q fits.0 fits.1

      by_act : (y : Act) → CallMoves l a.recursive (call_move a q) (call_hears a q) y → is_acting y ≡ true
          → (y ≡ act.Sleep → IsWaiting (call_profile a q) ⊎ WasHanded (rules_in afterwards l).sort l
          (call_profile a q))
          → CallAwake (call_profile a q) y
          → (outcome_of y ≡ outcome.Step) ⊎ ((outcome_of y ≡ outcome.Sleep)
          × (1 ≤ standing t (lock_state afterwards l)))
      by_act act.Sleep moves acting asleep awake = inr (
        refl,
        waiting_stands afterwards t kept.happened.after l (ap called_lock e)
            (subst (λ (x : Profile). IsWaiting x)
            (sym (ap profile e)) (elim (asleep refl) [
              | inl h ↦ h
              | inr h ↦ absurd (awake h.by h.in_hand)
            ])),
      )
      by_act (act.End answer) moves acting asleep awake = absurd cc
      by_act act.Rest moves acting asleep awake = absurd cc
      by_act (act.Closure state) moves acting asleep awake = absurd moves
      by_act y moves acting asleep awake = inl refl

  leads : LeadsTo afterwards t l (next_rows a (call_next a c told))
      (outcome_of (rwlock_does l a (call_next a c told)))
  leads = by_next (call_next a c told)
      (get_or-set_same (state_after_act w t (RwLock l a c) (call_act l a c)).places t _ Idle
      (rw (performed_counts w t (RwLock l a c) (call_act l a c)).0 there))
      (own_next l a c told (own_reply w t (call_act l a c)) (λ asleep. let f : true ≡ false = sym can
      ∙ ap (can_do w) asleep in cc))
    where
      by_next : (n : Next RwLockCallPlace) → place_at afterwards t ≡ rwlock_goes l a n → NextAwake a l n
          → LeadsTo afterwards t l (next_rows a n) (outcome_of (rwlock_does l a n))
      by_next (next.At q) e awake = (
        ap called_lock e,
        ap profile e,
        elim (rests q e awake) [
          | inl step ↦ inl step
          | inr sleeps ↦ inr (inl sleeps)
        ],
        subst IsSingle (sym e) tt,
      )
      by_next (next.End answer) e awake = (e, refl)

  pub rwlock_step : GoesOn (locks_of w) t (outcome_of (next_act (RwLock l a c) told)) (locks_of afterwards)
  rwlock_step = goes_by w afterwards t l happened kept.happened (RwLock l a c) is refl tt kept.tells.may
      (next_rows a (call_next a c told)) _ kept.tells.comes leads kept.others
      (begins_nothing (locks_of w) l (call_profile a c) happened _ runs kept.tells.may
      (tells_none (call_next a c told)))
    where
      promises : RowPromises (rules_in w l).sort l (call_profile a c) (call_act l a c)
      promises = call_promises (rules_in w l) a l c (admits w t l a c inductive shape there lt is)
          (stands w t l a c inductive shape there lt is)

      runs : RunsNothing ((call_profile a c).purpose l)
      runs = runs_nothing (λ k. (rules_in w k).sort) l ((call_profile a c).purpose l) promises.own
          (promises.known (λ k. (rules_in w k).sort) refl)
          (λ once. let both : false ≡ true = sym (ap has_readers once)
          ∙ (admits w t l a c inductive shape there lt is).0 in cc)

      tells_none : (n : Next RwLockCallPlace) → is_closure (outcome_of (rwlock_does l a n)) ≡ false
      tells_none (next.At q) = closure_told (call_act l a q) ∙ call_runs_none l a q
      tells_none (next.End answer) = refl

-- ---------------------------------------------------------------- a call begins

pub rwlock_purpose_is : (k : Kind) (l : ℕ) (c : RwLockCall) → has_readers (rules_of k).sort ≡ true
    → purpose_of k (call.RwLock l c) ≡ Some (rwlock_purpose l c)
rwlock_purpose_is (kind.RwLock limit) l c h = refl
rwlock_purpose_is (kind.Recursive limit) l c h = refl
rwlock_purpose_is k l c h = absurd cc

-- the thread has the right that it needs
module _ (w : State) (t l : ℕ) where
  some_shared : (n : ℕ) → not (n == 0) ≡ true → 1 ≤ n
  some_shared n h = grind (arith, nat_tests)

  shared_some : (n : ℕ) → 1 ≤ n → not (n == 0) ≡ true
  shared_some n h = grind (arith, nat_tests)

  owns : (x : Access) → has_access x t (owners_at w l) (share_at w l t) ≡ true
      → Owns (lock_state w l) t (wanted x)
  owns access.Shared h = some_shared (share_at w l t) h
  owns access.Upgradable h = thread_is t (owners_at w l).upgradable h
  owns access.Exclusive h = thread_is t (owners_at w l).exclusive h

  owned : (x : Access) → Owns (lock_state w l) t (wanted x) → has_access x t (owners_at w l) (share_at w l t)
      ≡ true
  owned access.Shared h = shared_some (share_at w l t) h
  owned access.Upgradable h = is_owner t (owners_at w l).upgradable h
  owned access.Exclusive h = is_owner t (owners_at w l).exclusive h

  pub rwlock_right_held : (c : RwLockCall) → call_right c t (owners_at w l) (share_at w l t) ≡ true
      → HasRight (locks_of w) t (Some (rwlock_purpose l c))
  rwlock_right_held (rwlock_call.Enter x how) h = tt
  rwlock_right_held (rwlock_call.Release x) h = owns x h
  rwlock_right_held (rwlock_call.Downgrade d) h = owns (from_of d) h
  rwlock_right_held (rwlock_call.Upgrade how) h = owns access.Upgradable h
  rwlock_right_held (rwlock_call.ReleaseFair x) h = owns x h
  rwlock_right_held (rwlock_call.Bump x) h = owns x h

  pub rwlock_right_needed : (c : RwLockCall) → HasRight (locks_of w) t (Some (rwlock_purpose l c))
      → call_right c t (owners_at w l) (share_at w l t) ≡ true
  rwlock_right_needed (rwlock_call.Enter x how) h = refl
  rwlock_right_needed (rwlock_call.Release x) h = owned x h
  rwlock_right_needed (rwlock_call.Downgrade d) h = owned (from_of d) h
  rwlock_right_needed (rwlock_call.Upgrade how) h = owned access.Upgradable h
  rwlock_right_needed (rwlock_call.ReleaseFair x) h = owned x h
  rwlock_right_needed (rwlock_call.Bump x) h = owned x h

-- the thread has done nothing yet
module _ (l : ℕ) (a : Admission) (c : RwLockCall) where
  opens : CallOpens a c
  opens = calls_open a c

  pub rwlock_begins_with : (r : ℕ → Rights) → call_state (RwLock l a (call_first c)) r ≡ new_call
      (Some (rwlock_purpose l c)) r
  rwlock_begins_with r = λ i. record {
    purpose = Some (opens.purpose l i);
    former = opens.opening.former l r i;
    gave_up = if opens.opening.gave_up i then Some l else None;
    retries = if opens.opening.retries i then Some l else None;
    released = opens.opening.released i;
    late = opens.opening.late i;
    failed = opens.opening.failed i;
    recalls = opens.opening.recalls i;
  }

  pub rwlock_untaken_first : (k : ℕ) → taken_at (RwLock l a (call_first c)) k ≡ None
  rwlock_untaken_first k = ap (λ (h : Option Hand). taken_from h (call_profile a (call_first c)).wants
      (calls (RwLock l a (call_first c)) k)) (ap (λ (y : Location). y.hand) opens.opening.location)
