-- A call of a condition variable begins where it may, and is late where it sleeps with a deadline: its place
-- alone changes, and its call.
use Rattle.lot_laws.proofs.Imports
use Imports.{ℕ, Bool, true, false, Option, Some, None, if◌then◌else◌, ◌&&◌, ◌≡◌, ◌<◌, length, nat_lt, inl, inr}
use Imports.{refl, sym, ◌∙◌, ap, subst, cases_lt, get_or_past, One, Kind, Call, CondvarCall, mutex_named}
use Imports.{has_call, is_plain_mutex, Late, CondvarPlace, Look, Notify, Wait, condvar_first, Condvar, Idle}
use Imports.{is_idle, late_key, next_place, Rights, Taken, condvar_purpose, purpose_of, rules_of, HasRight}
use Imports.{MayBegin, Stays, new_call, purpose_at, Main, State, can_begin, names_mutex_there, holds_right}
use Imports.{is_free_under, is_open_to, kind_at, owners_at, place_at, state_after_begin, state_after_late_on}
use Imports.{state_with_sections, unlocked, both, call_state, locks_of, taken_at, key_of}
use Rattle.std.proofs.Common.{ltb-true, lt-ltb}
use Rattle.spec_locks.specs.declared.kinds.Kind.TheVariants as kind
use Rattle.spec_locks.specs.declared.calls.Call.TheVariants as call
use Rattle.spec_locks.specs.declared.calls.CondvarCall.TheVariants as condvar_call
use Rattle.spec_locks.specs.declared.outcomes.Outcome.TheVariants as outcome
use Rattle.steps_condvar.specs.declared.wait.WaiterFate.TheVariants as stands
use Rattle.steps_condvar.specs.declared.wait.WaitAt.TheVariants as wait
use Rattle.spec_locks.specs.Locks as locks
use Rattle.lot_laws.proofs.calls.CallEvents.{rights}
use Rattle.lot_laws.proofs.machine.Parts.{is_owner, thread_is}
use Rattle.lot_laws.proofs.machine.KindsStay.{calls_condvar}
use Rattle.lot_laws.proofs.machine.PlacesAlone.{placed}

pub condvar_purpose_is : (k : Kind) (l : ℕ) (c : CondvarCall) → (rules_of k).sort ≡ locks.Condvar
    → purpose_of k (call.Condvar l c) ≡ Some (condvar_purpose l c)
condvar_purpose_is kind.Condvar l c h = refl
condvar_purpose_is k l c h = absurd cc

begins_with : (l : ℕ) (c : CondvarCall) (r : ℕ → Rights)
    → call_state (Condvar l (condvar_first c)) r ≡ new_call (Some (condvar_purpose l c)) r
begins_with l (condvar_call.Wait m timed) r = refl
begins_with l (condvar_call.Notify all) r = refl

untaken_first : (l : ℕ) (c : CondvarCall) (k : ℕ) → taken_at (Condvar l (condvar_first c)) k ≡ None
untaken_first l (condvar_call.Wait m timed) k = either _
  where
    either : (b : Bool) → ◌≡◌ {A = Option Taken} (if b then None else None) None
    either true = refl
    either false = refl
untaken_first l (condvar_call.Notify all) k = refl

-- ---------------------------------------------------------------- the call begins

module _ (w : State) (t l : ℕ) where
  -- the thread's thread has the right that it needs
  right_held : (c : CondvarCall) → (names_mutex_there w (mutex_named c) && holds_right w t (call.Condvar l c))
      ≡ true
      → HasRight (locks_of w) t (Some (condvar_purpose l c))
  right_held (condvar_call.Notify all) h = tt
  right_held (condvar_call.Wait m timed) h =
      let parts = both (names_mutex_there w (Some m))
      (holds_right w t (call.Condvar l (condvar_call.Wait m timed))) h in (
        (both (nat_lt m (length w.locks)) (is_plain_mutex (kind_at w m)) parts.0).1,
        thread_is t (owners_at w m).exclusive parts.1,
      )

  -- each thread that owns a lock owns one that is there
  owned_there : (m : ℕ) → (owners_at w m).exclusive ≡ Some t → m < length w.locks
  owned_there m owns = elim (cases_lt m (length w.locks)) [
    | inl there ↦ there
    | inr past ↦ absurd (let none : ◌≡◌ {A = Option ℕ} (owners_at w m).exclusive None =
        ap (λ x. x.owners.exclusive) (get_or_past w.locks m (unlocked kind.Mutex) past)
        in let e : ◌≡◌ {A = Option ℕ} None (Some t) = sym none ∙ owns in cc)
  ]

  right_needed : (c : CondvarCall) → HasRight (locks_of w) t (Some (condvar_purpose l c))
      → (names_mutex_there w (mutex_named c) && holds_right w t (call.Condvar l c)) ≡ true
  right_needed (condvar_call.Notify all) h = refl
  right_needed (condvar_call.Wait m timed) h = rw (
    lt-ltb m (length w.locks) (owned_there m h.1),
    h.0,
    is_owner t (owners_at w m).exclusive h.1,
  ) refl

  abbrev begun : CondvarCall → Call
  begun c = call.Condvar l c

  abbrev parts_of : (c : CondvarCall) → can_begin w t (begun c) ≡ true
      → (nat_lt l (length w.locks) ≡ true)
      × ((has_call (kind_at w l) (begun c) && (names_mutex_there w (mutex_named c) && holds_right w t
      (begun c))) ≡ true)
  parts_of c can = both (nat_lt l (length w.locks)) _ (both (is_idle (place_at w t))
      (is_open_to w t (begun c)) can).1

  -- where it can it may, and no lock changes
  pub condvar_begun : (c : CondvarCall) → place_at w t ≡ Idle → t < length w.places → can_begin w t (begun c)
      ≡ true
      → MayBegin (locks_of w) t (begun c)
      × Stays (locks_of w) t (new_call (purpose_at (locks_of w) (begun c)) (rights w t)) outcome.Step
      (locks_of (state_after_begin w t (begun c)))
  condvar_begun c idle there can = (
    record {
      thread = there;
      idle = rw idle refl;
      lock = ltb-true l (length w.locks) (parts_of c can).0;
      right = subst (HasRight (locks_of w) t) (sym purpose) (right_held c rest.1);
    },
    placed w t there w.sections Idle (Condvar l (condvar_first c)) idle (untaken_first l c) _
        (λ r e. begins_with l c r ∙ (λ i. new_call (sym purpose i) (e i))),
  )
    where
      rest : (has_call (kind_at w l) (begun c) ≡ true)
          × ((names_mutex_there w (mutex_named c) && holds_right w t (begun c)) ≡ true)
      rest = both (has_call (kind_at w l) (begun c)) _ (parts_of c can).1

      purpose : purpose_of (kind_at w l) (begun c) ≡ Some (condvar_purpose l c)
      purpose = condvar_purpose_is (kind_at w l) l c (calls_condvar (kind_at w l) l c rest.0)

  -- A call may begin where its thread is idle.
  pub condvar_may : (c : CondvarCall) → is_idle (place_at w t) ≡ true → MayBegin (locks_of w) t (begun c)
      → can_begin w t (begun c) ≡ true
  condvar_may c idle may = by_kind (kind_at w l) refl may.right
    where
      there : nat_lt l (length w.locks) ≡ true
      there = lt-ltb l (length w.locks) may.lock

      by_kind : (k : Kind) → kind_at w l ≡ k → HasRight (locks_of w) t (purpose_of k (begun c))
          → can_begin w t (begun c) ≡ true
      by_kind kind.Condvar e right = rw (idle, there, e, right_needed c right) refl
      by_kind kind.Mutex e right = absurd right
      by_kind kind.Fair e right = absurd right
      by_kind (kind.RwLock limit) e right = absurd right
      by_kind (kind.Recursive limit) e right = absurd right
      by_kind kind.Once e right = absurd right
      by_kind (kind.Semaphore permits) e right = absurd right

  -- ---------------------------------------------------------------- the time is up

  pub condvar_is_late : (at : CondvarPlace) → t < length w.places → place_at w t ≡ Condvar l at
      → is_free_under w (late_key (Condvar l at)) ≡ true
      → Stays (locks_of w) t (record (call_state (Condvar l at) (rights w t)) { late = true }) outcome.Step
      (locks_of (state_after_late_on w t (late_key (Condvar l at))))
  condvar_is_late (Wait m true (wait.Asleep stands.Listed)) there is can =
      placed w t there (state_with_sections w (One (key_of l Main)) (Some t)).sections
      (Condvar l (Wait m true (wait.Asleep stands.Listed))) (next_place (place_at w t) Late) is
      (rw is (λ k. refl)) _ (rw is (λ r e. rw e refl))
  condvar_is_late (Wait m true (wait.Asleep stands.Moved)) there is can =
      placed w t there (state_with_sections w (One (key_of m Main)) (Some t)).sections
      (Condvar l (Wait m true (wait.Asleep stands.Moved))) (next_place (place_at w t) Late) is
      (rw is (λ k. refl)) _ (rw is (λ r e. rw e refl))
  condvar_is_late (Wait m true (wait.Asleep s)) there is can = absurd cc
  condvar_is_late (Wait m false (wait.Asleep s)) there is can = absurd cc
  condvar_is_late (Wait m timed p) there is can = absurd cc
  condvar_is_late (Look all) there is can = absurd cc
  condvar_is_late (Notify all m p) there is can = absurd cc
