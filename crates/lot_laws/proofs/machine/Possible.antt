-- A turn is possible exactly where the abstract locks and the call say so, and a thread is told that it
-- sleeps where it does.
use Rattle.spec_locks.specs.declared.calls.CondvarCall.TheVariants as condvar
use Rattle.lot_laws.proofs.Imports
use Imports.{is_some, subst, ℕ, Bool, true, false, Option, Some, None, if◌then◌else◌, ◌&&◌, ◌≡◌, ◌≢◌, ◌+◌, ◌*◌}
use Imports.{◌≤◌, ◌<◌, ◌↔◌, ◌⊎◌, inl, inr, List, length, is_none, refl, sym, ◌∙◌, ap, arith, get_or-set_other}
use Imports.{get_or-set_same, length-set, set, once_profile, is_closure, cases_eq, cases_lt, get_or_past, Keys}
use Imports.{One, Two, first_of, Waiter, Turn, Call, MutexCall, Kind, is_fair, Act, Enter, Take, Sleep, Closure}
use Imports.{Reply, Late, Next, MutexPlace, OncePlace, once_act, once_next, SemaphorePlace, semaphore_act}
use Imports.{semaphore_first, semaphore_next, SemaphoreCall, CondvarPlace, condvar_next, condvar_act}
use Imports.{mutex_beside, Place, Idle, Mutex, RwLock, Once, Condvar, Semaphore, Wakes, TakeWhich, takes_effect}
use Imports.{outcome_of, holds, mutex_act, mutex_first, mutex_next, act_of, beside_of, called_lock}
use Imports.{profile_at_mutex, next_place, next_act, mutex_goes, mutex_does, late_key, first_place, respins_from}
use Imports.{key_in, profile, rwlock_does, rwlock_goes, once_does, once_goes, condvar_goes, condvar_does}
use Imports.{semaphore_does, semaphore_goes, Op, state_after_hand_over_by, State, state_after_take, place_at}
use Imports.{queue_at, section_at, can_do, can_go, is_free_under, word_at, state_with_sections}
use Imports.{queues_without_first, state_after_taking, state_after_wake, state_after_act, state_after_go}
use Imports.{state_after_late_on, IsWellFormed, PlaceFits, Main, Line, Second, location, location_at}
use Imports.{FitsItsLock, IsInductive, stood_in, key_of, lock_state, locks_of, call_state, sleeps, keys_entered}
use Imports.{call_on_both, Wait, Look, Notify, runs_closure, Rights, AreFree, MayBeLate, MayTurn, IsTimed}
use Imports.{StandsFreely, SectionChanges, CallState, RwLockCallPlace, admission_of_kind, call_first, call_act}
use Imports.{call_next, RwLockCall, Patient, Timed, Try}
use Rattle.lot_laws.proofs.once.OnceOwing.{late_place}
use Rattle.lot_laws.proofs.calls.Closures.{call_runs_none, closure_told, mutex_runs_none, condvar_runs_none}
use Rattle.lot_laws.proofs.calls.Closures.{semaphore_runs_none}
use Rattle.spec_locks.specs.declared.calls.Turn.TheVariants as turn
use Rattle.spec_locks.specs.declared.calls.Call.TheVariants as call
use Rattle.spec_locks.specs.declared.calls.MutexCall.TheVariants as mutex_call
use Rattle.spec_locks.specs.declared.outcomes.Outcome.TheVariants as outcome
use Rattle.steps_base.specs.declared.acts.Act.TheVariants.{Rest, Park, End}
use Rattle.steps_base.specs.declared.acts.Act.TheVariants as act
use Rattle.steps_base.specs.declared.acts.Next.TheVariants as next
use Rattle.spec_locks.specs.declared.calls.SemaphoreCall.TheVariants as semaphore_call
use Rattle.steps_base.specs.declared.acts.Wakes.TheVariants as wakes
use Rattle.steps_base.specs.declared.acts.TakeWhich.TheVariants as whom
use Rattle.lot_laws.specs.Locations.{Location}
use Rattle.lot_laws.specs.Refinement.{runs_closure}
use Rattle.lot_laws.proofs.calls.SingleCalls.{call_none}
use Rattle.lot_laws.proofs.machine.Parts.{IsOf, of_own, IsOfTwo, IsSingle, fits_two, calls_none}
use Rattle.lot_laws.proofs.machine.Parts.{condvar_apart, single_late, single_or_two}
use Rattle.lot_laws.proofs.condvar.Late.{IsLate, condvar_acts, two_late, two_may_late}
use Rattle.lot_laws.proofs.condvar.Sections.{IsActOfTwo, IsItsKey, condvar_lines, holds_key, inside_its}
use Rattle.lot_laws.proofs.promises.LineActs.{line_act, holds_line, key_there, late_line, calls_there}
use Rattle.lot_laws.proofs.machine.PlaceTest.{IsOfLine, IsLineAct}
use Rattle.lot_laws.proofs.sites.ByAct.{none_is}
use Rattle.lot_laws.proofs.machine.AtPlaces.{queued_by}
use Rattle.lot_laws.proofs.calls.CallEvents.{rights}
use Rattle.spec_locks.specs.Locks as locks
use Rattle.spec_locks.specs.Runs.{MayGo}
use Rattle.lot_laws.proofs.promises.RowPromises.{is_acting}
use Rattle.lot_laws.proofs.promises.PlacePromises.{row_promises, location_own, location_calls, call_own}
use Rattle.lot_laws.proofs.promises.PlacePromises.{in_second}
use Rattle.lot_laws.proofs.sites.StandsKept.{in_main}
use Rattle.lot_laws.proofs.hands.Counts.{first_times}
use Rattle.lot_laws.proofs.promises.PlaceSteps.{late_next}
use Rattle.spec_locks.specs.declared.calls.RwLockCall.TheVariants as rwlock_call
use Rattle.spec_locks.specs.declared.calls.Access.TheVariants as access

-- ---------------------------------------------------------------- going on

awake_is : (a : Act) → a ≢ Sleep → sleeps a ≡ false
awake_is Sleep h = absurd (h refl)
awake_is a h = refl

module _ (w : State) where
  -- a possible act is done by a thread that is awake, outside its closure, and before sections that are free
  can_is : (a : Act) → can_do w a ≡ true → (sleeps a ≡ false) × (runs_closure a ≡ false)
      × AreFree (locks_of w) (keys_entered a)
  can_is Rest can = absurd cc
  can_is Sleep can = absurd cc
  can_is (Closure state) can = absurd cc
  can_is (End answer) can = absurd cc
  can_is (Enter (One key)) can = (refl, refl, none_is (section_at w key) can)
  can_is (Enter (Two first second)) can =
      (refl, refl, two (is_none (section_at w first)) (is_none (section_at w second)) refl refl can)
    where
      two : (a b : Bool) → is_none (section_at w first) ≡ a → is_none (section_at w second) ≡ b
          → (a && b) ≡ true
          → (section_at w first ≡ None) × (section_at w second ≡ None)
      two true true ea eb can = (none_is (section_at w first) ea, none_is (section_at w second) eb)
      two true false ea eb can = absurd cc
      two false b ea eb can = absurd cc
  can_is a can = (refl, refl, tt)

  can_if : (a : Act) → is_acting a ≡ true → sleeps a ≡ false → runs_closure a ≡ false
      → AreFree (locks_of w) (keys_entered a)
      → can_do w a ≡ true
  can_if Rest acting awake outside free = absurd cc
  can_if (End answer) acting awake outside free = absurd cc
  can_if Sleep acting awake outside free = absurd cc
  can_if (Closure state) acting awake outside free = absurd cc
  can_if (Enter (One key)) acting awake outside free = ap is_none free
  can_if (Enter (Two first second)) acting awake outside free = rw (free.0, free.1) refl
  can_if a acting awake outside free = refl

-- a thread that can do something is in a call, and one in a call has something to do
called_of : (w : State) (p : Place) (r : ℕ → Rights) → can_do w (act_of p) ≡ true → (call_state p r).purpose
    ≢ None
called_of w p r can = by_lock (beside_of p) (called_lock p) refl
  where
    by_lock : (m o : Option ℕ) → called_lock p ≡ o
        → (call_on_both m o (profile p) (profile_at_mutex p) r).purpose ≢ None
    by_lock None (Some l) e = λ h. cc
    by_lock (Some m) (Some l) e = λ h. cc
    by_lock m None e = absurd (let f : can_do w Rest ≡ true =
        ap (λ q. can_do w (act_of q)) (sym (calls_none p e)) ∙ can in cc)

acting_of : (w : State) (t : ℕ) → IsInductive w → (call_state (place_at w t) (rights w t)).purpose ≢ None
    → is_acting (act_of (place_at w t)) ≡ true
acting_of w t inductive called = elim (single_or_two (place_at w t)) [
  | inl single ↦ by_lock single (called_lock (place_at w t)) refl
  | inr two ↦ ap (λ p. is_acting (act_of p)) two.is ∙ condvar_acts two.lock two.at
]
  where
    by_lock : IsSingle (place_at w t) → (o : Option ℕ) → called_lock (place_at w t) ≡ o
        → is_acting (act_of (place_at w t)) ≡ true
    by_lock single (Some l) e = (row_promises w t inductive l single e).acts
    by_lock single None e = absurd
        (called (ap (λ (c : CallState). c.purpose) (call_none (place_at w t) e (rights w t))))

late_two : (w : State) (t : ℕ) → IsInductive w → (two : IsOfTwo (place_at w t)) → (key : ℕ)
    → late_key (place_at w t) ≡ Some key
    → IsLate two.lock two.at key
late_two w t inductive two key e = two_late two.lock two.at
    (condvar_apart w two.lock two.at (fits_two w t inductive two)) key (sym (ap late_key two.is) ∙ e)

pub may_go : (w : State) (t : ℕ) → can_go w t ≡ true → MayGo (locks_of w) t
may_go w t can = let is = can_is w (act_of (place_at w t)) can in
    record { called = called_of w (place_at w t) (rights w t) can; awake = is.0; outside = is.1; free = is.2 }

pub go_possible : (w : State) (t : ℕ) → IsInductive w → MayGo (locks_of w) t → can_go w t ≡ true
go_possible w t inductive may = can_if w (act_of (place_at w t)) (acting_of w t inductive may.called)
    may.awake
    may.outside may.free

-- ---------------------------------------------------------------- being late

sleeps_is : (a : Act) → sleeps a ≡ true → a ≡ Sleep
sleeps_is Sleep h = refl
sleeps_is a h = absurd cc

module _ (w : State) (t : ℕ) (inductive : IsInductive w) where
  -- a thread in whose line the section is free may be late there
  stands_freely : (l : ℕ) (m : Line) → (location_at (place_at w t) l).stands ≡ Some m
      → section_at w (key_of l m) ≡ None
      → StandsFreely (locks_of w) t l
  stands_freely l Main stands free = inl (
    let n : locks.times t (lock_state w l).queue ≡ 1 =
        queued_by w inductive t l ∙ ap (λ x. stood_in x Main) stands in omega arith,
    free,
  )
  stands_freely l Second stands free = inr (in_second w t inductive l stands, free)

  stands_free : (l : ℕ) → StandsFreely (locks_of w) t l
      → (m : Line) × ((location_at (place_at w t) l).stands ≡ Some m)
      × (is_none (section_at w (key_of l m)) ≡ true)
  stands_free l (inl h) = (
    Main,
    in_main (location_at (place_at w t) l).stands
        (subst (λ n. 1 ≤ n) (queued_by w inductive t l) h.0),
    ap is_none h.1,
  )
  stands_free l (inr h) = (
    Second,
    in_line (location_at (place_at w t) l).stands
        (subst (λ n. 1 ≤ n) (inductive.stands.lines t l Second) (first_times t (queue_at w (2 * l + 1)) h.0)),
    ap is_none h.1,
  )
    where
      in_line : (o : Option Line) → 1 ≤ stood_in o Second → o ≡ Some Second
      in_line (Some Second) h = refl
      in_line (Some Main) h = absurd (omega arith)
      in_line None h = absurd (omega arith)

  late_there : (o : Option ℕ) → late_key (place_at w t) ≡ o → is_free_under w o ≡ true
      → MayBeLate (locks_of w) t
  late_there None e can = absurd cc
  late_there (Some key) e can = elim (single_or_two (place_at w t)) [
    | inl single ↦ by_one single
    | inr two ↦
        by_two two
  ]
    where
      by_one : IsSingle (place_at w t) → MayBeLate (locks_of w) t
      by_one single =
          let of = late_line (place_at w t) key single e in
          let row = (row_promises w t inductive of.0 single of.1).late of.2.0 of.2.1 in
          record {
            lock = of.0;
            timed = subst (λ (c : CallState). IsTimed c.purpose c.recalls of.0)
                (sym (call_own w t inductive of.0 single of.1)) row.timed;
            asleep = ap sleeps row.asleep;
            stands = stands_freely of.0 of.2.0 (ap (λ (x : Location). x.stands)
                (location_own (place_at w t) of.0 of.1) ∙ row.stands)
                (none_is (section_at w (key_of of.0 of.2.0)) (subst (λ k. is_none (section_at w k) ≡ true)
                of.2.2 can));
          }

      by_two : IsOfTwo (place_at w t) → MayBeLate (locks_of w) t
      by_two two =
          let is_late = late_two w t inductive two key e in
          record {
            lock = is_late.lock;
            timed = subst (λ p. IsTimed (call_state p (rights w t)).purpose
                (call_state p (rights w t)).recalls is_late.lock) (sym two.is) (is_late.timed (rights w t));
            asleep = ap (λ p. sleeps (act_of p)) two.is ∙ ap sleeps is_late.asleep;
            stands = stands_freely is_late.lock Main (ap (λ p. (location_at p is_late.lock).stands) two.is
                ∙ is_late.stands) (none_is (section_at w (2 * is_late.lock))
                (subst (λ k. is_none (section_at w k) ≡ true) is_late.under can));
          }

  pub may_be_late : is_free_under w (late_key (place_at w t)) ≡ true → MayBeLate (locks_of w) t
  may_be_late can = late_there (late_key (place_at w t)) refl can

  module _ (may : MayBeLate (locks_of w) t) (n : Line) (stood : (location_at (place_at w t) may.lock).stands
      ≡ Some n)
      (free : is_none (section_at w (key_of may.lock n)) ≡ true) where
    late_one : IsSingle (place_at w t) → is_free_under w (late_key (place_at w t)) ≡ true
    late_one single =
        let own = location_calls (place_at w t) may.lock single (λ out. let e : ◌≡◌ {A = Option Line} None
        (Some n) = sym (ap (λ (x : Location). x.stands) out) ∙ stood in cc) in
        let stands : (profile (place_at w t)).stands ≡ Some n =
        sym (ap (λ (x : Location). x.stands) (location_own (place_at w t) may.lock own)) ∙ stood in
        let timed : IsTimed (Some ((profile (place_at w t)).purpose may.lock))
        (profile (place_at w t)).recalls may.lock =
        subst (λ (c : CallState). IsTimed c.purpose c.recalls may.lock)
        (call_own w t inductive may.lock single own) may.timed in
        let row : (profile (place_at w t)).late_line ≡ Some n =
        (row_promises w t inductive may.lock single own).may_be_late n stands
        (sleeps_is (act_of (place_at w t)) may.asleep) timed in
        ap (is_free_under w) (single_late (place_at w t) single ∙ (λ i. key_in (own i) (row i))) ∙ free

    late_of_two : IsOfTwo (place_at w t) → is_free_under w (late_key (place_at w t)) ≡ true
    late_of_two two =
        let fits = fits_two w t inductive two in
        let asleep : condvar_act two.lock two.at ≡ Sleep = sym (ap act_of two.is)
        ∙ sleeps_is (act_of (place_at w t)) may.asleep in
        let timed = subst (λ p. IsTimed (call_state p (rights w t)).purpose
        (call_state p (rights w t)).recalls may.lock) two.is may.timed in
        let key = two_may_late two.lock two.at fits.reached asleep may.lock (rights w t) timed n
        (sym (ap (λ p. (location_at p may.lock).stands) two.is) ∙ stood) in
        ap (is_free_under w) (ap late_key two.is ∙ key) ∙ free

  pub late_possible : MayBeLate (locks_of w) t → is_free_under w (late_key (place_at w t)) ≡ true
  late_possible may =
      let stood = stands_free may.lock may.stands in
      elim (single_or_two (place_at w t)) [
        | inl single ↦ late_one may stood.0 stood.1 stood.2 single
        | inr two ↦ late_of_two may stood.0 stood.1 stood.2 two
      ]

-- ---------------------------------------------------------------- the notes to a thread

-- a thread that goes on is told that it sleeps where it sleeps then
told_act : (a : Act) → (outcome_of a ≡ outcome.Sleep) ↔ (sleeps a ≡ true)
told_act Sleep = ((λ h. refl), λ h. refl)
told_act (End answer) = ((λ h. cc), λ h. cc)
told_act (Closure state) = ((λ h. cc), λ h. cc)
told_act Rest = ((λ h. cc), λ h. cc)
told_act a = ((λ h. cc), λ h. cc)

told_next : (l : ℕ) (n : Next MutexPlace)
    → (outcome_of (mutex_does l n) ≡ outcome.Sleep) ↔ (sleeps (act_of (mutex_goes l n)) ≡ true)
told_next l (next.At at) = told_act (mutex_act l at)
told_next l (next.End answer) = ((λ h. cc), λ h. cc)

pub told_gone : (p : Place) (r : Reply)
    → (outcome_of (next_act p r) ≡ outcome.Sleep) ↔ (sleeps (act_of (next_place p r)) ≡ true)
told_gone Idle r = ((λ h. cc), λ h. cc)
told_gone (Mutex l at) r = told_next l (mutex_next at r)
told_gone (Once l at) r = by_next (once_next at r)
  where
    by_next : (n : Next OncePlace)
        → (outcome_of (once_does l n) ≡ outcome.Sleep) ↔ (sleeps (act_of (once_goes l n)) ≡ true)
    by_next (next.At q) = told_act (once_act l q)
    by_next (next.End answer) = ((λ h. cc), λ h. cc)
told_gone (Semaphore l at) r = by_next (semaphore_next at r)
  where
    by_next : (n : Next SemaphorePlace)
        → (outcome_of (semaphore_does l n) ≡ outcome.Sleep)
        ↔ (sleeps (act_of (semaphore_goes l n)) ≡ true)
    by_next (next.At q) = told_act (semaphore_act l q)
    by_next (next.End answer) = ((λ h. cc), λ h. cc)
told_gone (RwLock l a c) r = by_next (call_next a c r)
  where
    by_next : (n : Next RwLockCallPlace)
        → (outcome_of (rwlock_does l a n) ≡ outcome.Sleep) ↔ (sleeps (act_of (rwlock_goes l a n))
        ≡ true)
    by_next (next.At q) = told_act (call_act l a q)
    by_next (next.End answer) = ((λ h. cc), λ h. cc)
told_gone (Condvar l at) r = by_next (condvar_next at r)
  where
    by_next : (n : Next CondvarPlace)
        → (outcome_of (condvar_does l n) ≡ outcome.Sleep) ↔ (sleeps (act_of (condvar_goes l n))
        ≡ true)
    by_next (next.At q) = told_act (condvar_act l q)
    by_next (next.End answer) = ((λ h. cc), λ h. cc)

-- A thread runs its closure next exactly where it is told so.
pub closure_gone : (p : Place) (r : Reply) → is_closure (outcome_of (next_act p r)) ≡ runs_closure
    (act_of (next_place p r))
closure_gone Idle r = refl
closure_gone (Mutex l at) r = by_next (mutex_next at r)
  where
    by_next : (n : Next MutexPlace) → is_closure (outcome_of (mutex_does l n)) ≡ runs_closure
        (act_of (mutex_goes l n))
    by_next (next.At q) = closure_told (mutex_act l q)
    by_next (next.End answer) = refl
closure_gone (Once l at) r = by_next (once_next at r)
  where
    by_next : (n : Next OncePlace) → is_closure (outcome_of (once_does l n))
        ≡ runs_closure (act_of (once_goes l n))
    by_next (next.At q) = closure_told (once_act l q)
    by_next (next.End answer) = refl
closure_gone (Semaphore l at) r = by_next (semaphore_next at r)
  where
    by_next : (n : Next SemaphorePlace) → is_closure (outcome_of (semaphore_does l n)) ≡ runs_closure
        (act_of (semaphore_goes l n))
    by_next (next.At q) = closure_told (semaphore_act l q)
    by_next (next.End answer) = refl
closure_gone (RwLock l a c) r = by_next (call_next a c r)
  where
    by_next : (n : Next RwLockCallPlace) → is_closure (outcome_of (rwlock_does l a n)) ≡ runs_closure
        (act_of (rwlock_goes l a n))
    by_next (next.At q) = closure_told (call_act l a q)
    by_next (next.End answer) = refl
closure_gone (Condvar l at) r = by_next (condvar_next at r)
  where
    by_next : (n : Next CondvarPlace) → is_closure (outcome_of (condvar_does l n)) ≡ runs_closure
        (act_of (condvar_goes l n))
    by_next (next.At q) = closure_told (condvar_act l q)
    by_next (next.End answer) = refl

-- no call begins in its closure, and none is late there
pub begins_outside : (k : Kind) (c : Call) → runs_closure (act_of (first_place k c)) ≡ false
begins_outside k (call.RwLock l c) = call_runs_none l (admission_of_kind k) (call_first c)
begins_outside k (call.Once l c) = refl
begins_outside k (call.Semaphore l c) = semaphore_runs_none l (semaphore_first c)
begins_outside k (call.Condvar l (condvar.Wait m timed)) = refl
begins_outside k (call.Condvar l (condvar.Notify all)) = refl
begins_outside k (call.Mutex l c) = mutex_runs_none l (mutex_first (is_fair k) c)

pub late_outside : (p : Place) → late_key p ≢ None → runs_closure (act_of (next_place p Late)) ≡ false
late_outside Idle h = refl
late_outside (Mutex l at) h = by_next (mutex_next at Late)
  where
    by_next : (n : Next MutexPlace) → runs_closure (act_of (mutex_goes l n)) ≡ false
    by_next (next.At q) = mutex_runs_none l q
    by_next (next.End answer) = refl
late_outside (RwLock l a c) h = by_next (call_next a c Late)
  where
    by_next : (n : Next RwLockCallPlace) → runs_closure (act_of (rwlock_goes l a n)) ≡ false
    by_next (next.At q) = call_runs_none l a q
    by_next (next.End answer) = refl
late_outside (Condvar l at) h = by_next (condvar_next at Late)
  where
    by_next : (n : Next CondvarPlace) → runs_closure (act_of (condvar_goes l n)) ≡ false
    by_next (next.At q) = condvar_runs_none l q
    by_next (next.End answer) = refl
late_outside (Semaphore l at) h = by_next (semaphore_next at Late)
  where
    by_next : (n : Next SemaphorePlace) → runs_closure (act_of (semaphore_goes l n)) ≡ false
    by_next (next.At q) = semaphore_runs_none l q
    by_next (next.End answer) = refl
late_outside (Once l at) h = by_line (once_profile at).late_line refl h
  where
    by_line : (m : Option Line) → (once_profile at).late_line ≡ m → key_in (Some l) m ≢ None
        → runs_closure (act_of (next_place (Once l at) Late)) ≡ false
    by_line None e h = absurd (h refl)
    by_line (Some m) e h = ap (λ p. runs_closure (act_of (next_place (Once l p) Late))) (late_place at m e).1

pub told_step : (b : Bool) → b ≡ false → (outcome.Step ≡ outcome.Sleep) ↔ (b ≡ true)
told_step true h = absurd cc
told_step false h = ((λ e. cc), λ e. cc)

-- a call begins awake
pub begins_awake : (k : Kind) (c : Call) → sleeps (act_of (first_place k c)) ≡ false
begins_awake k (call.Condvar l (condvar.Wait m timed)) = refl
begins_awake k (call.Condvar l (condvar.Notify all)) = refl
begins_awake k (call.RwLock l c) = by_call c
  where
    by_call : (c : RwLockCall) → sleeps (call_act l (admission_of_kind k) (call_first c)) ≡ false
    by_call (rwlock_call.Enter access.Exclusive how) = refl
    by_call (rwlock_call.Enter access.Shared how) = refl
    by_call (rwlock_call.Enter access.Upgradable how) = refl
    by_call (rwlock_call.Release x) = refl
    by_call (rwlock_call.Downgrade d) = refl
    by_call (rwlock_call.Upgrade Try) = refl
    by_call (rwlock_call.Upgrade how) = refl
    by_call (rwlock_call.ReleaseFair access.Shared) = refl
    by_call (rwlock_call.ReleaseFair access.Upgradable) = refl
    by_call (rwlock_call.ReleaseFair access.Exclusive) = refl
    by_call (rwlock_call.Bump x) = refl
begins_awake k (call.Once l c) = refl
begins_awake k (call.Semaphore l c) = by_call c
  where
    by_call : (c : SemaphoreCall) → sleeps (act_of (Semaphore l (semaphore_first c))) ≡ false
    by_call (semaphore_call.Acquire Patient) = refl
    by_call (semaphore_call.Acquire Timed) = refl
    by_call (semaphore_call.Acquire Try) = refl
    by_call semaphore_call.Release = refl
begins_awake k (call.Mutex l c) = either (is_fair k) c
  where
    either : (fair : Bool) (c : MutexCall) → sleeps (act_of (Mutex l (mutex_first fair c))) ≡ false
    either fair mutex_call.Lock = refl
    either fair mutex_call.LockTimed = refl
    either fair mutex_call.TryLock = refl
    either true mutex_call.Unlock = refl
    either false mutex_call.Unlock = refl
    either fair mutex_call.UnlockFair = refl
    either fair mutex_call.Bump = refl

-- ---------------------------------------------------------------- nobody past the last thread

pub nobody_turns : (w : State) (t : ℕ) (x : Turn) → place_at w t ≡ Idle → t < length w.places
    ⊎ (MayTurn (locks_of w) t x → ⊥)
nobody_turns w t (turn.Begin c) idle = elim (cases_lt t (length w.places)) [
  | inl lt ↦ inl lt
  | inr ge ↦ inr (λ may. let lt : t < length w.places = may.thread in omega arith)
]
nobody_turns w t turn.Go idle =
    inr (λ may. may.called (ap (λ p. (call_state p (rights w t)).purpose) idle))
nobody_turns w t turn.Spin idle = inr (λ may. let e : false ≡ true =
    sym (ap (λ p. is_some (respins_from p)) idle) ∙ may in cc)
nobody_turns w t turn.Late idle = inr (λ may. let e : false ≡ true =
    sym (ap (λ p. sleeps (act_of p)) idle) ∙ may.asleep in cc)
nobody_turns w t turn.Ok idle = inr (λ may. let e : false ≡ true =
    sym (ap (λ p. runs_closure (act_of p)) idle) ∙ may in cc)
nobody_turns w t turn.Err idle = inr (λ may. let e : false ≡ true =
    sym (ap (λ p. runs_closure (act_of p)) idle) ∙ may in cc)

-- each thread that takes a turn is there
pub turner_there : (w : State) (t : ℕ) (x : Turn) → MayTurn (locks_of w) t x → t < length w.places
turner_there w t x may = elim (cases_lt t (length w.places)) [
  | inl lt ↦ lt
  | inr ge ↦ elim (nobody_turns w t x (get_or_past w.places t Idle ge)) [
    | inl lt ↦ lt
    | inr none ↦
        absurd (none may)
  ]
]

-- ---------------------------------------------------------------- sections

module _ (w : State) (t : ℕ) where
  filled_changes : (k : ℕ) (who : Option ℕ) → k < length w.sections → SectionChanges (section_at w k) t who
      → (key : ℕ)
      → SectionChanges (section_at w key) t (section_at (state_with_sections w (One k) who) key)
  filled_changes k who lt changes key = elim (cases_eq key k) [
    | inl e ↦ rw (e, get_or-set_same w.sections k who None lt) changes
    | inr ne ↦ inl (get_or-set_other w.sections k key who None ne)
  ]

  filled_both : (j k : ℕ) (who : Option ℕ) → j < length w.sections → k < length w.sections
      → SectionChanges (section_at w j) t who
      → SectionChanges (section_at w k) t who → (key : ℕ)
      → SectionChanges (section_at w key) t (section_at (state_with_sections w (Two j k) who) key)
  filled_both j k who there here first second key = elim (cases_eq key k) [
    | inl e ↦ rw (
      e,
      get_or-set_same (set w.sections j who) k who None (rw (length-set w.sections j who)
          here),
    ) second
    | inr ne ↦ rw (get_or-set_other (set w.sections j who) k key who None ne)
        (filled_changes j who there first key)
  ]

  parked_sections : (b : Bool) (queues : List (List Waiter)) (key : ℕ)
      → section_at (if b then record w { queues = queues } else w) key ≡ section_at w key
  parked_sections true queues key = refl
  parked_sections false queues key = refl

  took_sections : (queues : List (List Waiter)) (o : Option ℕ) (key : ℕ)
      → section_at (state_after_taking (record w { queues = queues }) t o) key ≡ section_at w key
  took_sections queues None key = refl
  took_sections queues (Some u) key = refl

  left_sections : (keys : Keys) (x : Wakes) (key : ℕ)
      → section_at (state_after_wake (state_with_sections w keys None) t x) key ≡ section_at
      (state_with_sections w keys None) key
  left_sections keys wakes.Nobody key = refl
  left_sections keys (wakes.All note) key = refl

  given_sections : (p : Place) (k : ℕ) (op : Op) (b : Bool) (key : ℕ)
      → section_at (state_after_hand_over_by b w t p k op) key ≡ section_at w key
  given_sections p k op true key = refl
  given_sections p k op false key = refl

  took_all : (key : ℕ) (x : TakeWhich) (k : ℕ) → section_at (state_after_take w t key x) k ≡ section_at w k
  took_all key whom.First k = took_sections (queues_without_first w.queues key)
      (first_of (queue_at w key)) k
  took_all key (whom.Picked start recursive) k = refl
  took_all key whom.All k = refl

  module _ (shape : IsWellFormed w) (inductive : IsInductive w) (l : ℕ) (is_of : IsOf l (place_at w t))
      (lt : l < length w.locks) where
    there_is : (key : ℕ) → IsOfLine l key → key < length w.sections
    there_is key h = subst (λ k. k < length w.sections) (sym h.1) (key_there w l h.0 shape lt)

    -- the thread enters or leaves the section of one line alone, and leaves it only from inside
    act_sections : (p : Place) (a : Act) → can_do w a ≡ true → IsLineAct l (location (place_at w t)) a
        → (key : ℕ)
        → SectionChanges (section_at w key) t (section_at (state_after_act w t p a) key)
    act_sections p (Enter (One k)) can h key = filled_changes k (Some t) (there_is k h)
        (inr (inl (none_is (section_at w k) can, refl))) key
    act_sections p (Enter (Two first second)) can h key = absurd h
    act_sections p (act.Leave (One k) x) can h key = rw (left_sections (One k) x key)
        (filled_changes k None (there_is k (h.0, h.2))
        (inr (inr (holds_line w t l inductive is_of k h, refl)))
        key)
    act_sections p (act.Leave (Two first second) x) can h key = absurd h
    act_sections p (Park k key_there check x) can h key =
        inl (parked_sections (holds check (word_at w k)) _ key)
    act_sections p (Take k x) can h key = inl (took_all k x key)
    act_sections p (act.Requeue from to how) can h key = absurd h
    act_sections p (act.HandOver k op) can h key =
        inl (given_sections p k op (takes_effect op (word_at w k)) key)
    act_sections p Rest can h key = inl refl
    act_sections p a can h key = inl refl

  module _ (shape : IsWellFormed w) (inductive : IsInductive w) (c : ℕ) (at : CondvarPlace) (is : place_at w t
      ≡ Condvar c at)
      (fits : FitsItsLock w (Condvar c at)) where
    key_is : (key : ℕ) → IsItsKey c at key → key < length w.sections
    key_is key (inl h) = subst (λ k. k < length w.sections) (sym h) (key_there w c Main shape
        (subst (PlaceFits (length w.locks)) is (shape.places t)).0)
    key_is key (inr h) = subst (λ k. k < length w.sections) (sym h.2) (key_there w h.0 Main shape
        (beside_there at h.1 (subst (PlaceFits (length w.locks)) is (shape.places t))))
      where
        beside_there : (p : CondvarPlace) → mutex_beside p ≡ Some h.0 → PlaceFits (length w.locks)
            (Condvar c p)
            → h.0 < length w.locks
        beside_there (Wait m timed q) e held = let here : m ≡ h.0 = cc in subst (λ k. k < length w.locks) here
            held.1
        beside_there (Notify all m q) e held = let here : m ≡ h.0 = cc in subst (λ k. k < length w.locks) here
            held.1
        beside_there (Look all) e held = absurd cc

    -- the thread enters sections that are free, and leaves those that it is inside
    two_sections : (p : Place) (a : Act) → can_do w a ≡ true → IsActOfTwo c at a → (key : ℕ)
        → SectionChanges (section_at w key) t (section_at (state_after_act w t p a) key)
    two_sections p (Enter (One k)) can h key = filled_changes k (Some t) (key_is k h)
        (inr (inl (none_is (section_at w k) can, refl))) key
    two_sections p (Enter (Two first second)) can h key = let free =
        (can_is w (Enter (Two first second)) can).2 in
        filled_both first second (Some t) (key_is first h.0) (key_is second h.1) (inr (inl (free.0, refl)))
        (inr (inl (free.1, refl))) key
    two_sections p (act.Leave (One k) x) can h key = rw (left_sections (One k) x key)
        (filled_changes k None (key_is k (inside_its c at k h))
        (inr (inr (holds_key w t c at inductive is fits k h, refl))) key)
    two_sections p (act.Leave (Two first second) x) can h key = rw (left_sections (Two first second) x key)
        (filled_both first second None (key_is first (inside_its c at first h.0))
        (key_is second (inside_its c at second h.1))
        (inr (inr (holds_key w t c at inductive is fits first h.0, refl)))
        (inr (inr (holds_key w t c at inductive is fits second h.1, refl))) key)
    two_sections p (Park k key_there check x) can h key =
        inl (parked_sections (holds check (word_at w k)) _ key)
    two_sections p (Take k x) can h key = inl (took_all k x key)
    two_sections p (act.HandOver k op) can h key =
        inl (given_sections p k op (takes_effect op (word_at w k)) key)
    two_sections p Rest can h key = inl refl
    two_sections p a can h key = inl refl

pub gone_sections : (w : State) (t : ℕ) → IsWellFormed w → IsInductive w → can_go w t ≡ true → (key : ℕ)
    → SectionChanges (section_at w key) t (section_at (state_after_go w t) key)
gone_sections w t shape inductive can = elim (single_or_two (place_at w t)) [
  | inl single ↦
      by_lock single (called_lock (place_at w t)) refl
  | inr two ↦ by_two two
]
  where
    by_lock : IsSingle (place_at w t) → (o : Option ℕ) → called_lock (place_at w t) ≡ o → (key : ℕ)
        → SectionChanges (section_at w key) t
        (section_at (state_after_act w t (place_at w t) (act_of (place_at w t))) key)
    by_lock single (Some l) own key = act_sections w t shape inductive l (of_own l (place_at w t) single own)
        (calls_there (length w.locks) (place_at w t) l own (shape.places t)) (place_at w t)
        (act_of (place_at w t)) can (line_act (place_at w t) l single own) key
    by_lock single None none key = absurd (let e : can_do w (act_of (place_at w t)) ≡ false =
        ap (λ p. can_do w (act_of p)) (calls_none (place_at w t) none) in cc)

    by_two : (two : IsOfTwo (place_at w t)) → (key : ℕ)
        → SectionChanges (section_at w key) t
        (section_at (state_after_act w t (place_at w t) (act_of (place_at w t))) key)
    by_two two key = let fits = fits_two w t inductive two in
        two_sections w t shape inductive two.lock two.at two.is fits (place_at w t) (act_of (place_at w t))
        can
        (subst (λ p. IsActOfTwo two.lock two.at (act_of p)) (sym two.is)
        (condvar_lines two.lock two.at fits.reached)) key

-- ---------------------------------------------------------------- the other turns

module _ (w : State) (t : ℕ) (there : t < length w.places) where
  pub late_awake : IsInductive w → (o : Option ℕ) → late_key (place_at w t) ≡ o → is_free_under w o ≡ true
      → sleeps (act_of (place_at (state_after_late_on w t o) t)) ≡ false
  late_awake inductive None e can = absurd cc
  late_awake inductive (Some key) e can =
      ap (λ p. sleeps (act_of p)) (get_or-set_same w.places t (next_place (place_at w t) Late) Idle there)
      ∙ awake_is (act_of (next_place (place_at w t) Late)) (elim (single_or_two (place_at w t)) [
        | inl single ↦ (let of = late_line (place_at w t) key single e
            in (late_next (place_at w t) of.2.0 single of.2.1).awake)
        | inr two ↦ subst (λ p. act_of (next_place p Late) ≢ Sleep) (sym two.is)
            (late_two w t inductive two key e).awake
      ])

module _ (w : State) (t : ℕ) (shape : IsWellFormed w) where
  -- a thread that is late enters the section of the line in which it sleeps
  pub late_sections : IsInductive w → (p : Place) → place_at w t ≡ p → PlaceFits (length w.locks) p
      → is_free_under w (late_key p) ≡ true → (key : ℕ)
      → SectionChanges (section_at w key) t (section_at (state_after_late_on w t (late_key p)) key)
  late_sections inductive p is fits can = by_key (late_key p) refl can
    where
      by_key : (o : Option ℕ) → late_key p ≡ o → is_free_under w o ≡ true → (key : ℕ)
          → SectionChanges (section_at w key) t (section_at (state_after_late_on w t o) key)
      by_key None e can key = absurd cc
      by_key (Some k) e can key = filled_changes w t k (Some t) (elim (single_or_two p) [
        | inl single ↦ (let of = late_line p k single e in subst (λ j. j < length w.sections) (sym of.2.2)
            (key_there w of.0 of.2.0 shape (calls_there (length w.locks) p of.0 of.1 fits)))
        | inr two ↦ (let is_late = two_late two.lock two.at (condvar_apart w two.lock two.at
            (subst (FitsItsLock w) (is ∙ two.is) (inductive.stands.calls t))) k (sym (ap late_key two.is) ∙ e)
            in
            subst (λ j. j < length w.sections) (sym is_late.under) (key_there w is_late.lock Main shape
            (is_late.there (length w.locks) (subst (PlaceFits (length w.locks)) two.is fits))))
      ]) (inr (inl (none_is (section_at w k) can, refl))) key
