-- A run of a `Once` that ends while its word tells of waiters goes on, and takes all of them in the section.
use Rattle.lot_laws.proofs.Imports
use Imports.{ℕ, Bool, true, false, Option, Some, None, if◌then◌else◌, ◌≡◌, ◌≢◌, ◌<◌, refl, sym, ◌∙◌, ap, subst}
use Imports.{is_some, length, nat_lt, ltb-true, both, Call, Step, Turn, Rights, rights_of, CallsOnce}
use Imports.{Main, Closed, is_marked, parked_in, Place, Idle, Mutex, RwLock, Once, Semaphore, Condvar, MutexPlace}
use Imports.{SemaphorePlace, CondvarPlace, RwLockCallPlace, RwLockPurpose, purpose_by, Admission, call_profile}
use Imports.{OncePlace, RunAt, Run, GiveUp, act_of, next_act, next_place, outcome_of, called_lock, respins_from, late_key}
use Imports.{key_in, is_idle, key_of, location, location_at, State, after, place_at, word_at, put, reply_to}
use Imports.{can_begin, can_close, can_do, can_turn, closed_place, close_outcome, go_outcome, is_free_under}
use Imports.{is_open_to, is_possible, runs_closure, state_after_close, state_after_go}
use Imports.{state_after_turn, step_outcome, turn_outcome}
use Imports.{IsInside, sort_at, RunsClosure, FitsItsLock, call_at, call_state, lock_state, IsInductive, mutex_profile}
use Imports.{once_profile, semaphore_profile}
use Rattle.spec_locks.specs.Locks as locks
use Rattle.spec_locks.specs.Purposes.{Purpose}
use Rattle.spec_locks.specs.declared.calls.OnceCall.TheVariants as once_call
use Rattle.spec_locks.specs.declared.calls.Turn.TheVariants as turn
use Rattle.spec_locks.specs.declared.outcomes.Outcome.TheVariants as told
use Rattle.steps_base.specs.declared.acts.Act.TheVariants as act
use Rattle.steps_base.specs.declared.acts.TakeWhich.TheVariants as whom
use Rattle.steps_mutex.specs.declared.lock.Entry.TheVariants as entry
use Rattle.steps_mutex.specs.declared.places.MutexPlace.TheVariants as mutex
use Rattle.steps_rwlock.specs.declared.purposes.RwLockPurpose.TheVariants as purpose
use Rattle.steps_rwlock_fair.specs.declared.places.RwLockCallPlace.TheVariants as fair
use Rattle.steps_once.specs.declared.look.LookAt.TheVariants as look
use Rattle.steps_once.specs.declared.places.OncePlace.TheVariants as once
use Rattle.steps_once.specs.declared.run.RunAt.TheVariants as run
use Rattle.steps_semaphore.specs.declared.places.SemaphorePlace.TheVariants as semaphore
use Rattle.steps_condvar.specs.declared.places.CondvarPlace.TheVariants as condvar
use Rattle.lot_laws.specs.Locations.{Location}
use Rattle.lot_laws.specs.Owing.{RunsOrRan}
use Rattle.lot_laws.proofs.calls.Closures.{RunsOne, runs_one}
use Rattle.lot_laws.proofs.calls.Closings.{closing, closing_there}
use Rattle.lot_laws.proofs.calls.Looking.{closing_here}
use Rattle.lot_laws.proofs.calls.OwnPlace.{gone_place, gone_told}
use Rattle.lot_laws.proofs.machine.Parts.{IsSingle, location_here, next_of}

abbrev runs_at : ℕ → Bool → RunAt → Place
runs_at l forced to = Once l (Run forced to)

-- ---------------------------------------------------------------- as it ends

module _ (w : State) (t l : ℕ) (inductive : IsInductive w) (there : t < length w.places)
    (runs : RunsClosure w t l) (waits : parked_in (sort_at w l) (word_at w l) ≡ true) where
  one : RunsOne (place_at w t)
  one = runs_one (place_at w t) runs.1

  same : one.lock ≡ l
  same = let called : Some one.lock ≡ Some l = sym (ap called_lock one.is) ∙ runs.0 in cc

  marked : is_marked (word_at w one.lock) ≡ true
  marked = ap (λ k. is_marked (word_at w k)) same
      ∙ ap (λ (s : locks.Sort). parked_in s (word_at w l)) (sym sort) ∙ waits
    where
      sort : sort_at w l ≡ locks.Once
      sort = subst (λ k. sort_at w k ≡ locks.Once) same
          (subst (FitsItsLock w) one.is (inductive.stands.calls t))

  closes : (b : Bool) → close_outcome w t b ≡ told.Step
  closes b = gone_told (closing w t there b one) t (subst IsSingle (sym here) tt)
      ∙ ap (λ p. outcome_of (next_act p (reply_to (closing w t there b one) t (act_of p)))) here ∙ rw marked refl
    where
      here : place_at (closing w t there b one) t ≡ runs_at one.lock one.forced (run.Close b)
      here = closing_here w t there b one ∙ ap (λ p. next_place p (Closed b)) one.is

  by_turn : (x : Turn) → can_turn w t x ≡ true → turn_outcome w t x ≡ told.Step
  by_turn (turn.Begin c) can = refl
  by_turn turn.Go can = absurd (let f : false ≡ true = sym (ap (λ p. can_do w (act_of p)) one.is)
      ∙ can in cc)
  by_turn turn.Spin can = absurd (let f : false ≡ true =
      sym (ap (λ p. is_some (respins_from p)) one.is) ∙ can in cc)
  by_turn turn.Late can = refl
  by_turn turn.Ok can = closes true
  by_turn turn.Err can = closes false

pub run_goes_on : (w : State) (s : Step) → IsInductive w → (l : ℕ) → step_outcome w s ≢ told.NotNow
    → RunsClosure w s.thread l → parked_in (sort_at w l) (word_at w l) ≡ true → step_outcome w s ≡ told.Step
run_goes_on w s inductive l possible runs waits = either (is_possible w s) refl possible
  where
    either : (b : Bool) → is_possible w s ≡ b → (if b then turn_outcome w s.thread s.turn else told.NotNow)
        ≢ told.NotNow
        → (if b then turn_outcome w s.thread s.turn else told.NotNow) ≡ told.Step
    either true can n = let parts = both (nat_lt s.thread (length w.places)) (can_turn w s.thread s.turn) can
        in by_turn w s.thread l inductive (ltb-true s.thread (length w.places) parts.0) runs waits s.turn
        parts.1
    either false can n = absurd (n refl)

-- ---------------------------------------------------------------- a call that runs it, or has run it

record IsRunAt (p : Place) (l : ℕ) : Type 0 where
  pub forced : Bool
  pub to : RunAt
  pub is : p ≡ runs_at l forced to

module _ (l : ℕ) (forced : Bool) (r : ℕ → Rights) where
  abbrev Runs : Option Purpose → Type 0
  Runs o = o ≡ Some (CallsOnce l forced)

  not_mutex : (k : ℕ) (p : MutexPlace) → Runs (Some ((mutex_profile p).purpose k)) → ⊥
  not_mutex k mutex.TryLock h = cc
  not_mutex k (mutex.Lock entry.Lock retries to) h = cc
  not_mutex k (mutex.Lock entry.LockTimed retries to) h = cc
  not_mutex k (mutex.Lock entry.Bump retries to) h = cc
  not_mutex k (mutex.Unlock to) h = cc
  not_mutex k mutex.UnlockFair h = cc
  not_mutex k mutex.Bump h = cc
  not_mutex k (mutex.HandOff true to) h = cc
  not_mutex k (mutex.HandOff false to) h = cc

  not_plain : (k : ℕ) (q : RwLockPurpose) → Runs (Some (purpose_by q k)) → ⊥
  not_plain k (purpose.Enter x how) h = cc
  not_plain k (purpose.Release x) h = cc
  not_plain k (purpose.Downgrade d) h = cc
  not_plain k (purpose.Upgrade how) h = cc

  not_shared : (k : ℕ) (a : Admission) (c : RwLockCallPlace) → Runs (Some ((call_profile a c).purpose k)) → ⊥
  not_shared k a (fair.Plain p) h = not_plain k p.purpose h
  not_shared k a (fair.Bump p) h = cc
  not_shared k a (fair.PeekQueue x) h = cc
  not_shared k a (fair.HandOver x true to) h = cc
  not_shared k a (fair.HandOver x false to) h = cc
  not_shared k a (fair.Handed x how true to) h = cc
  not_shared k a (fair.Handed x how false to) h = cc

  by_once : (k : ℕ) (p : OncePlace) → Runs (Some ((once_profile p).purpose k))
      → (once_profile p).released ≡ true → IsRunAt (Once k p) l
  by_once k (once.Look c again look.Load) h ran = absurd cc
  by_once k (once.Look c again (look.Decide seen)) h ran = absurd cc
  by_once k (once.Look c again look.Check) h ran = absurd cc
  by_once k (once.Look c again (look.Leave parked)) h ran = absurd cc
  by_once k (once.Look c again look.Asleep) h ran = absurd cc
  by_once k (once.Look c again (look.Taken by)) h ran = absurd cc
  by_once k (once.Run f to) h ran = record {
    forced = f;
    to = to;
    is = let same : k ≡ l = cc in ap (λ j. runs_at j f to) same;
  }
  by_once k (once.GiveUp again to) h ran = absurd cc

  not_semaphore : (k : ℕ) (p : SemaphorePlace) → Runs (Some ((semaphore_profile p).purpose k)) → ⊥
  not_semaphore k (semaphore.Acquire timed retries to) h = cc
  not_semaphore k (semaphore.Try to) h = cc
  not_semaphore k (semaphore.Release to) h = cc

  by_place : (p : Place) → Runs (call_state p r).purpose → (call_state p r).released ≡ true → IsRunAt p l
  by_place Idle h ran = absurd cc
  by_place (Mutex k at) h ran = absurd (not_mutex k at h)
  by_place (RwLock k a c) h ran = absurd (not_shared k a c h)
  by_place (Once k at) h ran = by_once k at h ran
  by_place (Semaphore k at) h ran = absurd (not_semaphore k at h)
  by_place (Condvar k (condvar.Wait m timed to)) h ran = absurd cc
  by_place (Condvar k (condvar.Look all)) h ran = absurd cc
  by_place (Condvar k (condvar.Notify all m to)) h ran = absurd cc

-- ---------------------------------------------------------------- as it comes into the section

abbrev TakesAll : State → ℕ → ℕ → Type 0
TakesAll v t l = act_of (place_at v t) ≡ act.Take (key_of l Main) whom.All

abbrev IsOutside : Place → Type 0
IsOutside p = (location p).inside ≡ Some Main → ⊥

module _ (w : State) (t l : ℕ) (forced : Bool) (to : RunAt) (is : place_at w t ≡ runs_at l forced to)
    (out : IsOutside (runs_at l forced to)) where
  abbrev Then : RunAt → Place
  Then at = next_place (runs_at l forced at) (reply_to w t (act_of (runs_at l forced at)))

  abbrev Takes : Place → Type 0
  Takes p = (location p).inside ≡ Some Main → act_of p ≡ act.Take (key_of l Main) whom.All

  then_takes : (at : RunAt) → IsOutside (runs_at l forced at) → Takes (Then at)
  then_takes (run.Closure poisoned) free = λ e. absurd cc
  then_takes (run.Close succeeded) free = by_word (is_marked (word_at w l)) refl
    where
      by_word : (b : Bool) → is_marked (word_at w l) ≡ b → Takes (Then (run.Close succeeded))
      by_word true e = rw e (λ f. absurd cc)
      by_word false e = rw e (λ f. absurd cc)
  then_takes (run.Enter succeeded) free = λ e. refl
  then_takes (run.Take succeeded) free = absurd (free refl)
  then_takes (run.Leave succeeded any) free = absurd (free refl)

  goes_takes : t < length w.places → IsInductive (state_after_go w t) → IsInside (state_after_go w t) t l Main
      → TakesAll (state_after_go w t) t l
  goes_takes there after inside =
      let single : IsSingle (place_at w t) = subst IsSingle (sym is) tt in
      let at_then : place_at (state_after_go w t) t ≡ Then to =
      gone_place w t single there ∙ ap (λ x. next_place x (reply_to w t (act_of x))) is in
      let within : (location (Then to)).inside ≡ Some Main =
      sym (ap (λ (x : Location). x.inside) (location_here l (Then to)
      (next_of l (runs_at l forced to) (reply_to w t (act_of (runs_at l forced to))) refl)))
      ∙ sym (ap (λ x. (location_at x l).inside) at_then) ∙ (after.stands.sections t l Main).1 inside in
      ap act_of at_then ∙ then_takes to out within

module _ (w : State) (t l : ℕ) (inductive : IsInductive w) (ran : RunsOrRan w t l)
    (main : IsInside w t l Main → ⊥) where
  at : IsRunAt (place_at w t) l
  at = by_place l ran.0.0 (λ k. rights_of (lock_state w k) t) (place_at w t) ran.0.1 ran.1

  outside : IsOutside (runs_at l at.forced at.to)
  outside e = main ((inductive.stands.sections t l Main).0 (ap (λ x. (location_at x l).inside) at.is
      ∙ ap (λ (x : Location). x.inside) (location_here l (runs_at l at.forced at.to) refl) ∙ e))

  -- the closure has answered
  closed_at : (b : Bool) (to : RunAt) → runs_closure (act_of (runs_at l at.forced to)) ≡ true
      → next_place (runs_at l at.forced to) (Closed b) ≡ runs_at l at.forced (run.Close b)
  closed_at b (run.Closure poisoned) runs = refl
  closed_at b (run.Close succeeded) runs = absurd cc
  closed_at b (run.Enter succeeded) runs = absurd cc
  closed_at b (run.Take succeeded) runs = absurd cc
  closed_at b (run.Leave succeeded any) runs = absurd cc

  closed_takes : (b : Bool) → t < length w.places → can_close w t b ≡ true
      → IsInductive (state_after_close w t b) → IsInside (state_after_close w t b) t l Main
      → TakesAll (state_after_close w t b) t l
  closed_takes b there can after inside =
      let runs = (both (runs_closure (act_of (place_at w t))) (can_do w (act_of (closed_place w t b))) can).0 in
      let one : RunsOne (place_at w t) = runs_one (place_at w t) runs in
      let here : place_at (closing w t there b one) t ≡ runs_at l at.forced (run.Close b) =
      closing_here w t there b one ∙ ap (λ p. next_place p (Closed b)) at.is
      ∙ closed_at b at.to (sym (ap (λ p. runs_closure (act_of p)) at.is) ∙ runs) in
      goes_takes (closing w t there b one) t l at.forced (run.Close b) here (λ e. absurd cc)
      (closing_there w t there b one) after inside

  busy : (c : Call) → can_begin w t c ≡ true → ⊥
  busy c can = let idle = (both (is_idle (place_at w t)) (is_open_to w t c) can).0 in
      let f : false ≡ true = sym (ap is_idle at.is) ∙ idle in cc

  turn_takes : (x : Turn) → t < length w.places → can_turn w t x ≡ true → IsInductive (state_after_turn w t x)
      → IsInside (state_after_turn w t x) t l Main → TakesAll (state_after_turn w t x) t l
  turn_takes (turn.Begin c) there can after inside = absurd (busy c can)
  turn_takes turn.Go there can after inside = goes_takes w t l at.forced at.to at.is outside there
      after inside
  turn_takes turn.Spin there can after inside = absurd (let f : false ≡ true =
      sym (ap (λ p. is_some (respins_from p)) at.is) ∙ can in cc)
  turn_takes turn.Late there can after inside = absurd (let f : false ≡ true =
      sym (ap (λ p. is_free_under w (late_key p)) at.is ∙ late_none at.to) ∙ can in cc)
    where
      late_none : (to : RunAt) → is_free_under w (late_key (runs_at l at.forced to)) ≡ false
      late_none (run.Closure poisoned) = refl
      late_none (run.Close succeeded) = refl
      late_none (run.Enter succeeded) = refl
      late_none (run.Take succeeded) = refl
      late_none (run.Leave succeeded any) = refl
  turn_takes turn.Ok there can after inside = closed_takes true there can after inside
  turn_takes turn.Err there can after inside = closed_takes false there can after inside

pub ran_takes : (w : State) (s : Step) → IsInductive w → IsInductive (after w s) → (l : ℕ)
    → RunsOrRan w s.thread l → (IsInside w s.thread l Main → ⊥) → IsInside (after w s) s.thread l Main
    → TakesAll (after w s) s.thread l
ran_takes w s inductive after_is l ran main inside = either (is_possible w s) refl after_is inside
  where
    either : (b : Bool) → is_possible w s ≡ b → IsInductive (if b then state_after_turn w s.thread s.turn
        else w) → IsInside (if b then state_after_turn w s.thread s.turn else w) s.thread l Main
        → TakesAll (if b then state_after_turn w s.thread s.turn else w) s.thread l
    either true can after_so within = let parts = both (nat_lt s.thread (length w.places))
        (can_turn w s.thread s.turn) can in
        turn_takes w s.thread l inductive ran main s.turn (ltb-true s.thread (length w.places) parts.0)
        parts.1 after_so within
    either false can after_so within = absurd (main within)
