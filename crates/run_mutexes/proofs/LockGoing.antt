-- The straight courses of a lock that parks and of a hand-off: where each turn leads, and that it ends no
-- call.
use Rattle.std.proofs.Common.{ℕ, ◌≡◌, ◌==◌, Bool, true, false, List, None, refl, sym}
use Rattle.std.specs.Prelude.{◌*◌}
use Rattle.core_base.specs.declared.wants.Want.TheVariants.{Exclusive}
use Rattle.steps_base.specs.declared.acts.Act.TheVariants.{Park}
use Rattle.steps_base.specs.declared.acts.Check.TheVariants.{WordIs}
use Rattle.core_base.specs.declared.notes.Note.TheVariants.{Normal, HandOff}
use Rattle.core_words.specs.declared.owners.Ownership.{Ownership}
use Rattle.spec_locks.specs.declared.outcomes.OnceState.{OnceState}
use Rattle.steps_base.specs.declared.acts.Reply.{Reply}
use Rattle.steps_base.specs.declared.acts.Reply.TheVariants.{Done, Value, Parked, Took, Picked, Requeued}
use Rattle.steps_base.specs.declared.acts.Reply.TheVariants.{Removed, TakenBy, MovedTo, HandedBy, Late, Woken}
use Rattle.steps_base.specs.declared.acts.Reply.TheVariants.{Closed}
use Rattle.steps_mutex.specs.MutexSteps.{is_locked}
use Rattle.steps_mutex.specs.declared.hand_off.HandOffAt.TheVariants as hand_off
use Rattle.steps_mutex.specs.declared.lock.Entry.{Entry}
use Rattle.steps_mutex.specs.declared.lock.LockAt.TheVariants as lock
use Rattle.lot_steps.specs.Steps.{next_act, next_place}
use Rattle.lot_steps.specs.declared.places.Place.{Place}
use Rattle.lot_steps.specs.declared.places.Place.TheVariants.{Idle, Mutex, RwLock, Once, Condvar, Semaphore}
use Rattle.run_base.specs.Fitting.{IsStopped, answer_of, call_purpose}
use Rattle.run_base.specs.MutexFitting.{mutex_purpose_at}
use Rattle.run_base.specs.Stages.{ThreadState}
use Rattle.run_base.specs.declared.driver.Stop.TheVariants.{Paused}
use Rattle.run_base.proofs.Ending.{never_paused}
use Rattle.run_mutexes.specs.LockCourses.{IsOfMutex, hands_at, locks_at}

-- no call of a mutex runs a closure
pub never_pauses : (up : Type 0) (base : List Ownership) (p q : Place) (state : OnceState) (st : ThreadState)
    → IsOfMutex p → IsStopped up base (call_purpose p) (Paused q state) st → ⊥
never_pauses up base Idle q state st of s = of
never_pauses up base (Mutex m at) q state st of s =
    never_paused up base m (mutex_purpose_at at) q state st s
never_pauses up base (RwLock l a at) q state st of s = of
never_pauses up base (Once l at) q state st of s = of
never_pauses up base (Condvar l at) q state st of s = of
never_pauses up base (Semaphore l at) q state st of s = of

-- a park by the key that is computed
pub parks_at : {a : ℕ} (m : ℕ) → a ≡ 2 * m → Park m (2 * m) (WordIs 3) Exclusive ≡ Park m a (WordIs 3)
    Exclusive
parks_at m e i = Park m (sym e i) (WordIs 3) Exclusive

module _ (m : ℕ) where
  -- a thread that looks at the word decides by what it saw
  pub looks_on : (e : Entry) (seen : ℕ) (b : Bool) → is_locked seen ≡ b
      → answer_of (next_act (locks_at m e lock.Load) (Value seen)) ≡ None
  looks_on e seen false is = rw is refl
  looks_on e seen true is = by_owner (seen == 1) refl
    where
      by_owner : (b : Bool) → (seen == 1) ≡ b
          → answer_of (next_act (locks_at m e lock.Load) (Value seen)) ≡ None
      by_owner true one = rw (is, one) refl
      by_owner false one = rw (is, one) refl

  -- no wake of a sleeper ends a lock
  pub sleeps_on : (e : Entry) (reply : Reply)
      → answer_of (next_act (locks_at m e lock.Asleep) reply) ≡ None
  sleeps_on e Done = refl
  sleeps_on e (Value seen) = refl
  sleeps_on e (Parked parked) = refl
  sleeps_on e (Took any none_left) = refl
  sleeps_on e (Picked sharers successor none_left) = refl
  sleeps_on e (Requeued number none_left) = refl
  sleeps_on e (Removed none_left) = refl
  sleeps_on e (TakenBy by) = refl
  sleeps_on e (MovedTo key) = refl
  sleeps_on e (HandedBy by alone) = refl
  sleeps_on e Late = refl
  sleeps_on e (Closed succeeded) = refl
  sleeps_on e (Woken Normal) = refl
  sleeps_on e (Woken HandOff) = refl

  -- the thread stays in the call
  pub stays_of : (e : Entry) (reply : Reply) → IsOfMutex (next_place (locks_at m e lock.Asleep) reply)
  stays_of e Done = tt
  stays_of e (Value seen) = tt
  stays_of e (Parked parked) = tt
  stays_of e (Took any none_left) = tt
  stays_of e (Picked sharers successor none_left) = tt
  stays_of e (Requeued number none_left) = tt
  stays_of e (Removed none_left) = tt
  stays_of e (TakenBy by) = tt
  stays_of e (MovedTo key) = tt
  stays_of e (HandedBy by alone) = tt
  stays_of e Late = tt
  stays_of e (Closed succeeded) = tt
  stays_of e (Woken Normal) = tt
  stays_of e (Woken HandOff) = tt

  -- a hand-off goes on to its store
  pub takes_on : (any none_left : Bool)
      → answer_of (next_act (hands_at m hand_off.Take) (Took any none_left)) ≡ None
  takes_on true none_left = refl
  takes_on false none_left = refl
