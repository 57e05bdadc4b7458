-- The straight course of a wait and of a notification: where each turn leads, and that it ends no call.
use Rattle.std.proofs.Common.{ℕ, ◌≡◌, ◌≢◌, ◌==◌, ◌<◌, ◌||◌, ◌+◌, Bool, true, false, List, None, Some}
use Rattle.std.proofs.Common.{refl, sym, subst, if◌then◌else◌, ne_eqb, eq-eqb, arith}
use Rattle.std.specs.Prelude.{◌*◌, ◌^◌, not, nat_lt}
use Rattle.steps_base.specs.declared.acts.Reply.{Reply}
use Rattle.steps_base.specs.declared.acts.Reply.TheVariants.{Done, Value, Parked, Took, Picked, Requeued}
use Rattle.steps_base.specs.declared.acts.Reply.TheVariants.{Removed, TakenBy, MovedTo, HandedBy, Late, Woken}
use Rattle.steps_base.specs.declared.acts.Reply.TheVariants.{Closed}
use Rattle.core_base.specs.declared.notes.Note.TheVariants.{Normal, HandOff}
use Rattle.spec_locks.specs.declared.outcomes.OnceState.{OnceState}
use Rattle.steps_condvar.specs.CondvarSteps.{is_shown, waited}
use Rattle.steps_condvar.specs.declared.notify.NotifyAt.TheVariants as notify
use Rattle.steps_condvar.specs.declared.places.CondvarPlace.TheVariants.{Wait, Look, Notify}
use Rattle.steps_condvar.specs.declared.wait.WaiterFate.TheVariants.{Listed}
use Rattle.steps_condvar.specs.declared.wait.WaitAt.TheVariants as wait
use Rattle.steps_mutex.specs.MutexSteps.{is_locked, is_parked}
use Rattle.steps_mutex.specs.declared.lock.LockAt.TheVariants as lock
use Rattle.steps_mutex.specs.declared.unlock.UnlockAt.TheVariants as unlock
use Rattle.lot_steps.specs.Steps.{next_act, next_place}
use Rattle.lot_steps.specs.declared.places.Place.{Place}
use Rattle.lot_steps.specs.declared.places.Place.TheVariants.{Idle, Mutex, RwLock, Once, Condvar, Semaphore}
use Rattle.core_words.specs.declared.owners.Ownership.{Ownership}
use Rattle.run_base.specs.Fitting.{IsStopped, call_purpose, answer_of}
use Rattle.run_base.specs.Stages.{ThreadState}
use Rattle.run_base.specs.declared.driver.Stop.TheVariants.{Paused}
use Rattle.run_locks.specs.CondvarCourses.{IsOfCondvar, locks_at, notify_at, releases_at, wait_at}
use Rattle.run_base.specs.MutexCourses.{taken_on}
use Rattle.run_locks.proofs.CondvarCalling.{notify_never_pauses, wait_never_pauses}

-- no call of a condition variable runs a closure
pub never_pauses : (up : Type 0) (base : List Ownership) (p q : Place) (state : OnceState) (st : ThreadState)
    → IsOfCondvar p → IsStopped up base (call_purpose p) (Paused q state) st → ⊥
never_pauses up base Idle q state st of s = of
never_pauses up base (Mutex l at) q state st of s = of
never_pauses up base (RwLock l a at) q state st of s = of
never_pauses up base (Once l at) q state st of s = of
never_pauses up base (Semaphore l at) q state st of s = of
never_pauses up base (Condvar c (Wait m timed at)) q state st of s = wait_never_pauses up base c m timed q
    state st s
never_pauses up base (Condvar c (Look all)) q state st of s = of
never_pauses up base (Condvar c (Notify all m at)) q state st of s = notify_never_pauses up base c m all q
    state st s

-- a number whose keys are numbers
pub keyed : (n : ℕ) → n < 2 ^ 63 → 2 * n + 1 < 2 ^ 64
keyed n small = omega arith

module _ (c m : ℕ) where
  -- the mutex isn't free
  pub locks_on : (timed : Bool) (seen : ℕ) → seen ≢ 0
      → (next_place (wait_at c m timed (locks_at lock.First)) (Value seen) ≡ wait_at c m timed
      (locks_at lock.Load)) × (answer_of (next_act (wait_at c m timed (locks_at lock.First)) (Value seen))
      ≡ None)
  locks_on timed seen ne = (rw (ne_eqb seen 0 ne) refl, rw (ne_eqb seen 0 ne) refl)

  -- a thread that looks at it decides by what it saw
  pub decides_on : (timed : Bool) (seen : ℕ) (b : Bool) → is_locked seen ≡ b
      → answer_of (next_act (wait_at c m timed (locks_at lock.Load)) (Value seen)) ≡ None
  decides_on timed seen false e = rw e refl
  decides_on timed seen true e = by_owner (seen == 1) refl
    where
      by_owner : (b : Bool) → (seen == 1) ≡ b
          → answer_of (next_act (wait_at c m timed (locks_at lock.Load)) (Value seen)) ≡ None
      by_owner true one = rw (e, one) refl
      by_owner false one = rw (e, one) refl

  -- A wait takes its mutex where it finds the word as it saw it.
  pub takes_free : (timed : Bool) (seen found : ℕ) → is_locked seen ≡ false → found ≡ seen
      → answer_of (next_act (wait_at c m timed (locks_at (lock.Decide seen))) (Value found))
      ≡ Some (waited timed false)
  takes_free timed seen found free e = let unowned : is_locked found ≡ false =
      subst (λ (k : ℕ). is_locked k ≡ false) (sym e) free in rw (eq-eqb found seen e, unowned) refl

  pub decides_again : (timed : Bool) (seen found : ℕ) (b : Bool) → found ≢ seen → is_locked found ≡ b
      → answer_of (next_act (wait_at c m timed (locks_at (lock.Decide seen))) (Value found)) ≡ None
  decides_again timed seen found false ne e = rw (ne_eqb found seen ne, e) refl
  decides_again timed seen found true ne e = by_owner (found == 1) refl
    where
      by_owner : (b : Bool) → (found == 1) ≡ b
          → answer_of (next_act (wait_at c m timed (locks_at (lock.Decide seen))) (Value found)) ≡ None
      by_owner true one = rw (ne_eqb found seen ne, e, one) refl
      by_owner false one = rw (ne_eqb found seen ne, e, one) refl

  -- a release goes on after its take
  pub took_on : (timed any none_left : Bool)
      → (next_place (wait_at c m timed (releases_at unlock.Take)) (Took any none_left) ≡ wait_at c m timed
      (releases_at (taken_on any none_left)))
      × (answer_of (next_act (wait_at c m timed (releases_at unlock.Take)) (Took any none_left)) ≡ None)
  took_on timed any true = (refl, refl)
  took_on timed any false = (refl, refl)

  -- no wake of a sleeper ends a wait
  pub sleeps_on : (timed : Bool) (reply : Reply)
      → answer_of (next_act (wait_at c m timed (wait.Asleep Listed)) reply) ≡ None
  sleeps_on timed Done = refl
  sleeps_on timed (Value seen) = refl
  sleeps_on timed (Parked parked) = refl
  sleeps_on timed (Took any none_left) = refl
  sleeps_on timed (Picked sharers successor none_left) = refl
  sleeps_on timed (Requeued number none_left) = refl
  sleeps_on timed (Removed none_left) = refl
  sleeps_on timed (TakenBy by) = refl
  sleeps_on timed (MovedTo key) = refl
  sleeps_on timed (HandedBy by alone) = refl
  sleeps_on timed Late = refl
  sleeps_on timed (Closed succeeded) = refl
  sleeps_on timed (Woken Normal) = refl
  sleeps_on timed (Woken HandOff) = refl

  -- a release goes on by the bit that it sees
  pub releases_on : (timed : Bool) (seen : ℕ) → is_parked seen ≡ true
      → (next_place (wait_at c m timed (releases_at unlock.Subtract)) (Value seen) ≡ wait_at c m timed
      (releases_at unlock.Enter)) × (answer_of (next_act (wait_at c m timed (releases_at unlock.Subtract))
      (Value seen)) ≡ None)
  releases_on timed seen e = (rw e refl, rw e refl)

  pub released_on : (timed : Bool) (seen : ℕ) → is_parked seen ≡ false
      → (next_place (wait_at c m timed (releases_at unlock.Subtract)) (Value seen) ≡ wait_at c m timed
      (wait.Asleep Listed)) × (answer_of (next_act (wait_at c m timed (releases_at unlock.Subtract))
      (Value seen)) ≡ None)
  released_on timed seen e = (rw e refl, rw e refl)

  -- A wait goes on by the mutex that is shown.
  pub shows_on : (timed : Bool) (seen : ℕ) (b : Bool) → ((seen == 0) || is_shown seen m) ≡ b
      → (next_place (wait_at c m timed wait.Show) (Value seen) ≡ wait_at c m timed (if b then wait.Stand
      else wait.Refuse)) × (answer_of (next_act (wait_at c m timed wait.Show) (Value seen)) ≡ None)
  shows_on timed seen true e = (rw e refl, rw e refl)
  shows_on timed seen false e = (rw e refl, rw e refl)

  -- a notification looks again
  pub again_on : (all : Bool) (seen : ℕ) (b : Bool) → is_shown seen m ≡ b
      → (next_place (notify_at c m all notify.Again) (Value seen) ≡ notify_at c m all (if not b
      then notify.Leave false 0 else if all then notify.Hide else notify.Mark))
      × (answer_of (next_act (notify_at c m all notify.Again) (Value seen)) ≡ None)
  again_on true seen true e = (rw e refl, rw e refl)
  again_on true seen false e = (rw e refl, rw e refl)
  again_on false seen true e = (rw e refl, rw e refl)
  again_on false seen false e = (rw e refl, rw e refl)

  pub hides_on : (all : Bool) (seen : ℕ) → all ≡ true → is_shown seen m ≡ true
      → (next_place (notify_at c m all notify.Again) (Value seen) ≡ notify_at c m all notify.Hide)
      × (answer_of (next_act (notify_at c m all notify.Again) (Value seen)) ≡ None)
  hides_on true seen is e = again_on true seen true e
  hides_on false seen is e = absurd cc

  pub looks_on : (all : Bool) (seen : ℕ) → all ≡ false → is_shown seen m ≡ true
      → (next_place (notify_at c m all notify.Again) (Value seen) ≡ notify_at c m all notify.Mark)
      × (answer_of (next_act (notify_at c m all notify.Again) (Value seen)) ≡ None)
  looks_on true seen is e = absurd cc
  looks_on false seen is e = again_on false seen true e

  -- A notification goes on by the owner that it sees.
  pub marks_on : (all : Bool) (seen : ℕ) (b : Bool) → is_locked seen ≡ b
      → (next_place (notify_at c m all notify.Mark) (Value seen) ≡ notify_at c m all
      (if b then notify.Set seen else notify.Move false))
      × (answer_of (next_act (notify_at c m all notify.Mark) (Value seen)) ≡ None)
  marks_on true seen true e = (rw e refl, rw e refl)
  marks_on true seen false e = (rw e refl, rw e refl)
  marks_on false seen true e = (rw e refl, rw e refl)
  marks_on false seen false e = (rw e refl, rw e refl)

  -- a thread that marks the mutex goes on to move, unless the word has changed
  pub set_on : (all : Bool) (expected found : ℕ) → found ≡ expected
      → (next_place (notify_at c m all (notify.Set expected)) (Value found) ≡ notify_at c m all
      (notify.Move true)) × (answer_of (next_act (notify_at c m all (notify.Set expected)) (Value found))
      ≡ None)
  set_on true expected found e = (rw (eq-eqb found expected e) refl, rw (eq-eqb found expected e) refl)
  set_on false expected found e = (rw (eq-eqb found expected e) refl, rw (eq-eqb found expected e) refl)

  pub set_again : (all : Bool) (expected found : ℕ) (b : Bool) → found ≢ expected → is_locked found ≡ b
      → answer_of (next_act (notify_at c m all (notify.Set expected)) (Value found)) ≡ None
  set_again true expected found true ne e = rw (ne_eqb found expected ne, e) refl
  set_again true expected found false ne e = rw (ne_eqb found expected ne, e) refl
  set_again false expected found true ne e = rw (ne_eqb found expected ne, e) refl
  set_again false expected found false ne e = rw (ne_eqb found expected ne, e) refl

  -- after the move of the first it goes on by whether it was the last
  pub one_taken : (any none_left : Bool)
      → answer_of (next_act (notify_at c m false (notify.Move false)) (Took any none_left)) ≡ None
  one_taken any true = refl
  one_taken any false = refl

  pub one_moved : (number : ℕ) (none_left : Bool)
      → answer_of (next_act (notify_at c m false (notify.Move true)) (Requeued number none_left)) ≡ None
  one_moved number true = refl
  one_moved number false = refl

  -- A notification of all goes on by how many it has moved.
  pub rest_moved : (number : ℕ) (none_left b : Bool) → nat_lt 1 number ≡ b
      → (next_place (notify_at c m true (notify.Move false)) (Requeued number none_left) ≡ notify_at c m true
      (if b then notify.MarkMoved number else notify.Leave true number))
      × (answer_of (next_act (notify_at c m true (notify.Move false)) (Requeued number none_left)) ≡ None)
  rest_moved number none_left true e = (rw e refl, rw e refl)
  rest_moved number none_left false e = (rw e refl, rw e refl)
