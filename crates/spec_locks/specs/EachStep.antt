-- The guarantees of each step: turns that are refused where they aren't possible, true answers, calls that go
-- on as they began, rights that change by their owner's call, and queues that keep their order.
use Rattle.std.specs.Prelude.{ℕ, Bool, true, None, Some, if◌then◌else◌, ◌≡◌, ◌≢◌, ◌≤◌, ◌⊎◌, ◌↔◌, List, []}
use Rattle.std.specs.Prelude.{◌∷◌, ◌++◌, drop, length, map}
use Rattle.spec_locks.specs.declared.calls.Call.{Call}
use Rattle.spec_locks.specs.declared.calls.Step.{Step}
use Rattle.spec_locks.specs.declared.calls.Turn.TheVariants.{Begin, Late, Ok, Err}
use Rattle.spec_locks.specs.declared.outcomes.Answer.{Answer}
use Rattle.spec_locks.specs.declared.outcomes.Outcome.{Outcome}
use Rattle.spec_locks.specs.declared.outcomes.Outcome.TheVariants.{NotNow, Sleep, Closure, End}
use Rattle.spec_locks.specs.declared.outcomes.OnceState.{OnceState}
use Rattle.spec_locks.specs.declared.outcomes.OnceState.TheVariants as once_state
use Rattle.spec_locks.specs.Condvars.{wanting_mutex}
use Rattle.spec_locks.specs.Kinds.{is_fair}
use Rattle.core_base.specs.declared.wants.Want.{Want}
use Rattle.spec_locks.specs.Locks.{IsBlocked, LockState, Mutex, Once, Pending, Queued, Rules, TakesOneAtATime}
use Rattle.spec_locks.specs.Locks.{first_thread}
use Rattle.spec_locks.specs.Locks.{times}
use Rattle.spec_locks.specs.Onces.{Phase, New, Poisoned, InProgress, Done, MayRest}
use Rattle.spec_locks.specs.Purposes.{CallsOnce, HasMoved, MayWait, Notifies, Saw, Waits}
use Rattle.spec_locks.specs.Runs.{LocksState, CallState, IsNotified, MayWake, SectionChanges, is_closure}
use Rattle.spec_locks.specs.Runs.{TriesEnd, is_taken_by}
use Rattle.spec_locks.specs.Runs.{new_call, no_call, rights_in, rules_at}
use Rattle.spec_locks.specs.CallTable.{IsPossible, IsTrue, goal_of}
use Rattle.spec_locks.specs.Trade.{MayChange}
use Rattle.spec_locks.specs.CondvarLaws.{NobodyWakesByItself}
use Rattle.spec_locks.specs.UserLaws.{ReadersStayOut}

-- ---------------------------------------------------------------- queues

-- a list is a part of another, in its order
abbrev pub IsPartOf : List Queued → List Queued → Type 0
IsPartOf [] q = Unit {0}
IsPartOf (x ∷ xs) [] = ⊥
IsPartOf (x ∷ xs) (y ∷ q) = ((x ≡ y) × IsPartOf xs q) ⊎ IsPartOf (x ∷ xs) q

-- waiters that stay in a line keep their order, and threads that join it stand after them
pub record KeepsOrderOf (before now : List Queued) : Type 0 where
  pub left : List Queued
  pub joined : List Queued
  pub is : now ≡ left ++ joined
  pub order : IsPartOf left before
  pub anew : (t : ℕ) → 1 ≤ times t joined → times t before ≡ 0

-- owners keep a thread out of a lock; or a run that is on, or has to come, at a `Once`
abbrev pub IsKeptOut : Rules → LockState → Want → Type 0
IsKeptOut r s x = IsBlocked r s x ⊎ ((r.sort ≡ Once) × ((forced : Bool) × MayRest x forced s.phase))

-- the thread has come to stand last for what it is kept out of
abbrev pub StandsLast : Rules → LockState → ℕ → LockState → Type 0
StandsLast r before t now = (x : Want) × (now.queue ≡ before.queue ++ (record { thread = t; want = x }) ∷ [])
    × IsKeptOut r before x

-- the thread t notifies a condition variable, in whose queue u stands and waits with the mutex l
abbrev pub IsMovedTo : LocksState → ℕ → ℕ → ℕ → Type 0
IsMovedTo w t u l = (c : ℕ) × (all timed : Bool) × ((w.calls t).purpose ≡ Some (Notifies c all))
    × ((w.calls u).purpose ≡ Some (Waits c l timed)) × (1 ≤ times u (w.locks c).queue)

-- a thread that joins a queue stands there by the step of its own call, which may wait for the lock, or is
-- moved
abbrev pub Joins : LocksState → ℕ → ℕ → ℕ → LockState → Type 0
Joins w t u l now = ((u ≡ t) × MayWait (w.calls u).purpose l × StandsLast (rules_at w l) (w.locks l) t now)
    ⊎ IsMovedTo w t u l

-- in the queue of each lock
abbrev pub QueuesKeepOrder : LocksState → LocksState → Type 0
QueuesKeepOrder w v = (l : ℕ) → KeepsOrderOf (w.locks l).queue (v.locks l).queue

-- ---------------------------------------------------------------- calls

-- a call goes on as its thread recalls it: it gives up only where its time was up
pub record CallGoesOn (before now : CallState) : Type 0 where
  pub purpose : now.purpose ≡ before.purpose
  pub former : now.former ≡ before.former
  pub gave_up : (now.gave_up ≡ before.gave_up) ⊎ (before.late ≡ true)
  pub late : now.late ≡ true → before.late ≡ true
  pub released : before.released ≡ true → now.released ≡ true

-- the call of the step's thread neither begins nor ends, and its time isn't up by this step
abbrev pub IsUnderWay : Step → Outcome → Type 0
IsUnderWay step o = ((begun : Call) → step.turn ≢ Begin begun) × (step.turn ≢ Late)
    × ((a : Answer) → o ≢ End a)

-- a call as its thread recalls it where it ends: it has given up only where it had before, or its time was up
pub record Recalls (w : LocksState) (t : ℕ) (now : CallState) : Type 0 where
  pub purpose : now.purpose ≡ (w.calls t).purpose
  pub former : now.former ≡ (w.calls t).former
  pub gave_up : (now.gave_up ≡ (w.calls t).gave_up) ⊎ ((w.calls t).late ≡ true)
  pub notified : IsNotified now.recalls → IsNotified (w.calls t).recalls
  pub released : (w.calls t).released ≡ true → now.released ≡ true

-- what a call recalls now: a notification, the mutex that it saw shown, and how many it has moved, the first
-- or all that stood there; a call of a `Once`, that the run of its thread left that poisoned
pub record RecallsTruly (w v : LocksState) (t : ℕ) (now : CallState) : Type 0 where
  pub saw : (m : ℕ) → now.recalls ≡ Saw m → ((w.calls t).recalls ≡ Saw m)
      ⊎ ((c : ℕ) × (all : Bool) × ((w.calls t).purpose ≡ Some (Notifies c all))
      × ((w.locks c).shown ≡ Some m))
  pub moved : (m n : ℕ) → now.recalls ≡ HasMoved m n → ((w.calls t).recalls ≡ HasMoved m n)
      ⊎ ((c : ℕ) × (all : Bool) × ((w.calls t).purpose ≡ Some (Notifies c all))
      × (n ≡ (if all then length (w.locks c).queue else 1))
      × ((v.locks c).queue ≡ (if all then [] else drop 1 (w.locks c).queue)))
  pub failed : now.failed ≡ true → ((w.calls t).failed ≡ true)
      ⊎ ((l : ℕ) × ((w.locks l).phase ≡ InProgress t) × ((v.locks l).phase ≡ Poisoned))

-- The call of the thread t recalls what the thread did by this step. Where a waiter of a condition variable
-- is notified, the call recalls from then on how many it has moved, and it had moved none before. A wait that
-- no longer owns its mutex recalls that it has released the mutex.
pub record Tells (w v : LocksState) (t : ℕ) (now : CallState) : Type 0 where
  pub tells : (u l m : ℕ) (timed : Bool) → (w.calls u).purpose ≡ Some (Waits l m timed)
      → (IsNotified (w.calls u).recalls → ⊥) → IsNotified (v.calls u).recalls
      → ((k n : ℕ) → (w.calls t).recalls ≢ HasMoved k n) × ((k n : ℕ) × (now.recalls ≡ HasMoved k n))
  pub keeps : (k n : ℕ) → (w.calls t).recalls ≡ HasMoved k n → now.recalls ≡ HasMoved k n
  pub gives : (l m : ℕ) (timed : Bool) → (w.calls t).purpose ≡ Some (Waits l m timed)
      → (w.locks m).exclusive ≡ Some t → ((v.locks m).exclusive ≡ Some t) ⊎ (now.released ≡ true)

-- a pending right stays, or becomes the exclusive one, or its thread has given up
abbrev pub PendsOn : LocksState → ℕ → LockState → Type 0
PendsOn w l now = (p : Pending) → (w.locks l).pending ≡ Some p → (now.pending ≡ Some p)
    ⊎ ((now.exclusive ≡ Some p.thread) ⊎ ((w.calls p.thread).gave_up ≢ None))

-- the waiters that a notification of c moves to the queue of l keep their order
abbrev pub MovesInOrder : LocksState → ℕ → ℕ → LockState → Type 0
MovesInOrder w c l now = (line : List Queued) × (now.queue ≡ (w.locks l).queue ++ line)
    × IsPartOf line (map wanting_mutex (w.locks c).queue)

-- ---------------------------------------------------------------- each step

-- how far a `Once` has come stays, or a run of the thread begins, or the run that it is on ends
abbrev pub PhaseChanges : Phase → Phase → ℕ → Outcome → Type 0
PhaseChanges before now t o = (now ≡ before)
    ⊎ (((now ≡ InProgress t) × (is_closure o ≡ true)) ⊎ (before ≡ InProgress t))

-- a step that leads from w to v, and of which this is told
pub record StepHolds (w : LocksState) (step : Step) (o : Outcome) (v : LocksState) : Type 0 where
  -- threads and locks stay as many, and locks of their kinds
  pub same : (v.threads ≡ w.threads) × (v.size ≡ w.size) × ((l : ℕ) → v.kinds l ≡ w.kinds l)
  -- a turn of any sort is refused exactly where it isn't possible, and then nothing changes
  pub goes : (o ≡ NotNow) ↔ (IsPossible w step.thread step.turn → ⊥)
  pub refused : o ≡ NotNow → v ≡ w
  -- a thread is told that it sleeps, or runs its closure, exactly where it does
  pub sleeps : o ≢ NotNow → (o ≡ Sleep) ↔ ((v.stances step.thread).asleep ≡ true)
  pub runs : o ≢ NotNow → is_closure o ≡ (v.stances step.thread).in_closure
  -- an answer is true of the state in which it is given
  pub answer : (a : Answer) → o ≡ End a
      → (now : CallState) × Recalls w step.thread now × RecallsTruly w v step.thread now
      × Tells w v step.thread now × IsTrue now.purpose a v step.thread now
  -- a try to lock a mutex, or to write, ends as its thread goes on
  pub tries : TriesEnd w step o
  -- a call begins, and its time is up, by these turns alone; it is forgotten as it ends, and else goes on
  pub begins : (begun : Call) → step.turn ≡ Begin begun → o ≢ NotNow
      → v.calls step.thread
      ≡ new_call (Some (goal_of (λ l. is_fair (w.kinds l)) begun)) (rights_in w step.thread)
  pub is_late : step.turn ≡ Late → o ≢ NotNow
      → v.calls step.thread ≡ record (w.calls step.thread) { late = true }
  pub ends : (a : Answer) → o ≡ End a → v.calls step.thread ≡ no_call
  pub goes_on : (u : ℕ) → (u ≡ step.thread → IsUnderWay step o) → CallGoesOn (w.calls u) (v.calls u)
  pub recalled : (u : ℕ) → RecallsTruly w v u (v.calls u)
  pub told : IsUnderWay step o → Tells w v step.thread (v.calls step.thread)
  -- a thread's rights to a lock change by its own step, in its call of the lock, or are handed over by a
  -- thread that has it in hand
  pub rights : (u l : ℕ) → (rights_in v u l ≡ rights_in w u l)
      ⊎ (((u ≡ step.thread) × MayChange (w.calls u).purpose l)
      ⊎ ((is_taken_by step.thread ((w.locks l).taken u) ≡ true) × MayWait (w.calls u).purpose l))
  -- a pending right goes only as its thread owns, or has given up
  pub pends : (l : ℕ) → PendsOn w l (v.locks l)
  -- no reader begins to share a lock on which a writer is pending, unless it is a recursive one
  pub readers : ReadersStayOut w v
  -- a run of a `Once` begins where that is new, or poisoned and the call forced; its closure is told which
  pub starts : (state : OnceState) → o ≡ Closure state → (l : ℕ) × (forced : Bool)
      × ((w.calls step.thread).purpose ≡ Some (CallsOnce l forced))
      × ((((w.locks l).phase ≡ New) × (state ≡ once_state.New))
      ⊎ (((w.locks l).phase ≡ Poisoned) × (forced ≡ true) × (state ≡ once_state.Poisoned)))
  -- a `Once` changes only by the runs of the step's thread: one that succeeds leaves it done, one that fails
  -- poisoned
  pub phase : (l : ℕ) → PhaseChanges (w.locks l).phase (v.locks l).phase step.thread o
  pub closes : (l : ℕ) → (w.locks l).phase ≡ InProgress step.thread → o ≢ NotNow
      → (step.turn ≡ Ok → (v.locks l).phase ≡ Done) × (step.turn ≡ Err → (v.locks l).phase ≡ Poisoned)
  -- no wait wakes by itself: another thread notifies it
  pub notified : NobodyWakesByItself w v
  -- a section is entered and left by the step's thread, and is entered where nobody is inside
  pub sections : (key : ℕ) → SectionChanges (w.inside key) step.thread (v.inside key)
  -- another thread stands as it did, but for a sleeper that this one wakes
  pub others : (u : ℕ) → u ≢ step.thread → (v.stances u ≡ w.stances u)
      ⊎ (((w.stances u).asleep ≡ true) × MayWake w step.thread u)
  -- a thread joins a queue in a call that may wait there, which the lock keeps out, or as it is moved
  pub joins : (u l : ℕ) → times u (w.locks l).queue ≡ 0 → 1 ≤ times u (v.locks l).queue
      → Joins w step.thread u l (v.locks l)
  -- waiters that stay in a queue keep their order, and threads that join stand last
  pub order : QueuesKeepOrder w v
  -- waiters that a notification moves to a mutex keep their order
  pub in_order : (c l : ℕ) (all : Bool) → (w.calls step.thread).purpose ≡ Some (Notifies c all)
      → (rules_at w l).sort ≡ Mutex → MovesInOrder w c l (v.locks l)
  -- a thread leaves a queue as its time is up, as it comes into a hand, or as a notification moves it
  pub leaves : (u l : ℕ) → 1 ≤ times u (w.locks l).queue → times u (v.locks l).queue ≡ 0
      → ((u ≡ step.thread) × ((w.calls u).late ≡ true))
      ⊎ (((v.locks l).taken u ≢ None) ⊎ IsNotified (v.calls u).recalls)
  -- A mutex and a semaphore are given in turn: a thread that comes into a hand was the first of the queue, or
  -- of those that wait with the mutex to be notified.
  pub first : (u l : ℕ) → TakesOneAtATime (rules_at w l).sort → (v.locks l).taken u ≢ None
      → ((w.locks l).taken u ≢ None) ⊎ ((first_thread (w.locks l).queue ≡ Some u)
      ⊎ ((c : ℕ) × (timed : Bool) × ((w.calls u).purpose ≡ Some (Waits c l timed))
      × (first_thread (w.locks c).queue ≡ Some u)))
