-- One run of the world, and states and steps that no world comes to.
use Rattle.std.specs.Prelude.{ℕ, true, false, Some, None, ◌≡◌, List, [], ◌∷◌}
use Rattle.core_base.specs.declared.wants.Want.TheVariants.{Exclusive}
use Rattle.core_base.specs.Lines.{waiter}
use Rattle.spec_locks.specs.declared.kinds.Kind.TheVariants as kind
use Rattle.spec_locks.specs.declared.calls.Call.TheVariants as call
use Rattle.spec_locks.specs.declared.calls.MutexCall.{MutexCall}
use Rattle.spec_locks.specs.declared.calls.MutexCall.TheVariants.{Lock, UnlockFair}
use Rattle.spec_locks.specs.declared.calls.Turn.{Turn}
use Rattle.spec_locks.specs.declared.calls.Turn.TheVariants.{Begin, Go}
use Rattle.spec_locks.specs.declared.calls.Step.{Step}
use Rattle.spec_locks.specs.declared.outcomes.Answer.TheVariants as answer
use Rattle.spec_locks.specs.declared.outcomes.Outcome.{Outcome}
use Rattle.spec_locks.specs.declared.outcomes.Outcome.TheVariants as told
use Rattle.steps_mutex.specs.declared.places.MutexPlace.TheVariants as at
use Rattle.steps_mutex.specs.declared.lock.Entry.TheVariants as entry
use Rattle.steps_mutex.specs.declared.lock.LockAt.TheVariants.{Asleep, Taken}
use Rattle.steps_mutex.specs.declared.hand_off.HandOffAt.TheVariants.{Store}
use Rattle.lot_steps.specs.declared.places.Place.TheVariants.{Idle, Mutex}
use Rattle.lot_machine.specs.Machine.{State, opening, unlocked, nobody, after_steps, word_at}
use Rattle.lot_laws.specs.Refinement.{lock_state, locks_of}
use Rattle.lot_laws.specs.Fair.{IsFair}
use Rattle.lot_laws.specs.Promises.{IsKept}
use Rattle.spec_locks.specs.Runs.{IsRun}

abbrev step_of_turn : ℕ → Turn → Step
step_of_turn t x = record { thread = t; turn = x }

-- a thread begins a call of the mutex
abbrev call_turn : ℕ → MutexCall → Step
call_turn t c = step_of_turn t (Begin (call.Mutex 0 c))

-- The turn by which a thread goes on.
abbrev go_turn : ℕ → Step
go_turn t = step_of_turn t Go

-- three threads and a mutex
abbrev pub three : State
three = opening (kind.Mutex ∷ []) 3

-- Thread 0 locks it. Threads 1 and 2 wait for it in this order. Thread 0 unlocks it fairly.
abbrev pub row : List Step
row = call_turn 0 Lock ∷ go_turn 0
    ∷ call_turn 1 Lock ∷ go_turn 1 ∷ go_turn 1 ∷ go_turn 1 ∷ go_turn 1 ∷ go_turn 1 ∷ go_turn 1
    ∷ call_turn 2 Lock ∷ go_turn 2 ∷ go_turn 2 ∷ go_turn 2 ∷ go_turn 2 ∷ go_turn 2
    ∷ call_turn 0 UnlockFair ∷ go_turn 0 ∷ go_turn 0 ∷ go_turn 0 ∷ go_turn 0 ∷ go_turn 0 ∷ []

-- the outcome of each step
abbrev pub row_told : List Outcome
row_told = told.Step ∷ told.End answer.Ok
    ∷ told.Step ∷ told.Step ∷ told.Step ∷ told.Step ∷ told.Step ∷ told.Step ∷ told.Sleep
    ∷ told.Step ∷ told.Step ∷ told.Step ∷ told.Step ∷ told.Step ∷ told.Sleep
    ∷ told.Step ∷ told.Step ∷ told.Step ∷ told.Step ∷ told.Step ∷ told.End answer.Ok ∷ []

-- the run is one of the abstract locks, and in the end thread 1 owns the mutex and thread 2 waits
pub record FairUnlockHandsOver : Type 0 where
  pub run : IsRun (locks_of three) row row_told (locks_of (after_steps three row))
  pub owner : (lock_state (after_steps three row) 0).exclusive ≡ Some 1
  pub queue : (lock_state (after_steps three row) 0).queue
      ≡ record { thread = 2; want = Exclusive } ∷ []
  pub word : word_at (after_steps three row) 0 ≡ 3

-- thread 1 waits for a mutex that nobody owns, and nobody is in another call
abbrev pub forgotten : State
forgotten = record {
  places = Idle ∷ Mutex 0 (at.Lock entry.Lock false Asleep) ∷ [];
  locks = unlocked kind.Mutex ∷ [];
  shares = (0 ∷ 0 ∷ []) ∷ [];
  sections = None ∷ None ∷ [];
  queues = (waiter 0 1 Exclusive ∷ []) ∷ [] ∷ [];
}

-- no world comes to that
abbrev pub NoWaiterIsForgotten : Type 0
NoWaiterIsForgotten = IsKept forgotten → ⊥

-- thread 0 unlocks a mutex fairly, and has taken thread 1
abbrev pub handing_over : State
handing_over = record {
  places = Mutex 0 (at.HandOff false (Store true true))
      ∷ Mutex 0 (at.Lock entry.Lock false (Taken 0)) ∷ [];
  locks = (record {
    kind = kind.Mutex;
    word = 3;
    owners = record nobody { exclusive = Some 0 };
    filled = false;
  }) ∷ [];
  shares = (0 ∷ 0 ∷ []) ∷ [];
  sections = Some 0 ∷ None ∷ [];
  queues = [] ∷ [] ∷ [];
}

-- no fair step leads from there to where nobody owns the mutex
abbrev pub NobodyIsPassedOver : Type 0
NobodyIsPassedOver = (v : State) → (lock_state v 0).exclusive ≡ None → IsFair handing_over v → ⊥
