-- A run of the world: it leads by its steps from one state to another, and of each step all holds
-- that is promised of steps.
use Rattle.std.specs.Prelude.{ℕ, Bool, true, false, ◌==◌, ◌≡◌, ◌≢◌, ◌⊎◌, ◌++◌, Some, List, [], ◌∷◌, is_none}
use Rattle.std.specs.Prelude.{take}
use Rattle.spec_locks.specs.declared.calls.Access.TheVariants.{Exclusive}
use Rattle.spec_locks.specs.declared.calls.Call.TheVariants as call
use Rattle.spec_locks.specs.declared.calls.MutexCall.TheVariants as mutex_call
use Rattle.spec_locks.specs.declared.calls.Patience.TheVariants.{Try}
use Rattle.spec_locks.specs.declared.calls.RwLockCall.TheVariants as rwlock_call
use Rattle.spec_locks.specs.declared.calls.Turn.{Turn}
use Rattle.spec_locks.specs.declared.calls.Turn.TheVariants as turn
use Rattle.spec_locks.specs.declared.calls.Step.{Step}
use Rattle.spec_locks.specs.declared.outcomes.Answer.TheVariants as answer
use Rattle.spec_locks.specs.declared.outcomes.Outcome.{Outcome}
use Rattle.spec_locks.specs.declared.outcomes.Outcome.TheVariants as outcome
use Rattle.spec_locks.specs.Runs.{IsStep, LocksState}
use Rattle.spec_locks.specs.Headline.{full_by}
use Rattle.core_base.specs.declared.ops.Op.TheVariants.{Exchange}
use Rattle.steps_base.specs.declared.acts.Act.TheVariants.{Sleep, Word}
use Rattle.lot_steps.specs.Steps.{act_of, first_place, taker}
use Rattle.lot_machine.specs.Machine.{State, after_steps, place_at, kind_at, word_at, queue_at, filled_at}
use Rattle.lot_laws.specs.Refinement.{locks_of, lock_state, ChangesOneThing}
use Rattle.lot_laws.specs.Fair.{IsFair}
use Rattle.lot_laws.specs.Owing.{OwesSince}
use Rattle.lot_laws.specs.Promises.{IsKept}

-- words and queues are as they were
abbrev pub KeepsWordsAndQueues : State → State → Type 0
KeepsWordsAndQueues w v = ((l : ℕ) → word_at v l ≡ word_at w l)
    × ((key : ℕ) → queue_at v key ≡ queue_at w key)

-- a thread that begins a call, looks at a word once more or is late changes no word and no queue
abbrev pub TouchesOnlyByGoing : State → Turn → State → Type 0
TouchesOnlyByGoing w (turn.Begin c) v = KeepsWordsAndQueues w v
TouchesOnlyByGoing w turn.Spin v = KeepsWordsAndQueues w v
TouchesOnlyByGoing w turn.Late v = KeepsWordsAndQueues w v
TouchesOnlyByGoing w x v = Unit {0}

-- another thread that sleeps does so on, unless this one has it in hand
abbrev pub SleepersStay : State → ℕ → State → Type 0
SleepersStay w t v =
    (u : ℕ) → u ≢ t → act_of (place_at w u) ≡ Sleep
    → (taker (place_at w u) ≡ Some t) ⊎ (act_of (place_at v u) ≡ Sleep)

-- the answer of a try
abbrev pub tried : Bool → Outcome
tried true = outcome.End answer.Yes
tried false = outcome.End answer.No

-- a try to lock a mutex, or to write, ends as its thread goes on from its first place, also while
-- others are inside sections: with the mutex exactly where nobody owns it, and as the writer of a
-- lock that is shared exactly where the word is 0
pub record TriesAtOnce (w : State) (t : ℕ) (o : Outcome) : Type 0 where
  pub locks : (l : ℕ)
      → place_at w t ≡ first_place (kind_at w l) (call.Mutex l mutex_call.TryLock)
      → o ≡ tried (is_none (lock_state w l).exclusive)
  pub writes : (l : ℕ)
      → place_at w t
      ≡ first_place (kind_at w l) (call.RwLock l (rwlock_call.Enter Exclusive Try))
      → o ≡ tried (word_at w l == 0)

-- after its own exchange, in place of which it might have looked at the word, a thread looks at that no more
abbrev pub LooksNoMore : State → ℕ → State → Type 0
LooksNoMore w t v = (l seen now : ℕ) → ((locks_of w).stances t).may_spin ≡ true
    → act_of (place_at w t) ≡ Word l (Exchange seen now) → word_at w l ≡ seen
    → ((locks_of v).stances t).may_spin ≡ false

-- a step of the world, from w to v
pub record IsWorldStep (w : State) (s : Step) (o : Outcome) (v : State) : Type 0 where
  -- the step is one of the abstract locks
  pub refines : IsStep (locks_of w) s o (locks_of v)
  -- the step changes one word at most, or queues inside whose sections its thread is
  pub one_thing : ChangesOneThing w s.thread v
  pub touches : TouchesOnlyByGoing w s.turn v
  -- a lock is filled where it was before, or where as many share it now as its limit allows
  pub filled : (l : ℕ) → filled_at v l ≡ full_by (filled_at w) (locks_of v) l
  pub sleepers : SleepersStay w s.thread v
  pub tries : s.turn ≡ turn.Go → TriesAtOnce w s.thread o
  pub looks_no_more : s.turn ≡ turn.Go → LooksNoMore w s.thread v
  -- the thread of the step begins and ends to owe a wake by what it sees and where it is
  pub owing : OwesSince w s.thread o v
  -- a fair release gives to those that it has taken in one step: of a mutex to the first waiter, of
  -- a lock that is shared to all of them, where the limit allows
  pub fair : IsFair w v
  -- words are coded, and nobody is forgotten
  pub kept : IsKept v

-- steps with their outcomes lead from one state to another
abbrev pub IsWorldRun : State → List Step → List Outcome → State → Type 0
IsWorldRun w [] [] v = v ≡ w
IsWorldRun w (s ∷ ss) (o ∷ os) v = (u : State) × IsWorldStep w s o u × IsWorldRun u ss os v
IsWorldRun w ss os v = ⊥

-- the abstract state of the world after so many of these steps
abbrev pub states_of : State → List Step → ℕ → LocksState
states_of w steps n = locks_of (after_steps w (take n steps))

-- the outcomes told stand after those that were there, and hold
abbrev pub Tells : List Outcome → List Outcome → (List Outcome → Type 0) → Type 0
Tells before now holds = (told : List Outcome) × (now ≡ before ++ told) × holds told
