-- Which worlds may be drained, and what a drain comes to: nobody is in a call or queued, and nobody
-- owns the lock.
use Rattle.std.specs.Prelude.{ℕ, false, ◌≡◌, ◌≢◌, ◌≤◌, ◌+◌, ◌*◌, List, [], ◌∷◌, length}
use Rattle.spec_locks.specs.declared.calls.Step.{Step}
use Rattle.spec_locks.specs.declared.outcomes.Outcome.TheVariants as outcome
use Rattle.spec_locks.specs.Locks.{rights_of}
use Rattle.spec_locks.specs.Runs.{no_rights}
use Rattle.lot_machine.specs.Machine.{State, after, after_steps, filled_at, step_outcome, word_at}
use Rattle.lot_laws.specs.Refinement.{call_at, lock_state}
pub use Rattle.lot_world.specs.Drained.{Drains}
pub use Rattle.lot_world.specs.Few.{HadNone, HasNoneBefore, InACall, IsFew, PendsInCall, number}
pub use Rattle.lot_world.specs.Quiet.{HasOneLock, IsAllOver}

-- One mutex or reader-writer lock, whose readers were never as many as its limit. Each thread has
-- one right at most, and none where its call is to get one.
pub record IsDrainable (w : State) : Type 0 where
  pub lock : HasOneLock w
  pub unfilled : filled_at w 0 ≡ false
  pub few : (t : ℕ) → IsFew (rights_of (lock_state w 0) t)
  pub none_before : (t : ℕ) → HasNoneBefore (call_at w t)
  -- The rest is so in every world that was reached: there is a thread, and each thread that owns is one,
  pub some : 1 ≤ length w.places
  pub past : (t : ℕ) → length w.places ≤ t → rights_of (lock_state w 0) t ≡ no_rights
  -- Only a thread that waits for a right is pending.
  pub unpending : (t : ℕ) → PendsInCall (call_at w t).purpose (rights_of (lock_state w 0) t)

-- nobody is in a call or queued, no owner is left, and the word is 0
pub record IsDrained (w : State) : Type 0 where
  pub over : IsAllOver w
  pub word : word_at w 0 ≡ 0

-- each of the steps is possible where the steps before it have led
abbrev pub AllPossible : State → List Step → Type 0
AllPossible w [] = Unit {0}
AllPossible w (s ∷ ss) = (step_outcome w s ≢ outcome.NotNow) × AllPossible (after w s) ss

-- few steps, each possible, after which the world is drained; none where it is so already
pub record IsDrain (w : State) (steps : List Step) : Type 0 where
  pub few : length steps ≤ 1000 * ((length w.places + 1) * (length w.places + 1))
  pub possible : AllPossible w steps
  pub ends : IsDrained (after_steps w steps)
  pub none : IsDrained w → steps ≡ []
