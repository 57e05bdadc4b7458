-- The state that a `Once` shows of itself.
use Rattle.std.specs.Prelude.{Bool, true, false}
use Rattle.spec_locks.specs.declared.outcomes.OnceState.{OnceState}
use Rattle.spec_locks.specs.declared.outcomes.OnceState.TheVariants as states

-- a run has succeeded
abbrev pub is_completed : OnceState → Bool
is_completed states.Done = true
is_completed state = false

-- the last run failed, and none goes on
abbrev pub is_poisoned : OnceState → Bool
is_poisoned states.Poisoned = true
is_poisoned state = false
