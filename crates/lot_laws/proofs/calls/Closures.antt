-- A thread that may end its closure runs one, and is told so.
use Rattle.lot_laws.proofs.Imports
use Imports.{ℕ, Bool, true, ◌≡◌, refl, is_closure, outcome_of, Act, act_of, State, place_at, runs_closure}
use Imports.{can_close, can_do, closed_place, both}
use Rattle.steps_base.specs.declared.acts.Act.TheVariants as act
pub use Rattle.lot_machine.proofs.Closures.{RunsOne, runs_one, call_runs_none, course_runs_none}
pub use Rattle.lot_machine.proofs.Closures.{mutex_runs_none, condvar_runs_none, semaphore_runs_none}

-- a thread that may end its closure runs one
pub closes_one : (w : State) (t : ℕ) (succeeded : Bool) → can_close w t succeeded ≡ true
    → RunsOne (place_at w t)
closes_one w t succeeded can = runs_one (place_at w t) (both (runs_closure (act_of (place_at w t)))
    (can_do w (act_of (closed_place w t succeeded))) can).0

-- A thread is told of a closure exactly where its act runs one.
pub closure_told : (y : Act) → is_closure (outcome_of y) ≡ runs_closure y
closure_told (act.Closure state) = refl
closure_told act.Sleep = refl
closure_told (act.End answer) = refl
closure_told y = refl
