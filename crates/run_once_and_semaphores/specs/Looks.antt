-- A call of a `Once`, up to its closure.
use Rattle.std.specs.Prelude.{ℕ, ◌≡◌, Bool, true, false, None}
use Rattle.spec_locks.specs.declared.calls.OnceCall.{OnceCall}
use Rattle.spec_locks.specs.declared.calls.OnceCall.TheVariants.{CallOnce}
use Rattle.spec_locks.specs.declared.outcomes.Answer.{Answer}
use Rattle.spec_locks.specs.declared.outcomes.Answer.TheVariants as answers
use Rattle.spec_locks.specs.declared.outcomes.OnceState.{OnceState}
use Rattle.steps_once.specs.OnceSteps.{is_forced, is_timed, state_before, when_done}
use Rattle.parking_lot_core.specs.Tokens.{last_of}
use Rattle.parking_lot_core.specs.declared.tokens.Token.{Token}
use Rattle.run_base.specs.OnceFitting.{KnowsIt, OwnsRun}
use Rattle.run_base.specs.Stages.{TookNobodyAt}
use Rattle.run_base.specs.Courses.{trail_of}
use Rattle.run_base.specs.Telling.{owns_of}
use Rattle.run_once_and_semaphores.specs.OnceCalls.{StepsLeadTo, in_closure, once_begin}
use Rattle.run_once_and_semaphores.specs.Ran.{RanNothing, StaysKnowing}
use Rattle.run_once_and_semaphores.specs.declared.once.Came.{Came}
use Rattle.run_once_and_semaphores.specs.declared.once.Came.TheVariants.{Done, Poisoned, Late, Runs}

-- the end that a call came to, by its answer
abbrev pub came_by : Answer → Came
came_by answers.Ok = Done
came_by answers.Yes = Done
came_by answers.No = Late
came_by answer = Poisoned

-- the steps of a call lead to its closure, which is told this
abbrev pub Began : ℕ → OnceCall → OnceState → Token → Token → Type 0
Began n c state old new = (forced : Bool) × (poisoned : Bool) × (c ≡ CallOnce forced)
    × (state ≡ state_before poisoned)
    × StepsLeadTo n old.number (once_begin n c) (trail_of old None) (trail_of new None)
    (in_closure n forced poisoned)

-- by what the call came to: its end, or its closure, where it owns the run; `up` says that its time
-- is up
abbrev pub CameTo : Type 0 → ℕ → OnceCall → Token → Token → Came → Type 0
CameTo up n c old new Done =
    StaysKnowing n old new × RanNothing n c (when_done c) old new
    × KnowsIt n (owns_of old) (owns_of new)
CameTo up n c old new Poisoned =
    StaysKnowing n old new × RanNothing n c answers.Poisoned old new × (is_forced c ≡ false)
CameTo up n c old new Late =
    StaysKnowing n old new × RanNothing n c answers.No old new × (is_timed c ≡ true) × up
    × TookNobodyAt n (last_of new)
CameTo up n c old new (Runs state) =
    (new.number ≡ old.number) × OwnsRun n (owns_of old) (owns_of new) × Began n c state old new

-- the first step of a call found the `Once` done, and was all of the call
abbrev pub FoundDone : ℕ → Token → Token → Type 0
FoundDone n old new = StaysKnowing n old new × KnowsIt n (owns_of old) (owns_of new)
    × ((c : OnceCall) → RanNothing n c (when_done c) old new)
