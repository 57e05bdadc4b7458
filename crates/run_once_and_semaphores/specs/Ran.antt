-- The calls of a `Once` that have run a closure, or waited for a run.
use Rattle.std.specs.Prelude.{ℕ, ◌≡◌, ◌≢◌, ◌⊎◌, ◌++◌, Bool, true, false, None, Ok, Err, if◌then◌else◌}
use Rattle.std.specs.declared.result.Result.{Result}
use Rattle.spec_locks.specs.Codes.{is_done, is_poisoned, is_running}
use Rattle.core_base.specs.declared.faults.Fault.{Fault}
use Rattle.core_base.specs.declared.faults.Fault.TheVariants as faults
use Rattle.core_base.specs.declared.ops.Op.TheVariants.{Exchange, Load}
use Rattle.spec_locks.specs.declared.calls.OnceCall.{OnceCall}
use Rattle.spec_locks.specs.declared.calls.OnceCall.TheVariants.{CallOnce, Wait}
use Rattle.spec_locks.specs.declared.outcomes.Answer.{Answer}
use Rattle.spec_locks.specs.declared.outcomes.Answer.TheVariants as answers
use Rattle.spec_locks.specs.declared.outcomes.OnceState.{OnceState}
use Rattle.spec_locks.specs.declared.outcomes.OnceState.TheVariants as states
use Rattle.steps_once.specs.OnceSteps.{state_before}
use Rattle.core_words.specs.declared.words.Word.{Word}
use Rattle.core_words.specs.declared.words.WordKind.TheVariants as kinds
use Rattle.parking_lot_core.specs.Tokens.{last_of}
use Rattle.parking_lot_core.specs.declared.lot.ParkingLot.{ParkingLot}
use Rattle.parking_lot_core.specs.declared.tokens.Token.{Token}
use Rattle.run_base.specs.Drawing.{Drew}
use Rattle.run_base.specs.OnceFitting.{KnowsIt, OwnsKnowing}
use Rattle.run_base.specs.Courses.{Courses, Trail, trail_of}
use Rattle.run_base.specs.Paths.{at_once, once_at, step}
use Rattle.run_base.specs.Telling.{owns_of, steps_of}
use Rattle.run_once_and_semaphores.specs.OnceCalls.{EndedAndWoke, StepsLeadTo, EndsRun, in_closure, once_begin}
use Rattle.run_once_and_semaphores.specs.declared.once.OnceFault.{OnceFault}
use Rattle.run_once_and_semaphores.specs.declared.once.OnceFault.TheVariants.{Refused, Failed}

-- two tokens are of one thread, which owns what it did; beside that it may know that the `Once` is done
abbrev pub StaysKnowing : ℕ → Token → Token → Type 0
StaysKnowing n old new = (new.number ≡ old.number) × OwnsKnowing n (owns_of old) (owns_of new)

-- a thread knows that the `Once` is done
abbrev pub SawDone : ℕ → Token → Token → Type 0
SawDone n old new = KnowsIt n (owns_of old) (owns_of new)

-- the value of a cell was there, and its thread took no step, or knows that its `Once` is done
abbrev pub FoundOrMade : ℕ → Token → Token → Type 0
FoundOrMade n old new = (new ≡ old) ⊎ SawDone n old new

-- the one step of a thread, which begins a run, saw that somebody had stepped on the word before
abbrev pub MissedStart : ℕ → Token → Token → Type 0
MissedStart n old new = (seen : ℕ) × (seen ≢ 0)
    × (steps_of new ≡ steps_of old ++ step (once_at n) (Exchange 0 4) seen)

-- a word was drawn, and the one step on it saw that
abbrev pub DrewUsed : ParkingLot → Token → Token → Type 0
DrewUsed lot old new = (word : Word) × (mid : Token) × Drew kinds.Once lot word old mid
    × MissedStart word.number mid new

-- how far it has come, by its word
abbrev pub state_of : ℕ → OnceState
state_of v = if is_done v then states.Done
    else if is_running v then states.InProgress
    else if is_poisoned v then states.Poisoned
    else states.New

-- the word was loaded once, and said this
abbrev pub Loaded : ℕ → ℕ → Token → Token → Type 0
Loaded n seen old new = steps_of new ≡ steps_of old ++ step (once_at n) Load seen

-- a call ran nothing, and its course leads to its answer
abbrev pub RanNothing : ℕ → OnceCall → Answer → Token → Token → Type 0
RanNothing n c answer old new = Courses (at_once n) old.number (once_begin n c)
    (trail_of old None) (trail_of new None) answer

-- a call ran its closure, which was told this state: its steps lead there, and from there to its
-- end, and each thread that waited then was woken
abbrev pub HasRun : ℕ → Bool → Bool → OnceState → Token → Token → Type 0
HasRun n forced succeeded state old new =
    (poisoned : Bool) × (mid : Trail) × (state ≡ state_before poisoned)
    × StepsLeadTo n old.number (once_begin n (CallOnce forced)) (trail_of old None) mid
    (in_closure n forced poisoned)
    × EndsRun n old.number forced succeeded mid (trail_of new None)
    × EndedAndWoke n succeeded mid.steps (steps_of new) (last_of new)

-- the answer of a call is true, by what its closure answers in a state: it is Ok where the call began no run
-- and saw the `Once` done, or where its own closure succeeded
abbrev pub CalledOnce : {E : Type 0} → ℕ → Bool → (OnceState → Result (Unit {0}) E → Type 0) → Token
    → Token → Result (Unit {0}) (OnceFault E) → Type 0
CalledOnce n forced ran old new (Ok done) = SawDone n old new
    × (RanNothing n (CallOnce forced) answers.Ok old new
    ⊎ ((state : OnceState) × ran state (Ok tt) × HasRun n forced true state old new))
CalledOnce n forced ran old new (Err (Refused fault)) = (forced ≡ false) × (fault ≡ faults.Poisoned)
    × RanNothing n (CallOnce forced) answers.Poisoned old new
CalledOnce n forced ran old new (Err (Failed error)) =
    (state : OnceState) × ran state (Err error) × HasRun n forced false state old new

-- the answer of a wait with a deadline
abbrev pub deadline_answer : Result Bool Fault → Answer
deadline_answer (Ok true) = answers.Yes
deadline_answer (Ok false) = answers.No
deadline_answer (Err fault) = answers.Poisoned

-- the value of a cell was there, or another thread's run made it
abbrev pub FoundAnothers : ℕ → Token → Token → Type 0
FoundAnothers n old new = (new ≡ old) ⊎ RanNothing n (CallOnce true) answers.Ok old new

-- What a wait for a `Once` answers.
abbrev pub Waited : ℕ → Token → Token → Result (Unit {0}) Fault → Type 0
Waited n old new (Ok done) = SawDone n old new × RanNothing n (Wait false) answers.Ok old new
Waited n old new (Err fault) =
    (fault ≡ faults.Poisoned) × RanNothing n (Wait false) answers.Poisoned old new
