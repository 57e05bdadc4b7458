-- The answers of calls.
use Rattle.std.specs.Prelude.{◌≡◌, ◌⊎◌, ℕ, Bool, true, false, Option, Some, None, Ok, Err, IfOk, IfSome}
use Rattle.std.specs.Prelude.{MatchResult}
use Rattle.std.specs.declared.result.Result.{Result}
use Rattle.core_base.specs.declared.faults.Fault.{Fault}
use Rattle.core_base.specs.declared.faults.Fault.TheVariants as faults
use Rattle.spec_locks.specs.declared.outcomes.Answer.{Answer}
use Rattle.spec_locks.specs.declared.outcomes.Answer.TheVariants as answers

-- a call that may end without the lock answers yes with it
abbrev pub answer_by : {A : Type 0} → Option A → Answer
answer_by None = answers.No
answer_by (Some _) = answers.Yes

-- a call that waits for ever comes in, or finds the lock full of readers
abbrev pub reading_answer : {A E : Type 0} → Result A E → Answer
reading_answer (Ok _) = answers.Ok
reading_answer (Err _) = answers.ReadersFull

-- any other may end without the lock too
abbrev pub counted_answer : {A E : Type 0} → Result (Option A) E → Answer
counted_answer (Ok entered) = answer_by entered
counted_answer (Err _) = answers.ReadersFull

-- an upgrade that gives up keeps its guard
abbrev pub upgrade_answer : {A B : Type 0} → Result A B → Answer
upgrade_answer (Ok _) = answers.Yes
upgrade_answer (Err _) = answers.No

-- a new lock is refused for want of memory, before its thread did anything, or where its thread
-- found the lot full
abbrev pub IsRefusal : {Token : Type 0} → (Token → Token → Type 0) → Token → Token → Fault → Type 0
IsRefusal found_full old new fault =
    ((fault ≡ faults.NoMemory) × (new ≡ old)) ⊎ ((fault ≡ faults.LotFull) × found_full old new)

-- the lock is full of readers
abbrev pub IsReadersFull : Fault → Type 0
IsReadersFull fault = fault ≡ faults.ReadersFull

-- a call that may end without the lock has such a guard where it came in, or found the lock full of readers
abbrev pub TriesOrFull : {A : Type 0} → Result (Option A) Fault → (A → Type 0) → Type 0
TriesOrFull result holds = MatchResult result (λ entered. IfSome entered holds) IsReadersFull

-- a wait without a limit ends with its guard, or is refused because of another mutex
abbrev pub waiting_answer : {A E : Type 0} → Result A E → Answer
waiting_answer (Ok _) = answers.Ok
waiting_answer (Err _) = answers.TwoMutexes

-- with one it tells besides whether its time was up
abbrev pub late_answer : Bool → Answer
late_answer true = answers.TimedOut
late_answer false = answers.Notified

abbrev pub timed_answer : {A E : Type 0} → Result (A × Bool) E → Answer
timed_answer (Ok ended) = late_answer ended.1
timed_answer (Err _) = answers.TwoMutexes

-- whether a notification found somebody
abbrev pub notifying_answer : Bool → Answer
notifying_answer true = answers.Yes
notifying_answer false = answers.No

-- The number of waiters that a notification of one moved.
abbrev pub moved_first : Bool → ℕ
moved_first true = 1
moved_first false = 0

-- a guard is given back, also by a thread that was refused
abbrev pub IsRefusedWith : {A : Type 0} → (A → Type 0) → Fault × A → Type 0
IsRefusedWith holds refused = (refused.0 ≡ faults.TwoMutexes) × holds refused.1

abbrev pub GivesBack : {A : Type 0} → Result A (Fault × A) → (A → Type 0) → Type 0
GivesBack result holds = MatchResult result holds (IsRefusedWith holds)

abbrev pub GivesBackTimed : {A B : Type 0} → Result (A × B) (Fault × A) → (A → Type 0) → Type 0
GivesBackTimed result holds = MatchResult result (λ ended. holds ended.0) (IsRefusedWith holds)

-- a call that tells that its time was up says so of its clock
abbrev pub LateByClock : {A E : Type 0} → Result (A × Bool) E → Type 0 → Type 0
LateByClock result passed = IfOk result (λ ended. ended.1 ≡ true → passed)
