-- The printed forms.
use Rattle.std.specs.Prelude.{ℕ, List, ◌++◌, codes, decimal}
use Rattle.spec_locks.specs.declared.outcomes.Outcome.{Outcome}
use Rattle.spec_locks.specs.declared.outcomes.Outcome.TheVariants.{NotNow, Step, Sleep, Closure, End}
use Rattle.spec_locks.specs.declared.outcomes.Answer.{Answer}
use Rattle.spec_locks.specs.declared.outcomes.Answer.TheVariants as answer
use Rattle.spec_locks.specs.declared.outcomes.OnceState.{OnceState}
use Rattle.spec_locks.specs.declared.outcomes.OnceState.TheVariants as state

-- ---------------------------------------------------------------- outcomes

abbrev pub state_text : OnceState → List ℕ
state_text state.New = codes "New"
state_text state.Poisoned = codes "Poisoned"
state_text state.InProgress = codes "InProgress"
state_text state.Done = codes "Done"

abbrev pub answer_text : Answer → List ℕ
answer_text answer.Ok = codes "ok"
answer_text answer.Yes = codes "yes"
answer_text answer.No = codes "no"
answer_text answer.ReadersFull = codes "readers full"
answer_text answer.Notified = codes "notified"
answer_text answer.TimedOut = codes "timed out"
answer_text answer.TwoMutexes = codes "two mutexes"
answer_text answer.Poisoned = codes "poisoned"
answer_text answer.Failed = codes "failed"
answer_text (answer.Number n) = decimal n

abbrev pub outcome_text : Outcome → List ℕ
outcome_text NotNow = codes "not now"
outcome_text Step = codes "step"
outcome_text Sleep = codes "sleep"
outcome_text (Closure s) = codes "closure " ++ state_text s
outcome_text (End a) = codes "end " ++ answer_text a

-- the line that answers a thread's turn
abbrev pub turn_line : ℕ → Outcome → List ℕ
turn_line thread outcome = decimal thread ++ (codes " " ++ (outcome_text outcome ++ codes "\n"))

-- ---------------------------------------------------------------- messages

abbrev pub malformed_line : ℕ → List ℕ
malformed_line k = codes "line " ++ (decimal k ++ codes " malformed\n")

abbrev pub no_memory_line : ℕ → List ℕ
no_memory_line k = codes "line " ++ (decimal k ++ codes " no memory\n")
