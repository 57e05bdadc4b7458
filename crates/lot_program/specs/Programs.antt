-- Programs of lock calls: values, tests, and the instructions of a thread.
use Rattle.std.specs.Prelude.{ℕ, zero, suc, Bool, true, false, Option, Some, None, List, [], All, ◌≡◌, ◌≤◌, ◌&&◌, ◌||◌}
use Rattle.std.specs.Prelude.{◌==◌, not, nat_lt, nat_le, length, map, slice_index, slice_index_or}
use Rattle.std.specs.List.{slice_get}
use Rattle.spec_locks.specs.declared.outcomes.Answer.{Answer}
use Rattle.spec_locks.specs.declared.outcomes.Answer.TheVariants as answer
use Rattle.spec_locks.specs.Kinds.{fits}
use Rattle.lot_program.specs.declared.program.Value.{Value}
use Rattle.lot_program.specs.declared.program.Value.TheVariants.{Number, Variable}
use Rattle.lot_program.specs.declared.program.Comparison.{Comparison}
use Rattle.lot_program.specs.declared.program.Comparison.TheVariants.{Equal, Unequal, Less, AtMost, Greater}
use Rattle.lot_program.specs.declared.program.Comparison.TheVariants.{AtLeast}
use Rattle.lot_program.specs.declared.program.Test.{Test}
use Rattle.lot_program.specs.declared.program.Condition.{Condition}
use Rattle.lot_program.specs.declared.program.Told.{Told}
use Rattle.lot_program.specs.declared.program.Told.TheVariants as told
use Rattle.lot_program.specs.declared.program.Instruction.{Instruction}
use Rattle.lot_program.specs.declared.program.Instruction.TheVariants as instruction
use Rattle.lot_program.specs.declared.program.Program.{Program}

-- what an answer tells
abbrev pub told_by : Answer → Told
told_by answer.Ok = told.Ok
told_by answer.Yes = told.Yes
told_by answer.No = told.No
told_by answer.ReadersFull = told.ReadersFull
told_by answer.Notified = told.Notified
told_by answer.TimedOut = told.TimedOut
told_by answer.TwoMutexes = told.TwoMutexes
told_by answer.Poisoned = told.Poisoned
told_by answer.Failed = told.Failed
told_by (answer.Number n) = told.Number

abbrev pub told_number : Told → ℕ
told_number told.Nothing = 0
told_number told.Ok = 1
told_number told.Yes = 2
told_number told.No = 3
told_number told.ReadersFull = 4
told_number told.Notified = 5
told_number told.TimedOut = 6
told_number told.TwoMutexes = 7
told_number told.Poisoned = 8
told_number told.Failed = 9
told_number told.Number = 10

abbrev pub number_of : List ℕ → Value → ℕ
number_of variables (Number n) = n
number_of variables (Variable v) = slice_index variables v

abbrev pub compares : Comparison → ℕ → ℕ → Bool
compares Equal a b = a == b
compares Unequal a b = not (a == b)
compares Less a b = nat_lt a b
compares AtMost a b = nat_le a b
compares Greater a b = nat_lt b a
compares AtLeast a b = nat_le b a

abbrev pub holds : List ℕ → Test → Bool
holds variables test =
    compares test.comparison (slice_index variables test.variable) (number_of variables test.value)

abbrev pub holds_at : List ℕ → Option Test → Bool
holds_at variables None = true
holds_at variables (Some test) = holds variables test

-- the first so many tests hold
abbrev pub all_hold : List ℕ → List Test → ℕ → Bool
all_hold variables tests zero = true
all_hold variables tests (suc n) = holds_at variables (slice_get tests n) && all_hold variables tests n

abbrev pub all_hold_at : List ℕ → Option (List Test) → Bool
all_hold_at variables None = false
all_hold_at variables (Some tests) = all_hold variables tests (length tests)

-- all tests of one of the first so many alternatives hold
abbrev pub any_holds : List ℕ → List (List Test) → ℕ → Bool
any_holds variables alternatives zero = false
any_holds variables alternatives (suc n) =
    all_hold_at variables (slice_get alternatives n) || any_holds variables alternatives n

abbrev pub alternatives_of : Condition → List (List Test)
alternatives_of condition = map (λ tests. tests.items) condition.alternatives.items

-- all tests of some alternative hold
abbrev pub is_met : List ℕ → Condition → Bool
is_met variables condition = any_holds variables (alternatives_of condition) (length (alternatives_of condition))

abbrev pub threads_of : Program → ℕ
threads_of p = length p.code.items

abbrev pub code_of : Program → ℕ → List Instruction
code_of p t = slice_index_or (map (λ code. code.items) p.code.items) t []

-- the instruction of a thread with this number, if it is there
abbrev pub instruction_at : Program → ℕ → ℕ → Option Instruction
instruction_at p t i = slice_get (code_of p t) i

-- where the second branch of an instruction begins, if it has one
abbrev pub branch_of : Instruction → Option ℕ
branch_of (instruction.Call c) = None
branch_of (instruction.Close succeeded) = None
branch_of (instruction.Set v x) = None
branch_of (instruction.Add v n) = None
branch_of (instruction.Jump n) = None
branch_of (instruction.JumpUnless test n) = None
branch_of (instruction.JumpUnlessTold x n) = None
branch_of (instruction.JumpUnlessRunning n) = None
branch_of (instruction.Either n) = Some n
branch_of (instruction.Assert test) = None

abbrev pub branch_in : Option Instruction → Option ℕ
branch_in None = None
branch_in (Some i) = branch_of i

abbrev pub branch_at : Program → ℕ → ℕ → Option ℕ
branch_at p t i = branch_in (instruction_at p t i)

-- the line of an instruction of a thread, if it has one
abbrev pub line_at : Program → ℕ → ℕ → Option ℕ
line_at p t i = slice_get (slice_index_or (map (λ lines. lines.items) p.lines.items) t []) i

-- there are some threads, few enough for a search, and locks that a world may have
pub record IsFit (p : Program) : Type 0 where
  pub some : 1 ≤ threads_of p
  pub few : threads_of p ≤ 8
  pub few_locks : length p.kinds.items ≤ 256
  pub few_variables : length p.variables.items ≤ 4096
  pub kinds : All (λ kind. fits kind (threads_of p) ≡ true) p.kinds.items
