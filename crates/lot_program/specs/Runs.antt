-- A run of a program as a run of the world: the steps that its moves take.
use Rattle.std.specs.Prelude.{ℕ, zero, suc, Bool, true, false, Option, Some, None, if◌then◌else◌, ◌/◌, ◌%◌, List, [], ◌∷◌}
use Rattle.spec_locks.specs.declared.calls.Turn.TheVariants as turn
use Rattle.spec_locks.specs.declared.calls.Step.{Step}
use Rattle.lot_program.specs.declared.program.Instruction.{Instruction}
use Rattle.lot_program.specs.declared.program.Instruction.TheVariants as instruction
use Rattle.lot_program.specs.declared.program.Program.{Program}
use Rattle.lot_machine.specs.Machine.{State, after, place_at, step_outcome}
use Rattle.lot_program.specs.declared.grains.Grain.{Grain}
use Rattle.lot_program.specs.Programs.{instruction_at}
use Rattle.lot_program.specs.Grains.{goes_straight}
use Rattle.lot_program.specs.States.{ProgramState, step_of, closing, is_own, is_barred, local_at}
use Rattle.lot_program.specs.States.{turn_ends}

-- an instruction that calls takes a step of the world, and any other takes none
abbrev pub step_by : Instruction → ℕ → Option Step
step_by (instruction.Call c) t = Some (step_of t (turn.Begin c))
step_by (instruction.Close succeeded) t = Some (step_of t (closing succeeded))
step_by (instruction.Set v x) t = None
step_by (instruction.Add v n) t = None
step_by (instruction.Jump n) t = None
step_by (instruction.JumpUnless test n) t = None
step_by (instruction.JumpUnlessTold x n) t = None
step_by (instruction.JumpUnlessRunning n) t = None
step_by (instruction.Either n) t = None
step_by (instruction.Assert test) t = None

-- the steps in which a thread goes on alone till its turn ends
unfoldable pub go_steps : Grain → ℕ → ℕ → State → List Step
go_steps g zero t w = []
go_steps g (suc n) t w =
    if turn_ends g w t then [] else step_of t turn.Go ∷ go_steps g n t (after w (step_of t turn.Go))

-- moves in which a thread goes alone till its turn ends, perhaps after one more
abbrev pub again_steps : Bool → Grain → ℕ → State → List Step
again_steps true g t w = step_of t turn.Go ∷ go_steps g 64 t (after w (step_of t turn.Go))
again_steps false g t w = go_steps g 64 t w

-- after a first step, those that its turn takes along with it, and then alone till its turn ends
abbrev pub more_steps : Bool → Grain → ℕ → State → List Step
more_steps true g t w = step_of t turn.Go ∷ again_steps
    (goes_straight g (place_at w t) turn.Go (place_at (after w (step_of t turn.Go)) t)) g t
    (after w (step_of t turn.Go))
more_steps false g t w = go_steps g 64 t w

-- after its first step a turn goes on, if that step was possible
abbrev pub turn_steps : Grain → State → Step → List Step
turn_steps g w step = step ∷ (if is_barred (step_outcome w step) then []
    else more_steps (goes_straight g (place_at w step.thread) step.turn (place_at (after w step) step.thread))
    g step.thread (after w step))

abbrev pub steps_by : Grain → State → Option Step → List Step
steps_by g w None = []
steps_by g w (Some step) = turn_steps g w step

abbrev pub own_step : Option Instruction → ℕ → Option Step
own_step None t = None
own_step (Some i) t = step_by i t

abbrev pub thread_step : Program → ProgramState → ℕ → ℕ → Option Step
thread_step p s t zero =
    if is_own s.world t then own_step (instruction_at p t (local_at s t).at) t
    else Some (step_of t turn.Go)
thread_step p s t (suc zero) = if is_own s.world t then None else Some (step_of t turn.Spin)
thread_step p s t (suc (suc n)) = Some (step_of t turn.Late)

-- the first step of a move
abbrev pub step_taken : Program → ProgramState → ℕ → Option Step
step_taken p s k = thread_step p s (k / 3) (k % 3)

-- all its steps
abbrev pub steps_taken : Program → ProgramState → ℕ → List Step
steps_taken p s k = steps_by p.grain s.world (step_taken p s k)
