use Rattle.std.proofs.Common.{◌≡◌}
use Rattle.lot_program.specs.Programs.{alternatives_of, any_holds}
use Rattle.lot_program.proofs.program.Condition.holds.Given as goal

abbrev pub invariant-loop-number : goal.invariant-loop-number
invariant-loop-number l = l.any ≡ any_holds l.variables (alternatives_of l.self) l.number
