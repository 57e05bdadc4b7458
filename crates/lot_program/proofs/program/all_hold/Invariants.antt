use Rattle.std.proofs.Common.{◌≡◌}
use Rattle.lot_program.specs.Programs.{all_hold}
use Rattle.lot_program.proofs.program.all_hold.Given as goal

abbrev pub invariant-loop-number : goal.invariant-loop-number
invariant-loop-number l = l.all ≡ all_hold l.variables l.tests l.number
