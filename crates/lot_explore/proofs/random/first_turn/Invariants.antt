use Rattle.std.proofs.Common.{◌≡◌}
use Rattle.lot_explore.proofs.random.first_turn.Given as goal

abbrev pub invariant-loop-by : goal.invariant-loop-by
invariant-loop-by g l = l.walk.program ≡ l.fn.walk.program
