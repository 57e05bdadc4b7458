use Rattle.std.proofs.Common.{◌≡◌}
use Rattle.lot_explore.proofs.random.goes_wrong_by_draws.Given as goal

abbrev pub invariant-loop-turn : goal.invariant-loop-turn
invariant-loop-turn g l = l.walk.program ≡ l.fn.walk.program
