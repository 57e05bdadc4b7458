use Rattle.std.proofs.Common.{◌≡◌}
use Rattle.lot_explore.proofs.random.draw_turn.Given as goal

abbrev pub invariant-loop-draw : goal.invariant-loop-draw
invariant-loop-draw g l = l.walk.program ≡ l.fn.walk.program
