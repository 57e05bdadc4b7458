use Rattle.lot_rests.proofs.Rounds.{HasGone}
use Rattle.lot_rests.proofs.Turns.{steps_left}
use Rattle.lot_world.proofs.world.World.settle.Given as goal

abbrev pub invariant-rounds : goal.invariant-rounds
invariant-rounds g l = HasGone l.fn.self l.self

abbrev pub decreases-rounds : goal.decreases-rounds
decreases-rounds g l = steps_left l.self
