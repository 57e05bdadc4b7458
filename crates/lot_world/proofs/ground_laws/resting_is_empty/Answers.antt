use Rattle.lot_world.proofs.Drained.{resting_is_empty}
use Rattle.lot_world.proofs.ground_laws.resting_is_empty.Goals as goal

pub returns : goal.returns
returns c = resting_is_empty
