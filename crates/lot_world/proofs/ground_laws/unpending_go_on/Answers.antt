use Rattle.lot_world.proofs.DrainPending.{unpending_go_on}
use Rattle.lot_world.proofs.ground_laws.unpending_go_on.Goals as goal

pub returns : goal.returns
returns c = unpending_go_on
