use Rattle.lot_world.proofs.Sleepers.{sleepers_rest}
use Rattle.lot_world.proofs.waiting_laws.sleepers_rest.Goals as goal

pub returns : goal.returns
returns c = sleepers_rest
