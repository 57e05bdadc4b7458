use Rattle.lot_world.proofs.Sleepers.{sleepers_own_nothing}
use Rattle.lot_world.proofs.waiting_laws.sleepers_own_nothing.Goals as goal

pub returns : goal.returns
returns c = sleepers_own_nothing
