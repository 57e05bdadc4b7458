use Rattle.lot_world.proofs.Sleepers.{sleepers_stand}
use Rattle.lot_world.proofs.waiting_laws.sleepers_stand.Goals as goal

pub returns : goal.returns
returns c = sleepers_stand
