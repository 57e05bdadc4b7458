use Rattle.lot_world.proofs.Sleepers.{pending_own_nothing}
use Rattle.lot_world.proofs.waiting_laws.pending_own_nothing.Goals as goal

pub returns : goal.returns
returns c = pending_own_nothing
