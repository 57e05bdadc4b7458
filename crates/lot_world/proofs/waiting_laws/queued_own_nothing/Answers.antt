use Rattle.lot_world.proofs.Owned.{queued_own_nothing}
use Rattle.lot_world.proofs.waiting_laws.queued_own_nothing.Goals as goal

pub returns : goal.returns
returns c = queued_own_nothing
