use Rattle.lot_world.proofs.Reached.{reached_have_owners}
use Rattle.lot_world.proofs.laws.reached_have_owners.Goals as goal

pub returns : goal.returns
returns c = reached_have_owners
