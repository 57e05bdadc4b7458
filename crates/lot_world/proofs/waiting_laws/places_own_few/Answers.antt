use Rattle.lot_world.proofs.Owned.{places_own_few}
use Rattle.lot_world.proofs.waiting_laws.places_own_few.Goals as goal

pub returns : goal.returns
returns c = places_own_few
