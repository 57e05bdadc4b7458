use Rattle.lot_world.proofs.OnNow.{draining_goes_on}
use Rattle.lot_world.proofs.course_laws.draining_goes_on.Goals as goal

pub returns : goal.returns
returns c = draining_goes_on
