use Rattle.lot_world.proofs.Begins.{draining_begins}
use Rattle.lot_world.proofs.course_laws.draining_begins.Goals as goal

pub returns : goal.returns
returns c = draining_begins
