use Rattle.lot_world.proofs.Full.{full_is_empty}
use Rattle.lot_world.proofs.course_laws.full_is_empty.Goals as goal

pub returns : goal.returns
returns c = full_is_empty
