use Rattle.lot_world.proofs.Quiet.{quiet_is_over}
use Rattle.lot_world.proofs.course_laws.quiet_is_over.Goals as goal

pub returns : goal.returns
returns c = quiet_is_over
