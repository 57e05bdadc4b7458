use Rattle.lot_world.proofs.Now.{step_keeps_now}
use Rattle.lot_world.proofs.course_laws.step_keeps_now.Goals as goal

pub returns : goal.returns
returns c = step_keeps_now
