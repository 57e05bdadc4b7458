use Rattle.lot_world.proofs.ScheduleEnds.{schedules_drain}
use Rattle.lot_world.proofs.laws.schedules_drain.Goals as goal

pub returns : goal.returns
returns c = schedules_drain
