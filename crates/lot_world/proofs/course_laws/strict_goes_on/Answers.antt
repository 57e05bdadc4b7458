use Rattle.lot_world.proofs.Full.{strict_goes_on}
use Rattle.lot_world.proofs.course_laws.strict_goes_on.Goals as goal

pub returns : goal.returns
returns c = strict_goes_on
