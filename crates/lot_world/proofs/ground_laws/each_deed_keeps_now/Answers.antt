use Rattle.lot_world.proofs.AsNow.{keeps_now}
use Rattle.lot_world.proofs.ground_laws.each_deed_keeps_now.Goals as goal

pub returns : goal.returns
returns c = keeps_now
