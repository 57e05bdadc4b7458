use Rattle.lot_world.proofs.Crowded.{nobody_is_left_out}
use Rattle.lot_world.proofs.ground_laws.nobody_is_left_out.Goals as goal

pub returns : goal.returns
returns c = nobody_is_left_out
