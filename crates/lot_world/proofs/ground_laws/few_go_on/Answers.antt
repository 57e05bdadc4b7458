use Rattle.lot_world.proofs.Few.{few_go_on}
use Rattle.lot_world.proofs.ground_laws.few_go_on.Goals as goal

pub returns : goal.returns
returns c = few_go_on
