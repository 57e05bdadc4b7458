use Rattle.lot_world.proofs.Few.{few_begin}
use Rattle.lot_world.proofs.ground_laws.few_begin.Goals as goal

pub returns : goal.returns
returns c = few_begin
