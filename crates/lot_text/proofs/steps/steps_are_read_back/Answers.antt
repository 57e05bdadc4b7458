use Rattle.lot_text.proofs.ReadBack.{steps_are_read_back}
use Rattle.lot_text.proofs.steps.steps_are_read_back.Goals as goal

pub returns : goal.returns
returns c = steps_are_read_back
