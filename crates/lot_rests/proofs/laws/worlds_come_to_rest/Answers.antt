use Rattle.lot_rests.proofs.Rest.{worlds_come_to_rest}
use Rattle.lot_rests.proofs.laws.worlds_come_to_rest.Goals as goal

pub returns : goal.returns
returns c = worlds_come_to_rest
