use Rattle.lot_laws.proofs.promises.RowLaws.{hands_over}
use Rattle.lot_laws.proofs.laws.a_fair_unlock_hands_over.Goals as goal

pub returns : goal.returns
returns c = hands_over
