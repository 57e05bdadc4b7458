use Rattle.lot_laws.proofs.promises.RowLaws.{nobody_passed_over}
use Rattle.lot_laws.proofs.laws.nobody_is_passed_over.Goals as goal

pub returns : goal.returns
returns c = nobody_passed_over
