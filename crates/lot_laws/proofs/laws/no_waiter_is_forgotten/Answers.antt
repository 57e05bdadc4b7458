use Rattle.lot_laws.proofs.promises.RowLaws.{no_waiter_forgotten}
use Rattle.lot_laws.proofs.laws.no_waiter_is_forgotten.Goals as goal

pub returns : goal.returns
returns c = no_waiter_forgotten
