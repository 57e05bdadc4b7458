use Rattle.lot_misses.proofs.Exchanges.{each_is_known}
use Rattle.lot_misses.proofs.laws.each_exchange_is_known.Goals as goal

pub returns : goal.returns
returns c = each_is_known
