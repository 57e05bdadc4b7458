use Rattle.lot_misses.proofs.Runs.{no_miss_is_needed}
use Rattle.lot_misses.proofs.laws.no_missed_exchange_is_needed.Goals as goal

pub returns : goal.returns
returns c = no_miss_is_needed
