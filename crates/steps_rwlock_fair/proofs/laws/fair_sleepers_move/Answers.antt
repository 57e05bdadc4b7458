use Rattle.steps_rwlock_fair.proofs.FairActs.{fair_sleepers_move}
use Rattle.steps_rwlock_fair.proofs.laws.fair_sleepers_move.Goals as goal

pub returns : goal.returns
returns c = fair_sleepers_move
