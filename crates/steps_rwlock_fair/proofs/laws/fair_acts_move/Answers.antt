use Rattle.steps_rwlock_fair.proofs.FairActs.{fair_acts_move}
use Rattle.steps_rwlock_fair.proofs.laws.fair_acts_move.Goals as goal

pub returns : goal.returns
returns c = fair_acts_move
