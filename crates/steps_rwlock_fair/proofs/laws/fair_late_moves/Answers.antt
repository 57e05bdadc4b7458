use Rattle.steps_rwlock_fair.proofs.FairActs.{fair_late_moves}
use Rattle.steps_rwlock_fair.proofs.laws.fair_late_moves.Goals as goal

pub returns : goal.returns
returns c = fair_late_moves
