use Rattle.steps_rwlock_fair.proofs.FairStands.{fair_calls_stand}
use Rattle.steps_rwlock_fair.proofs.laws.fair_calls_stand.Goals as goal

pub returns : goal.returns
returns c = fair_calls_stand
