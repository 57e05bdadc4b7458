use Rattle.steps_rwlock_fair.proofs.FairFit.{fair_steps_follow}
use Rattle.steps_rwlock_fair.proofs.laws.fair_steps_follow.Goals as goal

pub returns : goal.returns
returns c = fair_steps_follow
