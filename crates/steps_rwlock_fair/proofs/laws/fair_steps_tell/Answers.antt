use Rattle.steps_rwlock_fair.proofs.FairCallTells.{fair_steps_tell}
use Rattle.steps_rwlock_fair.proofs.laws.fair_steps_tell.Goals as goal

pub returns : goal.returns
returns c = fair_steps_tell
