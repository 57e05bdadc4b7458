use Rattle.steps_rwlock_fair.proofs.FairCodes.{fair_steps_code}
use Rattle.steps_rwlock_fair.proofs.laws.fair_steps_code.Goals as goal

pub returns : goal.returns
returns c = fair_steps_code
