use Rattle.core_words.proofs.MutexSteps.{mutex_steps}
use Rattle.core_words.proofs.laws.mutex_may_step.Goals as goal

pub returns : goal.returns
returns c = mutex_steps
