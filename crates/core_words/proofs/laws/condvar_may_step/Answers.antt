use Rattle.core_words.proofs.TiedSteps.{condvar_steps}
use Rattle.core_words.proofs.laws.condvar_may_step.Goals as goal

pub returns : goal.returns
returns c = condvar_steps
