use Rattle.core_words.proofs.OnceSteps.{once_steps}
use Rattle.core_words.proofs.laws.once_may_step.Goals as goal

pub returns : goal.returns
returns c = once_steps
