use Rattle.core_words.proofs.TiedSteps.{count_steps}
use Rattle.core_words.proofs.laws.count_may_step.Goals as goal

pub returns : goal.returns
returns c = count_steps
