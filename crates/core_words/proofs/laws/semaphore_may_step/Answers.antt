use Rattle.core_words.proofs.SemaphoreSteps.{semaphore_steps}
use Rattle.core_words.proofs.laws.semaphore_may_step.Goals as goal

pub returns : goal.returns
returns c = semaphore_steps
