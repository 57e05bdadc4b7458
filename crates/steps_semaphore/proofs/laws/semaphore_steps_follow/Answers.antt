use Rattle.steps_semaphore.proofs.SemaphoreFit.{semaphore_steps_follow}
use Rattle.steps_semaphore.proofs.laws.semaphore_steps_follow.Goals as goal

pub returns : goal.returns
returns c = semaphore_steps_follow
