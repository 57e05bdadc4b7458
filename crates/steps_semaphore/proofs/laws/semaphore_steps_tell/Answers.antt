use Rattle.steps_semaphore.proofs.SemaphoreTells.{semaphore_steps_tell}
use Rattle.steps_semaphore.proofs.laws.semaphore_steps_tell.Goals as goal

pub returns : goal.returns
returns c = semaphore_steps_tell
