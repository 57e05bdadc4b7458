use Rattle.steps_semaphore.proofs.SemaphoreCode.{semaphore_steps_code}
use Rattle.steps_semaphore.proofs.laws.semaphore_steps_code.Goals as goal

pub returns : goal.returns
returns c = semaphore_steps_code
