use Rattle.steps_semaphore.proofs.SemaphoreRowCheck.{semaphore_promises}
use Rattle.steps_semaphore.proofs.laws.semaphore_rows_keep.Goals as goal

pub returns : goal.returns
returns c = semaphore_promises
