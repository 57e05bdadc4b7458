use Rattle.steps_semaphore.proofs.TendedKept.{steps_keep_tended}
use Rattle.steps_semaphore.proofs.laws.semaphore_steps_keep_tended.Goals as goal

pub returns : goal.returns
returns c = steps_keep_tended
