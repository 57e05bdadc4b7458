use Rattle.steps_semaphore.proofs.TendedKept.{nobody_forgotten}
use Rattle.steps_semaphore.proofs.laws.nobody_is_forgotten.Goals as goal

pub returns : goal.returns
returns c = nobody_forgotten
