use Rattle.steps_semaphore.proofs.TendedKept.{new_tended}
use Rattle.steps_semaphore.proofs.laws.new_semaphores_are_tended.Goals as goal

pub returns : goal.returns
returns c = new_tended
