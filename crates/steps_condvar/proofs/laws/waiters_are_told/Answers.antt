use Rattle.steps_condvar.proofs.WaitTells.{waiters_are_told}
use Rattle.steps_condvar.proofs.laws.waiters_are_told.Goals as goal

pub returns : goal.returns
returns c = waiters_are_told
