use Rattle.steps_condvar.proofs.WaiterFit.{waiters_hear}
use Rattle.steps_condvar.proofs.laws.waiters_hear.Goals as goal

pub returns : goal.returns
returns c = waiters_hear
