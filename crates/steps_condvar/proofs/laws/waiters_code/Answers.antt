use Rattle.steps_condvar.proofs.WaiterFit.{waiters_code}
use Rattle.steps_condvar.proofs.laws.waiters_code.Goals as goal

pub returns : goal.returns
returns c = waiters_code
