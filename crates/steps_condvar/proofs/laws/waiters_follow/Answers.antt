use Rattle.steps_condvar.proofs.WaiterFit.{waiters_follow}
use Rattle.steps_condvar.proofs.laws.waiters_follow.Goals as goal

pub returns : goal.returns
returns c = waiters_follow
