use Rattle.steps_condvar.proofs.CondvarActs.{waiters_look_again}
use Rattle.steps_condvar.proofs.laws.waiters_look_again.Goals as goal

pub returns : goal.returns
returns c = waiters_look_again
