use Rattle.steps_condvar.proofs.CondvarActs.{waiters_move}
use Rattle.steps_condvar.proofs.laws.waiters_move.Goals as goal

pub returns : goal.returns
returns c = waiters_move
