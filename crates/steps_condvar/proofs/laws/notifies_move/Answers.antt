use Rattle.steps_condvar.proofs.CondvarActs.{notifies_move}
use Rattle.steps_condvar.proofs.laws.notifies_move.Goals as goal

pub returns : goal.returns
returns c = notifies_move
