use Rattle.steps_condvar.proofs.CondvarActs.{waits_move}
use Rattle.steps_condvar.proofs.laws.waits_move.Goals as goal

pub returns : goal.returns
returns c = waits_move
