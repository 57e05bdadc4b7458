use Rattle.steps_condvar.proofs.CondvarActs.{looks_move}
use Rattle.steps_condvar.proofs.laws.looks_move.Goals as goal

pub returns : goal.returns
returns c = looks_move
