use Rattle.steps_condvar.proofs.CondvarFit.{condvar_moves_fit}
use Rattle.steps_condvar.proofs.laws.condvar_moves_fit.Goals as goal

pub returns : goal.returns
returns c = condvar_moves_fit
