use Rattle.steps_condvar.proofs.CondvarFit.{condvar_steps_code}
use Rattle.steps_condvar.proofs.laws.condvar_steps_code.Goals as goal

pub returns : goal.returns
returns c = condvar_steps_code
