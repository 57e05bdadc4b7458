use Rattle.steps_condvar.proofs.CondvarFit.{condvar_steps_follow}
use Rattle.steps_condvar.proofs.laws.condvar_steps_follow.Goals as goal

pub returns : goal.returns
returns c = condvar_steps_follow
