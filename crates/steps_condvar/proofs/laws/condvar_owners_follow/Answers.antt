use Rattle.steps_condvar.proofs.CondvarFit.{condvar_owners_follow}
use Rattle.steps_condvar.proofs.laws.condvar_owners_follow.Goals as goal

pub returns : goal.returns
returns c = condvar_owners_follow
