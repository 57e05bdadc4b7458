use Rattle.steps_condvar.proofs.NotifierFit.{notifiers_follow}
use Rattle.steps_condvar.proofs.laws.notifiers_follow.Goals as goal

pub returns : goal.returns
returns c = notifiers_follow
