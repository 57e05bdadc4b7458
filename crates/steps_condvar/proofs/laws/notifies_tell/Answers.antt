use Rattle.steps_condvar.proofs.NotifyTells.{notifies_tell}
use Rattle.steps_condvar.proofs.laws.notifies_tell.Goals as goal

pub returns : goal.returns
returns c = notifies_tell
