use Rattle.steps_condvar.proofs.NotifyTells.{looks_tell}
use Rattle.steps_condvar.proofs.laws.looks_tell.Goals as goal

pub returns : goal.returns
returns c = looks_tell
