use Rattle.steps_condvar.proofs.WaitTells.{waits_tell}
use Rattle.steps_condvar.proofs.laws.waits_tell.Goals as goal

pub returns : goal.returns
returns c = waits_tell
