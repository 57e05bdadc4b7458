use Rattle.steps_condvar.proofs.NotifierFit.{notifiers_code}
use Rattle.steps_condvar.proofs.laws.notifiers_code.Goals as goal

pub returns : goal.returns
returns c = notifiers_code
