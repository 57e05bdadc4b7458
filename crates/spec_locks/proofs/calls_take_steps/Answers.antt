use Rattle.spec_locks.proofs.Laws.{calls_take_steps}
use Rattle.spec_locks.proofs.calls_take_steps.Goals as goal

pub returns : goal.returns
returns c = calls_take_steps
