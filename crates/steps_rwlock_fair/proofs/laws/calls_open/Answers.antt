use Rattle.steps_rwlock_fair.proofs.FairOpenings.{calls_open}
use Rattle.steps_rwlock_fair.proofs.laws.calls_open.Goals as goal

pub returns : goal.returns
returns c = calls_open
