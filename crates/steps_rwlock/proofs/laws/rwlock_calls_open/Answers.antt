use Rattle.steps_rwlock.proofs.RwLockOpenings.{rwlock_calls_open}
use Rattle.steps_rwlock.proofs.laws.rwlock_calls_open.Goals as goal

pub returns : goal.returns
returns c = rwlock_calls_open
