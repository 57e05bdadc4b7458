use Rattle.steps_rwlock.proofs.RwLockStands.{rwlock_calls_stand}
use Rattle.steps_rwlock.proofs.laws.rwlock_calls_stand.Goals as goal

pub returns : goal.returns
returns c = rwlock_calls_stand
