use Rattle.steps_rwlock.proofs.RwLockCalls.{rwlock_steps_tell}
use Rattle.steps_rwlock.proofs.laws.rwlock_steps_tell.Goals as goal

pub returns : goal.returns
returns c = rwlock_steps_tell
