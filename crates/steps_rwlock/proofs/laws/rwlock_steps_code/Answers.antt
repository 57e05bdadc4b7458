use Rattle.steps_rwlock.proofs.RwLockCodes.{rwlock_steps_code}
use Rattle.steps_rwlock.proofs.laws.rwlock_steps_code.Goals as goal

pub returns : goal.returns
returns c = rwlock_steps_code
