use Rattle.steps_rwlock.proofs.RwLockFit.{rwlock_steps_follow}
use Rattle.steps_rwlock.proofs.laws.rwlock_steps_follow.Goals as goal

pub returns : goal.returns
returns c = rwlock_steps_follow
