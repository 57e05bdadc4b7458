use Rattle.steps_rwlock.proofs.RwLockOwners.{rwlock_owners_follow}
use Rattle.steps_rwlock.proofs.laws.rwlock_owners_follow.Goals as goal

pub returns : goal.returns
returns c = rwlock_owners_follow
