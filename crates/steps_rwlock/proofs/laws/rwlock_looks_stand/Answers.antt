use Rattle.steps_rwlock.proofs.RwLockCallPlaces.{rwlock_looks_stand}
use Rattle.steps_rwlock.proofs.laws.rwlock_looks_stand.Goals as goal

pub returns : goal.returns
returns c = rwlock_looks_stand
