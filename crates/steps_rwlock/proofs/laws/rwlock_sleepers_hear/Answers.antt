use Rattle.steps_rwlock.proofs.RwLockCallPlaces.{rwlock_sleepers_hear}
use Rattle.steps_rwlock.proofs.laws.rwlock_sleepers_hear.Goals as goal

pub returns : goal.returns
returns c = rwlock_sleepers_hear
