use Rattle.steps_rwlock.proofs.RwLockCallSections.{rwlock_sections_tell}
use Rattle.steps_rwlock.proofs.laws.rwlock_sections_tell.Goals as goal

pub returns : goal.returns
returns c = rwlock_sections_tell
