use Rattle.steps_rwlock.proofs.RwLockSections.{rwlock_sections_follow}
use Rattle.steps_rwlock.proofs.laws.rwlock_sections_follow.Goals as goal

pub returns : goal.returns
returns c = rwlock_sections_follow
