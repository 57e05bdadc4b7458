use Rattle.core_words.proofs.RwLockKinds.{rwlock_steps}
use Rattle.core_words.proofs.laws.rwlock_may_step.Goals as goal

pub returns : goal.returns
returns c = rwlock_steps
