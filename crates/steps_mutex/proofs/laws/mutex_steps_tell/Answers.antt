use Rattle.steps_mutex.proofs.MutexTells.{mutex_steps_tell}
use Rattle.steps_mutex.proofs.laws.mutex_steps_tell.Goals as goal

pub returns : goal.returns
returns c = mutex_steps_tell
