use Rattle.steps_mutex.proofs.MutexFit.{mutex_steps_follow}
use Rattle.steps_mutex.proofs.laws.mutex_steps_follow.Goals as goal

pub returns : goal.returns
returns c = mutex_steps_follow
