use Rattle.steps_mutex.proofs.MutexCode.{mutex_steps_code}
use Rattle.steps_mutex.proofs.laws.mutex_steps_code.Goals as goal

pub returns : goal.returns
returns c = mutex_steps_code
