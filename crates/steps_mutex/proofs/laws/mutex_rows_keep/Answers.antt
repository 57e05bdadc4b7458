use Rattle.steps_mutex.proofs.MutexRowCheck.{mutex_promises}
use Rattle.steps_mutex.proofs.laws.mutex_rows_keep.Goals as goal

pub returns : goal.returns
returns c = mutex_promises
