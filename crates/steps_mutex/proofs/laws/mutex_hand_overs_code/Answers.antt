use Rattle.steps_mutex.proofs.MutexCode.{mutex_hand_overs_code}
use Rattle.steps_mutex.proofs.laws.mutex_hand_overs_code.Goals as goal

pub returns : goal.returns
returns c = mutex_hand_overs_code
