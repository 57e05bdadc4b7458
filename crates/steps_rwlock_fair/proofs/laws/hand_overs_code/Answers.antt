use Rattle.steps_rwlock_fair.proofs.HandOverCodes.{hand_overs_code}
use Rattle.steps_rwlock_fair.proofs.laws.hand_overs_code.Goals as goal

pub returns : goal.returns
returns c = hand_overs_code
