use Rattle.steps_rwlock_fair.proofs.HandOverCodes.{hand_overs_keep_limit}
use Rattle.steps_rwlock_fair.proofs.laws.hand_overs_keep_limit.Goals as goal

pub returns : goal.returns
returns c = hand_overs_keep_limit
