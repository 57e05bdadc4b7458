use Rattle.steps_rwlock_fair.proofs.HandOverFit.{hand_overs_follow}
use Rattle.steps_rwlock_fair.proofs.laws.hand_overs_follow.Goals as goal

pub returns : goal.returns
returns c = hand_overs_follow
