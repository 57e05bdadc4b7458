use Rattle.steps_rwlock_fair.proofs.HandOversGive.{hand_overs_give}
use Rattle.steps_rwlock_fair.proofs.laws.hand_overs_give.Goals as goal

pub returns : goal.returns
returns c = hand_overs_give
