use Rattle.steps_rwlock_fair.proofs.FairTells.{hand_overs_tell}
use Rattle.steps_rwlock_fair.proofs.laws.hand_overs_tell.Goals as goal

pub returns : goal.returns
returns c = hand_overs_tell
