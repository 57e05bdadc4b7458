use Rattle.steps_rwlock_fair.proofs.FairMoves.{hand_overs_move}
use Rattle.steps_rwlock_fair.proofs.laws.hand_overs_move.Goals as goal

pub returns : goal.returns
returns c = hand_overs_move
