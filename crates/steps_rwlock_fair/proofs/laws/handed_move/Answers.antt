use Rattle.steps_rwlock_fair.proofs.FairMoves.{handed_move}
use Rattle.steps_rwlock_fair.proofs.laws.handed_move.Goals as goal

pub returns : goal.returns
returns c = handed_move
