use Rattle.steps_rwlock.proofs.RwLockMoves.{rwlock_acts_move}
use Rattle.steps_rwlock.proofs.laws.rwlock_acts_move.Goals as goal

pub returns : goal.returns
returns c = rwlock_acts_move
