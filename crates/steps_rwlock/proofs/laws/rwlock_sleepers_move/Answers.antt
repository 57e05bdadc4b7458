use Rattle.steps_rwlock.proofs.RwLockMoves.{rwlock_sleepers_move}
use Rattle.steps_rwlock.proofs.laws.rwlock_sleepers_move.Goals as goal

pub returns : goal.returns
returns c = rwlock_sleepers_move
