use Rattle.steps_rwlock.proofs.RwLockMoves.{rwlock_late_moves}
use Rattle.steps_rwlock.proofs.laws.rwlock_late_moves.Goals as goal

pub returns : goal.returns
returns c = rwlock_late_moves
