use Rattle.lot_laws.proofs.mutex.MutexPromisesKept.{mutexes_are_kept}
use Rattle.lot_laws.proofs.laws.mutexes_are_kept.Goals as goal

pub returns : goal.returns
returns c = mutexes_are_kept
