use Rattle.lot_laws.proofs.mutex.MutexPromisesKept.{mutexes_owe}
use Rattle.lot_laws.proofs.laws.mutexes_owe.Goals as goal

pub returns : goal.returns
returns c = mutexes_owe
