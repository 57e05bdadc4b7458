use Rattle.std.proofs.Common.{arith}
use Rattle.raw_mutexes.proofs.counting.RawThreadIdGetThreadIdRawMutex.nonzero_thread_id.Goals as goal

pub overflow_add-result : goal.overflow_add-result
overflow_add-result c = let few = c.requires.0.few in let below = c.requires.1.1 in let is = c.number.ensures
    in omega (arith, few, below, is)
