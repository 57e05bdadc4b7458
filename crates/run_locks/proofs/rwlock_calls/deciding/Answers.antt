use Rattle.std.proofs.Common.{refl}
use Rattle.run_locks.proofs.rwlock_calls.deciding.Goals as goal

pub returns : goal.returns
returns c = refl
