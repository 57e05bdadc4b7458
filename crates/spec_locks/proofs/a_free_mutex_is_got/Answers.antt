use Rattle.spec_locks.proofs.Laws.{free_mutex}
use Rattle.spec_locks.proofs.a_free_mutex_is_got.Goals as goal

pub returns : goal.returns
returns c = free_mutex
