use Rattle.spec_locks.proofs.OnceLaws.{done_stays}
use Rattle.spec_locks.proofs.nothing_leaves_done.Goals as goal

pub returns : goal.returns
returns c = done_stays
