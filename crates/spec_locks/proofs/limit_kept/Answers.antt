use Rattle.spec_locks.proofs.Limits.{limit_kept}
use Rattle.spec_locks.proofs.limit_kept.Goals as goal

pub returns : goal.returns
returns c = limit_kept
