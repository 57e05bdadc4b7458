use Rattle.spec_locks.proofs.OnceLaws.{callers}
use Rattle.spec_locks.proofs.callers_are_looked_after.Goals as goal

pub returns : goal.returns
returns c = callers
