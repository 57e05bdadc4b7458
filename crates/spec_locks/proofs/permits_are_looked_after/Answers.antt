use Rattle.spec_locks.proofs.PermitKeeps.{looked_after}
use Rattle.spec_locks.proofs.permits_are_looked_after.Goals as goal

pub returns : goal.returns
returns c = looked_after
