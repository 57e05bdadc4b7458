use Rattle.spec_locks.proofs.Guarantees.{quiet_worlds_rest}
use Rattle.spec_locks.proofs.quiet_worlds_rest.Goals as goal

pub returns : goal.returns
returns c = quiet_worlds_rest
