use Rattle.spec_locks.proofs.Guarantees.{headline_guarantees}
use Rattle.spec_locks.proofs.headline_guarantees.Goals as goal

pub returns : goal.returns
returns c = headline_guarantees
