use Rattle.spec_locks.proofs.Guarantees.{somebody_goes}
use Rattle.spec_locks.proofs.somebody_goes.Goals as goal

pub returns : goal.returns
returns c = somebody_goes
