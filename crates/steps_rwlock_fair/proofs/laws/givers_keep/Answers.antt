use Rattle.steps_rwlock_fair.proofs.FairOwners.{givers_keep}
use Rattle.steps_rwlock_fair.proofs.laws.givers_keep.Goals as goal

pub returns : goal.returns
returns c = givers_keep
