use Rattle.steps_rwlock_fair.proofs.FairOwners.{fair_owners_follow}
use Rattle.steps_rwlock_fair.proofs.laws.fair_owners_follow.Goals as goal

pub returns : goal.returns
returns c = fair_owners_follow
