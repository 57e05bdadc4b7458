use Rattle.steps_rwlock_fair.proofs.FairGives.{fair_releases_give}
use Rattle.steps_rwlock_fair.proofs.laws.fair_releases_give.Goals as goal

pub returns : goal.returns
returns c = fair_releases_give
