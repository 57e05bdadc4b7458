use Rattle.steps_rwlock_fair.proofs.FairSleepers.{fair_looks_stand}
use Rattle.steps_rwlock_fair.proofs.laws.fair_looks_stand.Goals as goal

pub returns : goal.returns
returns c = fair_looks_stand
