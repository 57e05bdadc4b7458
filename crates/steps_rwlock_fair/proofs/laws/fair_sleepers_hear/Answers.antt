use Rattle.steps_rwlock_fair.proofs.FairSleepers.{fair_sleepers_hear}
use Rattle.steps_rwlock_fair.proofs.laws.fair_sleepers_hear.Goals as goal

pub returns : goal.returns
returns c = fair_sleepers_hear
