use Rattle.steps_rwlock_fair.proofs.FairCallTells.{fair_sections_tell}
use Rattle.steps_rwlock_fair.proofs.laws.fair_sections_tell.Goals as goal

pub returns : goal.returns
returns c = fair_sections_tell
