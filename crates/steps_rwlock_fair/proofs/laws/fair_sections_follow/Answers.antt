use Rattle.steps_rwlock_fair.proofs.FairSections.{fair_sections_follow}
use Rattle.steps_rwlock_fair.proofs.laws.fair_sections_follow.Goals as goal

pub returns : goal.returns
returns c = fair_sections_follow
