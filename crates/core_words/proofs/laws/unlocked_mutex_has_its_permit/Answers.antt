use Rattle.core_words.proofs.RuleLaws.{unlocked_has_its_permit}
use Rattle.core_words.proofs.laws.unlocked_mutex_has_its_permit.Goals as goal

pub returns : goal.returns
returns c = unlocked_has_its_permit
