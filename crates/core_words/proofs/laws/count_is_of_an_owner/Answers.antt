use Rattle.core_words.proofs.RuleLaws.{counts_an_owner}
use Rattle.core_words.proofs.laws.count_is_of_an_owner.Goals as goal

pub returns : goal.returns
returns c = counts_an_owner
