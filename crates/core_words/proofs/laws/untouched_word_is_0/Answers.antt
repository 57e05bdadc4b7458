use Rattle.core_words.proofs.RuleLaws.{untouched_is_0}
use Rattle.core_words.proofs.laws.untouched_word_is_0.Goals as goal

pub returns : goal.returns
returns c = untouched_is_0
