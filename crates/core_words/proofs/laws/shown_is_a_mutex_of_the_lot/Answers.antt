use Rattle.core_words.proofs.RuleLaws.{shown_is_a_mutex}
use Rattle.core_words.proofs.laws.shown_is_a_mutex_of_the_lot.Goals as goal

pub returns : goal.returns
returns c = shown_is_a_mutex
