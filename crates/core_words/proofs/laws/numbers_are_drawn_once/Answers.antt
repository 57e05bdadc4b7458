use Rattle.core_words.proofs.RuleLaws.{drawn_once}
use Rattle.core_words.proofs.laws.numbers_are_drawn_once.Goals as goal

pub returns : goal.returns
returns c = drawn_once
