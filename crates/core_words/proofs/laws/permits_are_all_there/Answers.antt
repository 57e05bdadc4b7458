use Rattle.core_words.proofs.Endowing.{permits_are_all_there}
use Rattle.core_words.proofs.laws.permits_are_all_there.Goals as goal

pub returns : goal.returns
returns c = permits_are_all_there
