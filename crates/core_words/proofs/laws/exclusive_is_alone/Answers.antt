use Rattle.core_words.proofs.Alone.{exclusive_alone}
use Rattle.core_words.proofs.laws.exclusive_is_alone.Goals as goal

pub returns : goal.returns
returns c = exclusive_alone
