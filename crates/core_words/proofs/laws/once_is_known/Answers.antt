use Rattle.core_words.proofs.OnceKnowledge.{once_known}
use Rattle.core_words.proofs.laws.once_is_known.Goals as goal

pub returns : goal.returns
returns c = once_known
