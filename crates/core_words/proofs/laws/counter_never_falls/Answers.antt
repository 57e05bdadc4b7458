use Rattle.core_words.proofs.RuleLaws.{never_falls}
use Rattle.core_words.proofs.laws.counter_never_falls.Goals as goal

pub returns : goal.returns
returns c = never_falls
