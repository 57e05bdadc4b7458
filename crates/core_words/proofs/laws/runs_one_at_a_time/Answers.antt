use Rattle.core_words.proofs.RuleLaws.{one_at_a_time}
use Rattle.core_words.proofs.laws.runs_one_at_a_time.Goals as goal

pub returns : goal.returns
returns c = one_at_a_time
