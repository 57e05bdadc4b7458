use Rattle.steps_once.proofs.OnceFit.{once_steps_follow}
use Rattle.steps_once.proofs.laws.once_steps_follow.Goals as goal

pub returns : goal.returns
returns c = once_steps_follow
