use Rattle.steps_once.proofs.OnceFit.{once_owners_follow}
use Rattle.steps_once.proofs.laws.once_owners_follow.Goals as goal

pub returns : goal.returns
returns c = once_owners_follow
