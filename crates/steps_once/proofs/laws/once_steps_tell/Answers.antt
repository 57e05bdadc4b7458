use Rattle.steps_once.proofs.OnceTells.{once_steps_tell}
use Rattle.steps_once.proofs.laws.once_steps_tell.Goals as goal

pub returns : goal.returns
returns c = once_steps_tell
