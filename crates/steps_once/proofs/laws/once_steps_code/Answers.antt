use Rattle.steps_once.proofs.OnceFit.{once_steps_code}
use Rattle.steps_once.proofs.laws.once_steps_code.Goals as goal

pub returns : goal.returns
returns c = once_steps_code
