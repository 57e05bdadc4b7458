use Rattle.steps_once.proofs.OnceTells.{once_sections_tell}
use Rattle.steps_once.proofs.laws.once_sections_tell.Goals as goal

pub returns : goal.returns
returns c = once_sections_tell
