use Rattle.steps_once.proofs.OnceActs.{once_acts_move}
use Rattle.steps_once.proofs.laws.once_acts_move.Goals as goal

pub returns : goal.returns
returns c = once_acts_move
