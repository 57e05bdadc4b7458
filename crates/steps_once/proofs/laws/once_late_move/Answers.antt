use Rattle.steps_once.proofs.OnceActs.{once_late_move}
use Rattle.steps_once.proofs.laws.once_late_move.Goals as goal

pub returns : goal.returns
returns c = once_late_move
