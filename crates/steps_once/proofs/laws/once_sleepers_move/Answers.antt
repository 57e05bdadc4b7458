use Rattle.steps_once.proofs.OnceActs.{once_sleepers_move}
use Rattle.steps_once.proofs.laws.once_sleepers_move.Goals as goal

pub returns : goal.returns
returns c = once_sleepers_move
