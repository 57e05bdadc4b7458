use Rattle.steps_once.proofs.OnceRowCheck.{once_promises}
use Rattle.steps_once.proofs.laws.once_rows_keep.Goals as goal

pub returns : goal.returns
returns c = once_promises
