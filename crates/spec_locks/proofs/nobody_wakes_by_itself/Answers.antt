use Rattle.spec_locks.proofs.NobodyWakes.{nobody_wakes}
use Rattle.spec_locks.proofs.nobody_wakes_by_itself.Goals as goal

pub returns : goal.returns
returns c = nobody_wakes
