use Rattle.spec_locks.proofs.Laws.{owners_exclude}
use Rattle.spec_locks.proofs.owners_exclude.Goals as goal

pub returns : goal.returns
returns c = owners_exclude
