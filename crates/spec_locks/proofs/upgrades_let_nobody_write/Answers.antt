use Rattle.spec_locks.proofs.UserLaws.{upgrades_hold}
use Rattle.spec_locks.proofs.upgrades_let_nobody_write.Goals as goal

pub returns : goal.returns
returns c = upgrades_hold
