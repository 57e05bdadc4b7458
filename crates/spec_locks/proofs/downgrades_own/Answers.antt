use Rattle.spec_locks.proofs.UserLaws.{downgrades_hold}
use Rattle.spec_locks.proofs.downgrades_own.Goals as goal

pub returns : goal.returns
returns c = downgrades_hold
