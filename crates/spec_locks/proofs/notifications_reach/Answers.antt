use Rattle.spec_locks.proofs.Reach.{notifications_reach}
use Rattle.spec_locks.proofs.notifications_reach.Goals as goal

pub returns : goal.returns
returns c = notifications_reach
