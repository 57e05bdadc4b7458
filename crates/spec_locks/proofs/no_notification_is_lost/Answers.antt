use Rattle.spec_locks.proofs.Guarantees.{no_notification_is_lost}
use Rattle.spec_locks.proofs.no_notification_is_lost.Goals as goal

pub returns : goal.returns
returns c = no_notification_is_lost
