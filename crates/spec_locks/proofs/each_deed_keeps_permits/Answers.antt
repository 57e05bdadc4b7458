use Rattle.spec_locks.proofs.PermitKeeps.{permits_kept}
use Rattle.spec_locks.proofs.each_deed_keeps_permits.Goals as goal

pub returns : goal.returns
returns c = permits_kept
