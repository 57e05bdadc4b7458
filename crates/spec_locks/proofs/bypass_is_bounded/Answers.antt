use Rattle.spec_locks.proofs.Bypass.{bypass_is_bounded}
use Rattle.spec_locks.proofs.bypass_is_bounded.Goals as goal

pub returns : goal.returns
returns c = bypass_is_bounded
