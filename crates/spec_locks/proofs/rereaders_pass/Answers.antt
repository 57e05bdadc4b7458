use Rattle.spec_locks.proofs.UserLaws.{rereaders_pass}
use Rattle.spec_locks.proofs.rereaders_pass.Goals as goal

pub returns : goal.returns
returns c = rereaders_pass
