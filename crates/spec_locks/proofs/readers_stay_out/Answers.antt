use Rattle.spec_locks.proofs.UserLaws.{readers_stay_out}
use Rattle.spec_locks.proofs.readers_stay_out.Goals as goal

pub returns : goal.returns
returns c = readers_stay_out
