use Rattle.spec_locks.proofs.Guarantees.{safe_holds}
use Rattle.spec_locks.proofs.safe_states_hold.Goals as goal

pub returns : goal.returns
returns c = safe_holds
