use Rattle.spec_locks.proofs.Guarantees.{owners_exclude_in_runs}
use Rattle.spec_locks.proofs.owners_exclude_in_runs.Goals as goal

pub returns : goal.returns
returns c = owners_exclude_in_runs
