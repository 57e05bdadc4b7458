use Rattle.spec_locks.proofs.CondvarKeeps.{condvar_deed_keeps}
use Rattle.spec_locks.proofs.each_condvar_deed_keeps.Goals as goal

pub returns : goal.returns
returns c = condvar_deed_keeps
