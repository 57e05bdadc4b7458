use Rattle.steps_condvar.proofs.CondvarActs.{waits_begin}
use Rattle.steps_condvar.proofs.laws.waits_begin.Goals as goal

pub returns : goal.returns
returns c = waits_begin
