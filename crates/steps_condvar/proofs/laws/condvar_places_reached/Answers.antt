use Rattle.steps_condvar.proofs.NotifyTells.{condvar_places_reached}
use Rattle.steps_condvar.proofs.laws.condvar_places_reached.Goals as goal

pub returns : goal.returns
returns c = condvar_places_reached
