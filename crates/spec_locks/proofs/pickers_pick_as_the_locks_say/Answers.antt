use Rattle.spec_locks.proofs.Picks.{pickers_pick}
use Rattle.spec_locks.proofs.pickers_pick_as_the_locks_say.Goals as goal

pub returns : goal.returns
returns c = pickers_pick
