use Rattle.spec_locks.proofs.CondvarKeeps.{move_fits}
use Rattle.spec_locks.proofs.each_move_fits.Goals as goal

pub returns : goal.returns
returns c = move_fits
