use Rattle.spec_locks.proofs.Laws.{fair_releases}
use Rattle.spec_locks.proofs.fair_releases_hand_over.Goals as goal

pub returns : goal.returns
returns c = fair_releases
