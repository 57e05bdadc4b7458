use Rattle.lot_replay.proofs.Laws.{beginnings}
use Rattle.lot_replay.proofs.replay.beginnings_begin.Goals as goal

pub returns : goal.returns
returns c = beginnings
