use Rattle.lot_replay.proofs.Laws.{early}
use Rattle.lot_replay.proofs.replay.early_texts_begin.Goals as goal

pub returns : goal.returns
returns c = early
