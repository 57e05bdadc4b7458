use Rattle.lot_replay.proofs.Laws.{one_text}
use Rattle.lot_replay.proofs.replay.texts_are_one.Goals as goal

pub returns : goal.returns
returns c = one_text
