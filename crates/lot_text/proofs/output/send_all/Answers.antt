use Rattle.std.proofs.Common.{length}
use Rattle.lot_text.proofs.SentLemmas.{sends_taken, less_unless_same}
use Rattle.lot_text.proofs.output.send_all.Goals as goal

pub returns-clause-failed : goal.returns-clause-failed
returns-clause-failed g c = λ fails.
    sends_taken _ _ c.send_front.result c.args.bytes.now (less_unless_same c.send_front.result
    (length c.args.bytes.now) fails c.send_front.ensures.within) c.send_front.ensures.bytes
