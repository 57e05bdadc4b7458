use Rattle.std.proofs.Common.{drop}
use Rattle.lot_replay.specs.Shows.{show_lines}
use Rattle.lot_text.proofs.SentLemmas.{Left}
use Rattle.lot_replay.proofs.show.show_locks.Given as goal

abbrev pub invariant-loop-lock : goal.invariant-loop-lock
invariant-loop-lock g l = Left (g.W.Write.contents l.fn.writer) (g.W.Write.contents l.writer) l.fn.page l.page
    (show_lines l.world l.lock (drop l.lock l.names)) (show_lines l.world 0 l.names)
