use Rattle.std.proofs.Common.{drop}
use Rattle.lot_replay.specs.Drains.{drain_lines}
use Rattle.lot_text.proofs.SentLemmas.{Left}
use Rattle.lot_replay.proofs.drains.print_drain.Given as goal

-- the steps so far are printed
abbrev pub invariant-loop-step : goal.invariant-loop-step
invariant-loop-step g l = Left (g.W.Write.contents l.fn.writer) (g.W.Write.contents l.writer) l.fn.page l.page
    (drain_lines l.names (drop l.step-index l.steps)) (drain_lines l.names l.steps)
