use Rattle.std.proofs.Common.{◌≤◌, length, take}
use Rattle.std.specs.Io.KnownBytes.{Appends}
use Rattle.lot_text.proofs.output.send_front.Given as goal

abbrev pub invariant-loop : goal.invariant-loop
invariant-loop g l = (l.sent ≤ length l.bytes) × Appends (g.W.Write.contents l.initial.writer)
    (g.W.Write.contents l.writer) (take l.sent l.bytes)
