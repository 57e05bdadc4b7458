use Rattle.std.proofs.Common.{◌≤◌, length}
use Rattle.std.specs.Io.KnownBytes.{Consumes}
use Rattle.lot_text.specs.Lines.{line_len}
use Rattle.lot_text.specs.Reads.{IsOneLine}
use Rattle.lot_text.proofs.input.read_line.Given as goal

-- the line so far
abbrev pub invariant-loop : goal.invariant-loop
invariant-loop g l = IsOneLine l.line.items × (length l.line.items ≤ line_len)
    × Consumes (g.R.Read.remaining l.initial.reader) (g.R.Read.remaining l.reader) l.line.items
