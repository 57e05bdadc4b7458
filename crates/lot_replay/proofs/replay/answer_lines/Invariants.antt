use Rattle.std.proofs.Common.{ℕ, List}
use Rattle.lot_text.specs.Sent.{Puts}
use Rattle.lot_replay.specs.Sessions.{replay_stage_of}
use Rattle.lot_replay.proofs.ReplayLemmas.{ReachedKnown}
use Rattle.lot_replay.proofs.replay.answer_lines.Given as goal

-- the text so far is that of the lines so far
abbrev pub invariant-loop : goal.invariant-loop
invariant-loop g l =
    (text : List ℕ)
    × ReachedKnown (g.R.Read.remaining l.initial.reader) (g.R.Read.remaining l.reader) text l.number
    (replay_stage_of l.state.session)
    × Puts (g.W.Write.contents l.initial.writer) (g.W.Write.contents l.writer) l.initial.page l.page text
