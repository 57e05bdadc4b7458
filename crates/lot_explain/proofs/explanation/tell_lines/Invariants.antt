use Rattle.lot_replay.specs.Sessions.{replay_stage_of}
use Rattle.lot_replay.proofs.ReplayLemmas.{ReachedKnown}
use Rattle.lot_explain.proofs.explanation.tell_lines.Given as goal

-- the answers so far are those of the lines so far
abbrev pub invariant-loop-number : goal.invariant-loop-number
invariant-loop-number g l =
    ReachedKnown (g.R.Read.remaining l.initial.reader) (g.R.Read.remaining l.reader) l.answers.items l.number
    (replay_stage_of l.state.session)
