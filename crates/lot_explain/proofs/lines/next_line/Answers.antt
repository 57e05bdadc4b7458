use Rattle.std.proofs.Common.{sym, subst}
use Rattle.lot_text.specs.Reads.{TakesLine}
use Rattle.lot_replay.specs.Sessions.{replay_stage_of}
use Rattle.lot_explain.proofs.TextLemmas.{line_comes, long_comes}
use Rattle.lot_explain.proofs.lines.next_line.Goals as goal

pub returns-in-Line : goal.returns-in-Line
returns-in-Line g c =
    let takes = subst (TakesLine (g.R.Read.remaining c.args.reader.now)
    (g.R.Read.remaining c.read_line.new.reader)) (sym c.as_slice.ensures.value) c.in-Line.ensures.0 in
    line_comes c.tell_line.result _ _ c.args.number (replay_stage_of c.args.state.now.session)
    (replay_stage_of c.tell_line.new.state.session) c.as_slice.result.now takes c.tell_line.ensures

pub returns-in-TooLong : goal.returns-in-TooLong
returns-in-TooLong g c =
    long_comes c.tell_long.result _ _ c.args.number (replay_stage_of c.args.state.now.session)
    (replay_stage_of c.args.state.now.session) c.in-TooLong.ensures c.tell_long.ensures
