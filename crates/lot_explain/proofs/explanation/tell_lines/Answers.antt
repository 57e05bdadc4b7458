use Rattle.lot_replay.specs.Sessions.{replay_stage_of}
use Rattle.lot_explain.proofs.TextLemmas.{told_first, told_more, told_whole}
use Rattle.lot_explain.proofs.explanation.tell_lines.Goals as goal

pub loop-number-init : goal.loop-number-init
loop-number-init g c =
    told_first _ c.args.answers.now.items (replay_stage_of c.args.state.now.session) c.requires.begins
    c.requires.empty

pub loop-number-preserved : goal.loop-number-preserved
loop-number-preserved g c =
    let l = c.loop-number in
    told_more c.in_ok-told.told c.in_ok-ending.ending (g.R.Read.remaining c.args.reader.now)
    (g.R.Read.remaining l.reader) (g.R.Read.remaining c.next_line.new.reader) l.answers.items
    c.add.new.answers.items l.number (replay_stage_of l.state.session)
    (replay_stage_of c.next_line.new.state.session) l.invariant c.in_ok-told.ensures
    c.in_ok-ending.ensures c.in-None.is

pub returns-in-Some : goal.returns-in-Some
returns-in-Some g c =
    let l = c.loop-number in
    told_whole c.in_ok-told.told c.in_ok-ending.ending (g.R.Read.remaining c.args.reader.now)
    (g.R.Read.remaining l.reader) (g.R.Read.remaining c.next_line.new.reader) l.answers.items
    c.add.new.answers.items l.number c.in-Some.status (replay_stage_of l.state.session)
    (replay_stage_of c.next_line.new.state.session) l.invariant c.in_ok-told.ensures
    c.in_ok-ending.ensures c.in-Some.is
