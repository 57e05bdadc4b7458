use Rattle.std.proofs.Common.{Some, sym, ap, subst, ◌∙◌}
use Rattle.std.specs.Prelude.{option_map}
use Rattle.lot_replay.specs.Stages.{acted, obeyed}
use Rattle.lot_replay.specs.Sessions.{session_stage, session_world}
use Rattle.lot_replay.specs.Answers.{AnswersTo}
use Rattle.lot_text.specs.Sent.{Puts}
use Rattle.lot_replay.proofs.StageLemmas.{turn_obeyed}
use Rattle.lot_replay.proofs.session.Session.obey.Goals as goal

pub returns-in-Some : goal.returns-in-Some
returns-in-Some g c =
    let s = c.args.self.now in
    let w = session_world s in
    subst (λ wanted. AnswersTo (Some c.args.command) wanted c.act.result (session_stage s)
    (session_stage c.act.new.self) (Puts (g.W.Write.contents c.args.writer.now)
    (g.W.Write.contents c.act.new.writer) c.args.page.now c.act.new.page))
    (sym (ap (obeyed (session_stage s)) c.in-Turn.is ∙ turn_obeyed s c.in-Turn.thread c.in-Turn.turn
    ∙ ap (option_map (acted s.names w c.in-Turn.thread)) (sym c.action_of.ensures ∙ c.in-Some.is)))
    (c.act.ensures (Some c.args.command))
