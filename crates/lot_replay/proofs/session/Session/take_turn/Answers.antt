use Rattle.std.proofs.Common.{Some, sym, ap, subst, ◌∙◌}
use Rattle.std.specs.Prelude.{option_map}
use Rattle.lot_text.specs.declared.grammar.Command.TheVariants.{Turn}
use Rattle.lot_text.specs.Sent.{Puts}
use Rattle.lot_text.specs.Turns.{named_turn}
use Rattle.lot_replay.specs.Stages.{acted}
use Rattle.lot_replay.specs.Sessions.{session_stage, session_world}
use Rattle.lot_replay.specs.Answers.{AnswersTo}
use Rattle.lot_replay.proofs.StageLemmas.{turn_obeyed}
use Rattle.lot_replay.proofs.session.Session.take_turn.Goals as goal

pub returns : goal.returns
returns g c =
    let s = c.args.self.now in
    let w = session_world s in
    let said = Some (Turn c.args.thread (named_turn c.args.turn)) in
    subst (λ wanted. AnswersTo said wanted c.act.result (session_stage s) (session_stage c.act.new.self)
    (Puts (g.W.Write.contents c.args.writer.now) (g.W.Write.contents c.act.new.writer) c.args.page.now
    c.act.new.page))
    (sym (turn_obeyed s c.args.thread (named_turn c.args.turn)
    ∙ ap (option_map (acted s.names w c.args.thread)) (c.plain_action.ensures s.names w)))
    (c.act.ensures said)
