use Rattle.std.proofs.Common.{Some, sym, subst}
use Rattle.lot_text.specs.Sent.{Puts}
use Rattle.lot_text.specs.Turns.{Says, named_turn}
use Rattle.lot_text.specs.declared.grammar.Command.TheVariants.{Turn}
use Rattle.lot_replay.specs.Stages.{after_line}
use Rattle.lot_replay.specs.Sessions.{replay_stage_of}
use Rattle.lot_replay.specs.Answers.{AnswersTo}
use Rattle.lot_replay.proofs.StageLemmas.{turn_after}
use Rattle.lot_replay.proofs.state.State.answer_next.Goals as goal

pub returns-in-Turn : goal.returns-in-Turn
returns-in-Turn g c =
    let line = c.args.kept.now in
    let stage = replay_stage_of c.args.self.now.session in
    let turn = subst (λ said. Says said line) c.in-Turn.is c.requires in
    subst (λ said. AnswersTo said (after_line stage line) c.take_turn.result stage
    (replay_stage_of c.take_turn.new.self.session) (Puts (g.W.Write.contents c.args.writer.now)
    (g.W.Write.contents c.take_turn.new.writer) c.args.page.now c.take_turn.new.page))
    (sym turn.1)
    (subst (λ wanted. AnswersTo (Some (Turn c.in-Turn.thread (named_turn c.in-Turn.turn))) wanted
    c.take_turn.result stage (replay_stage_of c.take_turn.new.self.session)
    (Puts (g.W.Write.contents c.args.writer.now) (g.W.Write.contents c.take_turn.new.writer)
    c.args.page.now c.take_turn.new.page))
    (sym (turn_after stage line c.in-Turn.thread c.in-Turn.turn turn)) c.take_turn.ensures)
