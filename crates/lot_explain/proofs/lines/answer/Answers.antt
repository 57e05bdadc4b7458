use Rattle.std.proofs.Common.{◌≡◌, ◌++◌, Some, false, sym, subst, ap, ◌∙◌}
use Rattle.lot_text.specs.Grammar.{meaning}
use Rattle.lot_replay.specs.Stages.{after_line}
use Rattle.lot_replay.specs.Replay.{LineMayLead}
use Rattle.lot_replay.specs.Sessions.{replay_stage_of}
use Rattle.lot_replay.proofs.ReplayLemmas.{as_answered}
use Rattle.lot_explain.proofs.TextLemmas.{refused_malformed, sent_whole}
use Rattle.lot_explain.proofs.lines.answer.Goals as goal

pub returns-in-Err-clause-refused : goal.returns-in-Err-clause-refused
returns-in-Err-clause-refused g c =
    let stage = replay_stage_of c.args.state.now.session in
    let left = replay_stage_of c.answer.new.self.session in
    let line = c.args.line.now in
    refused_malformed (meaning line) (after_line stage line) c.in-Err.refusal stage left _ c.in-Err.ensures

pub returns-clause-answered : goal.returns-clause-answered
returns-clause-answered g c =
    let stage = replay_stage_of c.args.state.now.session in
    let left = replay_stage_of c.answer.new.self.session in
    let line = c.args.line.now in
    let said = as_answered (meaning line) (after_line stage line) c.in_default.field-0 stage left _ _
    c.new-page.result c.answer.new.page c.in_default.ensures in
    let lost : c.finish.new.self.lost ≡ false = sym c.is_lost.ensures ∙ c.if-is_lost.false in
    let sent : c.finish.new.writer.items ≡ c.new-answer.result.items ++ said.text =
    sent_whole (Some c.new-answer.result.items) (Some c.answer.new.writer.items)
    (Some c.finish.new.writer.items) c.new-page.result c.answer.new.page c.finish.new.self said.text
    c.new-page.ensures said.puts c.finish.ensures.puts lost (c.finish.ensures.empty lost) in
    let text : c.finish.new.writer.items ≡ said.text = sent
    ∙ ap (λ l. l ++ said.text) c.new-answer.ensures.items in
    subst (λ t. LineMayLead stage line left t) (sym text) said.wanted
