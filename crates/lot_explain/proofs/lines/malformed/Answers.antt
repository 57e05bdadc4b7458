use Rattle.std.proofs.Common.{◌≡◌, ◌++◌, Some, false, sym, ap, ◌∙◌}
use Rattle.lot_text.specs.Text.{malformed_line}
use Rattle.lot_explain.proofs.TextLemmas.{sent_whole}
use Rattle.lot_explain.proofs.lines.malformed.Goals as goal

pub returns : goal.returns
returns c =
    let line = malformed_line c.args.number in
    let lost : c.finish.new.self.lost ≡ false = sym c.is_lost.ensures ∙ c.if-is_lost.false in
    let sent : c.finish.new.writer.items ≡ c.new-answer.result.items ++ line =
    sent_whole (Some c.new-answer.result.items) (Some c.print_malformed.new.writer.items)
    (Some c.finish.new.writer.items) c.new-page.result c.print_malformed.new.page c.finish.new.self line
    c.new-page.ensures c.print_malformed.ensures c.finish.ensures.puts lost (c.finish.ensures.empty lost)
    in
    sent ∙ ap (λ l. l ++ line) c.new-answer.ensures.items
