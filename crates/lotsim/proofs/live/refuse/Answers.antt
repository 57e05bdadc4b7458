use Rattle.std.proofs.Common.{inr, sym, ◌∙◌}
use Rattle.lotsim.specs.Lines.{refused_line}
use Rattle.lotsim.proofs.Telling.{all_sent, front_sent}
use Rattle.lotsim.proofs.live.refuse.Goals as goal

pub returns-then-is_lost : goal.returns-then-is_lost
returns-then-is_lost g c = inr (front_sent _ _ _ c.new-page.result c.print_refused.new.page c.finish.new.self
    refused_line c.new-page.ensures c.print_refused.ensures c.finish.ensures.puts 3 (sym c.is_lost.ensures
    ∙ c.if-is_lost.true))

pub returns : goal.returns
returns g c = inr (all_sent _ _ _ c.new-page.result c.print_refused.new.page c.finish.new.self refused_line
    c.new-page.ensures c.print_refused.ensures c.finish.ensures.puts 3 (sym c.is_lost.ensures
    ∙ c.if-is_lost.false) c.finish.ensures.empty)
