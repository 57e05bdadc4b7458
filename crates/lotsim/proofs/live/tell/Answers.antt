use Rattle.std.proofs.Common.{ℕ, inl, sym, subst, ◌∙◌}
use Rattle.lotsim.specs.Lines.{Lives, status_for, told_lines}
use Rattle.lotsim.proofs.Telling.{all_sent, front_sent}
use Rattle.lotsim.proofs.live.tell.Goals as goal

pub returns-then-is_lost : goal.returns-then-is_lost
returns-then-is_lost g c = inl (
  c.args.told,
  front_sent _ _ _ c.new-page.result c.print_told.new.page
      c.finish.new.self (told_lines c.args.told) c.new-page.ensures c.print_told.ensures c.finish.ensures.puts
      (status_for c.args.told) (sym c.is_lost.ensures ∙ c.if-is_lost.true),
)

pub returns : goal.returns
returns g c = subst (λ (s : ℕ). Lives (g.W.Write.contents c.args.writer.now)
    (g.W.Write.contents c.finish.new.writer) s) (sym c.status_of.ensures)
    (inl (
      c.args.told,
      all_sent _ _ _ c.new-page.result c.print_told.new.page c.finish.new.self
          (told_lines c.args.told) c.new-page.ensures c.print_told.ensures c.finish.ensures.puts
          (status_for c.args.told) (sym c.is_lost.ensures ∙ c.if-is_lost.false) c.finish.ensures.empty,
    ))
