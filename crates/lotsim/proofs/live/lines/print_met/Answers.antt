use Rattle.std.proofs.Common.{Bool, sym, subst}
use Rattle.lot_text.specs.Sent.{Puts}
use Rattle.lotsim.specs.Lines.{met_line}
use Rattle.lotsim.proofs.live.lines.print_met.Goals as goal

pub returns-then-met : goal.returns-then-met
returns-then-met g c = subst (λ (met : Bool). Puts (g.W.Write.contents c.args.writer.now)
    (g.W.Write.contents c.put.new.writer) c.args.page.now c.put.new.self (met_line met)) (sym c.if-met.true)
    c.put.ensures

pub returns-else-met : goal.returns-else-met
returns-else-met g c = subst (λ (met : Bool). Puts (g.W.Write.contents c.args.writer.now)
    (g.W.Write.contents c.put-else-met.new.writer) c.args.page.now c.put-else-met.new.self (met_line met))
    (sym c.if-met.false) c.put-else-met.ensures
