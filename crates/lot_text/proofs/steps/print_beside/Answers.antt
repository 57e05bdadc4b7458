use Rattle.std.specs.Prelude.{codes}
use Rattle.lot_text.specs.Steps.{name_at}
use Rattle.lot_text.proofs.SentLemmas.{puts_then}
use Rattle.lot_text.proofs.steps.print_beside.Goals as goal

pub returns-in-Some : goal.returns-in-Some
returns-in-Some g c =
    rw c.in-Some.is (puts_then _ _ _ c.args.page.now c.put.new.self c.print_name.new.page (codes " ")
    (name_at c.args.names.now c.in-Some.mutex) c.put.ensures c.print_name.ensures)
