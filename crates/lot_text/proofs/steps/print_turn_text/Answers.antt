use Rattle.std.specs.Prelude.{codes}
use Rattle.lot_text.specs.Steps.{call_text}
use Rattle.lot_text.proofs.SentLemmas.{puts_then}
use Rattle.lot_text.proofs.steps.print_turn_text.Goals as goal

pub returns-in-Begin : goal.returns-in-Begin
returns-in-Begin g c =
    rw c.in-Begin.is (puts_then _ _ _ c.args.page.now c.put.new.self c.print_call.new.page (codes " begin ")
    (call_text c.args.names.now c.in-Begin.call) c.put.ensures c.print_call.ensures)
