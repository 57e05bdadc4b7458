use Rattle.std.proofs.Common.{◌++◌}
use Rattle.std.specs.Prelude.{codes}
use Rattle.lot_text.specs.Steps.{step_text}
use Rattle.lot_text.proofs.SentLemmas.{puts_then}
use Rattle.lot_text.proofs.steps.print_drain_step.Goals as goal

pub returns : goal.returns
returns g c =
    let text = step_text c.args.names.now c.args.step in
    puts_then _ _ _ c.args.page.now c.put.new.self c.put-2.new.self (codes "drain ") (text ++ codes "\n")
    c.put.ensures
    (puts_then _ _ _ c.put.new.self c.print_step.new.page c.put-2.new.self text (codes "\n")
    c.print_step.ensures c.put-2.ensures)
