use Rattle.std.specs.Prelude.{decimal}
use Rattle.lot_text.specs.Steps.{turn_text}
use Rattle.lot_text.proofs.SentLemmas.{puts_then}
use Rattle.lot_text.proofs.steps.print_step.Goals as goal

pub returns : goal.returns
returns g c =
    puts_then _ _ _ c.args.page.now c.put_number.new.self c.print_turn_text.new.page
    (decimal c.args.step.thread) (turn_text c.args.names.now c.args.step.turn) c.put_number.ensures
    c.print_turn_text.ensures
