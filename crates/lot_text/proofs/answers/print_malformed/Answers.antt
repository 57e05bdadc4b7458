use Rattle.std.proofs.Common.{◌++◌}
use Rattle.std.specs.Prelude.{codes, decimal}
use Rattle.lot_text.proofs.SentLemmas.{puts_then}
use Rattle.lot_text.proofs.answers.print_malformed.Goals as goal

pub returns : goal.returns
returns g c =
    puts_then _ _ _ c.args.page.now c.put.new.self c.put-2.new.self (codes "line ") (decimal c.args.number
    ++ codes " malformed\n") c.put.ensures
    (puts_then _ _ _ c.put.new.self c.put_number.new.self c.put-2.new.self (decimal c.args.number)
    (codes " malformed\n") c.put_number.ensures c.put-2.ensures)
