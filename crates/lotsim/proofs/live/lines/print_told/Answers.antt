use Rattle.std.proofs.Common.{◌++◌}
use Rattle.std.specs.Prelude.{codes, decimal}
use Rattle.lot_text.proofs.SentLemmas.{puts_then}
use Rattle.lotsim.specs.Lines.{met_line}
use Rattle.lotsim.proofs.live.lines.print_told.Goals as goal

pub returns : goal.returns
returns g c =
    puts_then _ _ _ c.args.page.now c.print_met.new.page c.put-3.new.self (met_line c.args.told.met)
    (codes "read " ++ (decimal c.args.told.read
    ++ (codes "\ncount " ++ (decimal c.args.told.count ++ codes "\n")))) c.print_met.ensures
    (puts_then _ _ _ c.print_met.new.page c.put.new.self c.put-3.new.self (codes "read ")
    (decimal c.args.told.read ++ (codes "\ncount " ++ (decimal c.args.told.count ++ codes "\n")))
    c.put.ensures
    (puts_then _ _ _ c.put.new.self c.put_number.new.self c.put-3.new.self (decimal c.args.told.read)
    (codes "\ncount " ++ (decimal c.args.told.count ++ codes "\n")) c.put_number.ensures
    (puts_then _ _ _ c.put_number.new.self c.put-2.new.self c.put-3.new.self (codes "\ncount ")
    (decimal c.args.told.count ++ codes "\n") c.put-2.ensures
    (puts_then _ _ _ c.put-2.new.self c.put_number-2.new.self c.put-3.new.self (decimal c.args.told.count)
    (codes "\n") c.put_number-2.ensures c.put-3.ensures))))
