use Rattle.std.proofs.Common.{◌++◌}
use Rattle.std.specs.Prelude.{codes}
use Rattle.spec_locks.specs.Calls.{lock_in, mutex_in}
use Rattle.lot_text.specs.Steps.{beside_text, call_word, name_at}
use Rattle.lot_text.proofs.SentLemmas.{puts_then}
use Rattle.lot_text.proofs.steps.print_call.Goals as goal

pub returns : goal.returns
returns g c =
    let call = c.args.call in
    let names = c.args.names.now in
    let name = name_at names (lock_in call) in
    let beside = beside_text names (mutex_in call) in
    puts_then _ _ _ c.args.page.now c.put.new.self c.print_beside.new.page (call_word call) (codes " "
    ++ (name ++ beside)) (rw c.call_word.ensures at c.put.ensures)
    (puts_then _ _ _ c.put.new.self c.put-2.new.self c.print_beside.new.page (codes " ") (name ++ beside)
    c.put-2.ensures
    (puts_then _ _ _ c.put-2.new.self c.print_name.new.page c.print_beside.new.page name beside
    (rw c.lock.ensures at c.print_name.ensures) (rw c.mutex.ensures at c.print_beside.ensures)))
