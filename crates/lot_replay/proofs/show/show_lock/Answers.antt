use Rattle.std.proofs.Common.{◌+◌, ◌*◌, ◌++◌}
use Rattle.std.specs.Prelude.{codes, decimal}
use Rattle.lot_machine.specs.declared.debts.Debt.TheVariants.{Owes, Retries}
use Rattle.lot_machine.specs.Machine.{word_at, queue_at}
use Rattle.lot_machine.specs.Views.{owners_of, debtors}
use Rattle.lot_replay.specs.Shows.{owners_text, waiters_text, debtors_text}
use Rattle.lot_text.proofs.SentLemmas.{puts_then}
use Rattle.lot_replay.proofs.ShowLemmas.{debtors_owe}
use Rattle.lot_replay.proofs.show.show_lock.Goals as goal

pub returns : goal.returns
returns g c =
    let w = c.args.world.now in
    let l = c.args.lock in
    let debts = debtors_text (debtors Owes l 0 w.places) (debtors Retries l 0 w.places) in
    let waiters = waiters_text (queue_at w (2 * l)) (queue_at w (2 * l + 1)) in
    let owners = owners_text (owners_of w l) in
    let word = decimal (word_at w l) in
    let end = codes "\n" in
    puts_then _ _ _ c.args.page.now c.put.new.self c.put-3.new.self c.args.name
    (codes " " ++ (word ++ (owners ++ (waiters ++ (debts ++ end))))) (rw c.text.ensures at c.put.ensures)
    (puts_then _ _ _ c.put.new.self c.put-2.new.self c.put-3.new.self (codes " ")
    (word ++ (owners ++ (waiters ++ (debts ++ end)))) c.put-2.ensures
    (puts_then _ _ _ c.put-2.new.self c.put_number.new.self c.put-3.new.self word
    (owners ++ (waiters ++ (debts ++ end))) (rw c.word.ensures at c.put_number.ensures)
    (puts_then _ _ _ c.put_number.new.self c.print_owners.new.page c.put-3.new.self owners (waiters
    ++ (debts ++ end)) (rw c.owners.ensures at c.print_owners.ensures)
    (puts_then _ _ _ c.print_owners.new.page c.print_waiters.new.page c.put-3.new.self waiters (debts ++ end)
    (c.print_waiters.ensures (queue_at w (2 * l)) (queue_at w (2 * l + 1)) c.queue.ensures.waiters
    c.queue.ensures.main c.queue.ensures.aside)
    (puts_then _ _ _ c.print_waiters.new.page c.print_debtors.new.page c.put-3.new.self debts end
    (c.print_debtors.ensures (debtors Owes l 0 w.places) (debtors Retries l 0 w.places)
    (rw c.requires.debts at c.on.ensures) (debtors_owe Owes l 0 w.places)
    (debtors_owe Retries l 0 w.places)) c.put-3.ensures)))))
