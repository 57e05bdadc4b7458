use Rattle.std.proofs.Common.{◌∙◌, sym}
use Rattle.lot_machine.proofs.DebtLemmas.{debtor_past, debtor_there}
use Rattle.lot_machine.proofs.debts.find_debtor.Goals as goal

pub returns-then-has_debt : goal.returns-then-has_debt
returns-then-has_debt c = c.loop-thread.invariant ∙ debtor_there c.args.places.now c.args.debt c.args.lock
    c.loop-thread.thread c.next_on-next.result c.loop-thread-test.true
    (sym c.has_debt.ensures ∙ c.if-has_debt.true) c.next_on-next.ensures.later.0 c.next_on-next.ensures.skips

pub loop-thread-preserved : goal.loop-thread-preserved
loop-thread-preserved c = c.loop-thread.invariant ∙ debtor_past c.args.places.now c.args.debt c.args.lock
    c.loop-thread.thread c.next_on-next.result c.loop-thread-test.true
    (sym c.has_debt.ensures ∙ c.if-has_debt.false) c.next_on-next.ensures.later.0 c.next_on-next.ensures.skips
