use Rattle.std.proofs.Common.{◌≡◌, ◌-◌, drop, length}
use Rattle.lot_machine.specs.Views.{debtors}
use Rattle.lot_machine.proofs.debts.find_debtor.Given as goal

-- none so far has the debt
abbrev pub invariant-loop-thread : goal.invariant-loop-thread
invariant-loop-thread l = debtors l.debt l.lock l.fn.from (drop l.fn.from l.places) ≡ debtors l.debt l.lock
    l.thread (drop l.thread l.places)

abbrev pub decreases-loop-thread : goal.decreases-loop-thread
decreases-loop-thread l = length l.places - l.thread
