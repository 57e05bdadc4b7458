use Rattle.std.proofs.Common.{◌≡◌}
use Rattle.lot_picture.specs.Cells.{waits_among}
use Rattle.lot_picture.proofs.cells.waiting_deed.Given as goal

abbrev pub invariant-loop-waiter : goal.invariant-loop-waiter
invariant-loop-waiter g l =
    (goal.iterator-loop-waiter g).can_next l.waiter-iterator
    × (goal.iterator-loop-waiter g).is_finite l.waiter-iterator
    × (waits_among l.fn.queue l.thread l.lock ≡ waits_among l.waiter-iterator l.thread l.lock)
