use Rattle.std.proofs.Common.{◌*◌}
use Rattle.std.specs.Prelude.{codes}
use Rattle.lot_text.proofs.SentLemmas.{Left}
use Rattle.lot_replay.proofs.ShowLemmas.{waiters_left}
use Rattle.lot_replay.proofs.show.print_waiters.Given as goal

abbrev pub invariant-loop-waiter : goal.invariant-loop-waiter
invariant-loop-waiter g l =
    (goal.iterator-loop-waiter g).can_next l.waiter-iterator
    × (goal.iterator-loop-waiter g).is_finite l.waiter-iterator
    × Left (g.W.Write.contents l.fn.writer) (g.W.Write.contents l.writer) l.fn.page l.page
    (waiters_left (2 * l.lock) l.main_mark l.aside_mark l.waiter-iterator)
    (waiters_left (2 * l.lock) (codes " queue=") (codes " aside=") l.fn.queue)
