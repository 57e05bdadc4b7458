use Rattle.std.specs.Prelude.{codes}
use Rattle.lot_text.proofs.SentLemmas.{Left}
use Rattle.lot_replay.proofs.ShowLemmas.{debts_left}
use Rattle.lot_replay.proofs.show.print_debtors.Given as goal

abbrev pub invariant-loop-debt : goal.invariant-loop-debt
invariant-loop-debt g l =
    (goal.iterator-loop-debt g).can_next l.debt-iterator
    × (goal.iterator-loop-debt g).is_finite l.debt-iterator
    × Left (g.W.Write.contents l.fn.writer) (g.W.Write.contents l.writer) l.fn.page l.page
    (debts_left l.owe_mark l.retry_mark l.debt-iterator) (debts_left (codes " owe=") (codes " retry=")
    l.fn.debts)
