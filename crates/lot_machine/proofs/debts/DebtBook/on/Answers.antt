use Rattle.std.proofs.Common.{◌≡◌, ◌++◌, List, drop, sym, subst}
use Rattle.lot_steps.specs.declared.places.Place.{Place}
use Rattle.lot_machine.specs.declared.debts.Debt.TheVariants.{Owes, Retries}
use Rattle.lot_machine.specs.Debts.{Skips}
use Rattle.lot_machine.specs.Views.{debtors}
use Rattle.lot_machine.proofs.DebtLemmas.{debts_from}
use Rattle.lot_machine.proofs.debts.DebtBook.on.Goals as goal

pub returns : goal.returns
returns c = let first = c.first_on-first.result in let places = c.self.inside.places.now in
    subst (λ (all : List Place). debtors Owes c.args.lock c.first_on-first.result
    (drop c.first_on-first.result c.self.inside.places.now) ++ debtors Retries c.args.lock
    c.first_on-first.result (drop c.first_on-first.result c.self.inside.places.now) ≡ debtors Owes
    c.args.lock 0 all ++ debtors Retries c.args.lock 0 all) c.self.view_is
    (debts_from places c.args.lock first
    (subst (λ (all : List Place). Skips all c.args.lock 0 c.first_on-first.result) (sym c.self.view_is)
    c.first_on-first.ensures))
