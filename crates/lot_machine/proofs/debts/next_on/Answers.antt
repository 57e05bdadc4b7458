use Rattle.std.proofs.Common.{◌≡◌, ◌∙◌, Some, ap, rules}
use Rattle.lot_machine.proofs.debts.next_on.Goals as goal

pub returns-then-from-lock-clause-skips : goal.returns-then-from-lock-clause-skips
returns-then-from-lock-clause-skips c =
    let same : c.in-Some.own ≡ c.args.lock = search rules in
    (c.requires.linked c.args.thread c.args.lock c.requires.there (c.in-Some.is ∙ ap Some same)).2
