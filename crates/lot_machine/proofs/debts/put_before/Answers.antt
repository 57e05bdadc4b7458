use Rattle.std.proofs.Common.{arith, subst}
use Rattle.lot_machine.specs.declared.debts.Tag.{Tag}
use Rattle.lot_machine.specs.Debts.{TagCovers, place_of_thread}
use Rattle.lot_machine.proofs.DebtLemmas.{links_nowhere, links_on, links_past}
use Rattle.lot_machine.proofs.debts.put_before.Goals as goal

pub returns-in-Nowhere : goal.returns-in-Nowhere
returns-in-Nowhere c = links_nowhere c.args.links.now c.args.first.now c.args.places.now c.args.thread
    c.requires.there.0 c.requires.there.1 c.requires.linked
    (subst (λ (tag : Tag). TagCovers tag (place_of_thread c.args.places.now c.args.thread)) c.in-Nowhere.is
    c.tag_of.ensures)

pub returns-then-lock-lt-LOCKS : goal.returns-then-lock-lt-LOCKS
returns-then-lock-lt-LOCKS c = links_on c.args.links.now c.args.first.now c.args.places.now c.args.thread
    c.requires.there.0 c.requires.there.1 c.requires.linked c.in-On.lock c.if-lock-lt-LOCKS.true
    (subst (λ (tag : Tag). TagCovers tag (place_of_thread c.args.places.now c.args.thread)) c.in-On.is
    c.tag_of.ensures)

pub returns-else-lock-lt-LOCKS : goal.returns-else-lock-lt-LOCKS
returns-else-lock-lt-LOCKS c = links_past c.args.links.now c.args.first.now c.args.places.now c.args.thread
    c.requires.there.0 c.requires.there.1 c.requires.linked c.in-On.lock
    (omega (arith, c.if-lock-lt-LOCKS.false))
    (subst (λ (tag : Tag). TagCovers tag (place_of_thread c.args.places.now c.args.thread)) c.in-On.is
    c.tag_of.ensures)
