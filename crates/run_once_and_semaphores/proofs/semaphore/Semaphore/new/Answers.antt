use Rattle.std.proofs.Common.{rules, ◌≡◌, refl}
use Rattle.std.specs.Arc.{arc_value}
use Rattle.core_words.specs.declared.words.WordKind.TheVariants as kinds
use Rattle.run_base.specs.Drawing.{Drew}
use Rattle.run_once_and_semaphores.proofs.semaphore.Semaphore.new.Goals as goal

pub returns-clause-made : goal.returns-clause-made
returns-clause-made c = let same : arc_value c.in-Ok.lot ≡ arc_value c.args.lot.now = search rules in
    let drew : Drew (kinds.Semaphore c.args.permits) (arc_value c.in-Ok.lot) c.in_ok-word.word
    c.args.token.now c.new_semaphore.new.token = search rules in
    (same, refl, (c.new_semaphore.new.token, c.give_all.ensures.added.0, drew, c.give_all.ensures.added.1))
