use Rattle.std.proofs.Common.{suc, ◌∙◌, ap, inr, refl}
use Rattle.run_base.specs.OnceFitting.{knowing}
use Rattle.run_once_and_semaphores.proofs.once.Once.new_completed.Goals as goal

pub returns-then-complete-clause-stays : goal.returns-then-complete-clause-stays
returns-then-complete-clause-stays c = let n = c.in_ok-once.once.word.number in let drawn =
    c.new.ensures.token in
    let done = c.complete.ensures.done c.if-complete.true in
    (c.complete.ensures.token.1 ∙ drawn.1, (suc done.0, done.1 ∙ ap (knowing n (suc done.0)) drawn.2))

pub returns-else-complete-clause-made : goal.returns-else-complete-clause-made
returns-else-complete-clause-made c = let missed = c.complete.ensures.missed c.if-complete.false in
    inr (refl, inr (c.in_ok-once.once.word, c.new.new.token, c.in_ok-once.ensures.drawn, missed.0))
