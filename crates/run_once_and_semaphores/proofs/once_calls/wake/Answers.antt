use Rattle.std.proofs.Common.{ℕ, ◌∙◌, None, ap, subst}
use Rattle.lot_steps.specs.declared.places.Place.TheVariants.{Once}
use Rattle.steps_once.specs.declared.places.OncePlace.TheVariants.{Run}
use Rattle.steps_once.specs.declared.run.RunAt.TheVariants.{Enter}
use Rattle.run_base.specs.Courses.{Courses, trail_of}
use Rattle.run_base.specs.Words.{at_in}
use Rattle.run_once_and_semaphores.proofs.OnceCalling.{once_alone}
use Rattle.run_once_and_semaphores.proofs.once_calls.wake.Goals as goal

pub returns-clause-path : goal.returns-clause-path
returns-clause-path g c =
    subst (λ (at : ℕ → ℕ). Courses at c.args.token.now.number
    (Once c.args.word.number (Run c.args.forced (Enter c.args.succeeded)))
    (trail_of c.args.token.now None) (trail_of c.run.new.token None) c.in-Ended.answer)
    (ap at_in c.alone.ensures ∙ once_alone c.args.word c.requires.own.2)
    (subst (λ (n : ℕ). Courses (at_in c.alone.result) c.args.token.now.number
    (Once n (Run c.args.forced (Enter c.args.succeeded))) (trail_of c.args.token.now None)
    (trail_of c.run.new.token None) c.in-Ended.answer) c.number.ensures c.in-Ended.ensures.path)
