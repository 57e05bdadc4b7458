use Rattle.std.proofs.Common.{ℕ, ◌∙◌, None, ap, sym, subst}
use Rattle.lot_steps.specs.declared.places.Place.TheVariants.{Semaphore}
use Rattle.run_base.specs.Fitting.{AreWordsFor}
use Rattle.run_base.specs.Words.{single_word, at_in, kind_in}
use Rattle.run_base.specs.declared.words.Words.{Words}
use Rattle.run_base.specs.Courses.{Courses, trail_of}
use Rattle.run_once_and_semaphores.proofs.SemaphoreCalling.{semaphore_alone, semaphore_at_alone}
use Rattle.run_once_and_semaphores.proofs.semaphore_calls.run_out.Goals as goal

pub run-requires-clause-words : goal.run-requires-clause-words
run-requires-clause-words g c = subst (λ (words : Words). AreWordsFor (Semaphore c.number.result c.args.start)
    (kind_in words) (at_in words)) (sym c.alone.ensures)
    (subst (λ (n : ℕ). AreWordsFor (Semaphore n c.args.start) (kind_in (single_word c.args.word))
    (at_in (single_word c.args.word))) (sym c.number.ensures)
    (semaphore_alone c.args.word c.args.start c.requires.own.2 c.requires.own.3))

pub returns-clause-path : goal.returns-clause-path
returns-clause-path g c =
    subst (λ (at : ℕ → ℕ). Courses at c.args.token.now.number (Semaphore c.args.word.number c.args.start)
    (trail_of c.args.token.now None) (trail_of c.run.new.token None) c.in-Ended.answer)
    (ap at_in c.alone.ensures ∙ semaphore_at_alone c.args.word c.requires.own.2)
    (subst (λ (n : ℕ). Courses (at_in c.alone.result) c.args.token.now.number (Semaphore n c.args.start)
    (trail_of c.args.token.now None) (trail_of c.run.new.token None) c.in-Ended.answer) c.number.ensures
    c.in-Ended.ensures.path)
