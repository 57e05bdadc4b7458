use Rattle.std.proofs.Common.{ℕ, ◌∙◌, None, ap, subst}
use Rattle.spec_locks.specs.declared.calls.MutexCall.TheVariants.{UnlockFair}
use Rattle.steps_mutex.specs.declared.hand_off.HandOffAt.TheVariants as hand_off
use Rattle.run_base.specs.Courses.{Courses, steps_in, trail_of}
use Rattle.run_base.specs.Words.{at_in}
use Rattle.run_base.proofs.Afterwards.{alone_at, path_after}
use Rattle.run_base.proofs.Courses.{steps_since}
use Rattle.run_mutexes.specs.LockCourses.{hands_at}
use Rattle.run_mutexes.proofs.calls.hand_over_to_first.Goals as goal

pub returns-clause-path : goal.returns-clause-path
returns-clause-path g c = λ before same saw untold. let n = c.args.word.number in
    let courses = subst (λ (k : ℕ). Courses (at_in c.alone-words.result) c.args.token.now.number
    (hands_at k hand_off.Enter) (trail_of c.args.token.now None) (trail_of c.hand_over_through.new.token None)
    c.hand_over_through.result) c.number-mutex.ensures c.hand_over_through.ensures.2 in
    path_after n UnlockFair 3 before c.args.token.now c.hand_over_through.new.token c.hand_over_through.result
    (subst (λ (at : ℕ → ℕ). Courses at c.args.token.now.number (hands_at c.args.word.number hand_off.Enter)
    (trail_of c.args.token.now None) (trail_of c.hand_over_through.new.token None) c.hand_over_through.result)
    (ap at_in c.alone-words.ensures ∙ alone_at c.args.word c.requires.own.2) courses) same saw untold

pub returns-clause-rest : goal.returns-clause-rest
returns-clause-rest g c = let courses = c.hand_over_through.ensures.2 in
    (steps_in courses.0, steps_since _ _ courses.0 courses.1)
