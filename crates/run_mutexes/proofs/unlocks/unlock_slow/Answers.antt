use Rattle.std.proofs.Common.{ℕ, ◌∙◌, None, ap, subst}
use Rattle.spec_locks.specs.declared.calls.MutexCall.TheVariants.{Unlock}
use Rattle.spec_locks.specs.declared.outcomes.Answer.TheVariants.{Ok}
use Rattle.run_base.specs.Courses.{Courses, steps_in, trail_of}
use Rattle.run_base.specs.Words.{at_in}
use Rattle.run_base.proofs.Afterwards.{alone_at, path_after}
use Rattle.run_base.proofs.Courses.{steps_since}
use Rattle.steps_mutex.specs.declared.unlock.UnlockAt.TheVariants as unlock
use Rattle.run_base.specs.MutexCourses.{unlocks_at}
use Rattle.run_mutexes.proofs.unlocks.unlock_slow.Goals as goal

pub returns-clause-path : goal.returns-clause-path
returns-clause-path g c = λ before same saw untold. let n = c.args.word.number in
    let courses = subst (λ (k : ℕ). Courses (at_in c.alone.result) c.args.token.now.number
    (unlocks_at k unlock.Enter) (trail_of c.args.token.now None) (trail_of c.unlock_through.new.token
    None) Ok) c.number.ensures c.unlock_through.ensures.2 in
    path_after n Unlock 3 before c.args.token.now c.unlock_through.new.token Ok
    (subst (λ (at : ℕ → ℕ). Courses at c.args.token.now.number (unlocks_at n unlock.Enter)
    (trail_of c.args.token.now None) (trail_of c.unlock_through.new.token None) Ok)
    (ap at_in c.alone.ensures ∙ alone_at c.args.word c.requires.own.2) courses) same saw untold

pub returns-clause-rest : goal.returns-clause-rest
returns-clause-rest g c = let courses = c.unlock_through.ensures.2 in
    (steps_in courses.0, steps_since _ _ courses.0 courses.1)
