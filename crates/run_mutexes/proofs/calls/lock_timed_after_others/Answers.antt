use Rattle.std.proofs.Common.{ℕ, ◌∙◌, None, ap, refl, subst}
use Rattle.spec_locks.specs.declared.calls.MutexCall.TheVariants.{LockTimed}
use Rattle.steps_mutex.specs.declared.lock.Entry.TheVariants as entry
use Rattle.steps_mutex.specs.declared.lock.LockAt.TheVariants as lock
use Rattle.core_clocks.specs.Clocks.{TimeIsUp}
use Rattle.run_base.specs.MutexFitting.{IsMutexOver, to_enter}
use Rattle.run_base.specs.Stages.{stage_of}
use Rattle.run_base.specs.Telling.{owns_of}
use Rattle.run_base.specs.Courses.{Courses, steps_in, trail_of}
use Rattle.run_base.specs.Words.{at_in}
use Rattle.run_base.proofs.Afterwards.{alone_at, path_after}
use Rattle.run_base.proofs.Courses.{steps_since}
use Rattle.run_mutexes.specs.LockCourses.{locks_at}
use Rattle.run_mutexes.proofs.calls.lock_timed_after_others.Goals as goal

pub returns-clause-path : goal.returns-clause-path
returns-clause-path g c = λ before same saw untold. let n = c.args.word.number in
    let courses = subst (λ (k : ℕ). Courses (at_in c.alone-words.result) c.args.token.now.number
    (locks_at k entry.LockTimed lock.Load) (trail_of c.args.token.now None)
    (trail_of c.lock_course.new.token None)
    c.lock_course.result) c.number-mutex.ensures c.lock_course.ensures.2 in
    path_after n LockTimed 3 before c.args.token.now c.lock_course.new.token c.lock_course.result
    (subst (λ (at : ℕ → ℕ). Courses at c.args.token.now.number (locks_at c.args.word.number entry.LockTimed
    lock.Load)
    (trail_of c.args.token.now None) (trail_of c.lock_course.new.token None) c.lock_course.result)
    (ap at_in c.alone-words.ensures ∙ alone_at c.args.word c.requires.own.2) courses) same saw untold

pub returns-clause-over : goal.returns-clause-over
returns-clause-over g c =
    subst (λ (k : ℕ). IsMutexOver (TimeIsUp g.C.Clock.tells c.args.limit) k (owns_of c.args.token.now)
    (to_enter entry.LockTimed) c.lock_course.result (stage_of c.lock_course.new.token None))
    c.number-mutex.ensures (c.lock_course.ensures.1 (owns_of c.args.token.now) (refl, refl))

pub returns-clause-rest : goal.returns-clause-rest
returns-clause-rest g c = let courses = c.lock_course.ensures.2 in
    (steps_in courses.0, steps_since _ _ courses.0 courses.1)
