use Rattle.std.proofs.Common.{ℕ, None, refl, subst, sym}
use Rattle.core_clocks.specs.Clocks.{TimeIsUp}
use Rattle.steps_condvar.specs.declared.wait.WaitAt.TheVariants as wait
use Rattle.run_base.specs.Courses.{Courses, trail_of}
use Rattle.run_base.specs.Telling.{owns_of}
use Rattle.run_base.specs.Turns.{HasEnded, IsAtPlace}
use Rattle.run_locks.specs.CondvarCalls.{wait_begin}
use Rattle.run_locks.specs.CondvarCourses.{wait_at}
use Rattle.run_locks.specs.declared.condvar_courses.Pair.{Pair}
use Rattle.run_locks.proofs.CondvarCalling.{at_both, both_of, words_beside}
use Rattle.run_locks.proofs.condvar_calls.wait.Goals as goal

pub wait_course-requires : goal.wait_course-requires
wait_course-requires g c = let own = c.requires.own in
    subst (λ (pair : Pair). IsAtPlace (TimeIsUp g.C.Clock.tells c.args.limit) c.args.lot.now pair.words
    (wait_at pair.condvar pair.mutex c.args.timed wait.Enter) c.args.token.now None)
    (sym c.pair_of.ensures) (
      own.0.0,
      both_of c.args.lot.now.words c.args.condvar c.args.mutex own.1 own.0.1,
      tt,
      ((own.3, own.0.3), words_beside c.args.condvar c.args.mutex own.4 own.2 own.0.2),
      (owns_of c.args.token.now, (c.requires.owned, (refl, refl))),
    )

pub returns-clause-own : goal.returns-clause-own
returns-clause-own g c = (subst (λ (pair : Pair). HasEnded (TimeIsUp g.C.Clock.tells c.args.limit) c.args.lot.now
    pair.words (wait_at pair.condvar pair.mutex c.args.timed wait.Enter) c.wait_course.result
    c.args.token.now None c.wait_course.new.token) c.pair_of.ensures c.wait_course.ensures).0

pub returns-clause-path : goal.returns-clause-path
returns-clause-path g c = let own = c.requires.own in
    let ended = (subst (λ (pair : Pair). HasEnded (TimeIsUp g.C.Clock.tells c.args.limit) c.args.lot.now
    pair.words (wait_at pair.condvar pair.mutex c.args.timed wait.Enter) c.wait_course.result
    c.args.token.now None c.wait_course.new.token) c.pair_of.ensures c.wait_course.ensures) in
    subst (λ (at : ℕ → ℕ). Courses at c.args.token.now.number (wait_begin c.args.condvar.number
    c.args.mutex.number c.args.timed) (trail_of c.args.token.now None)
    (trail_of c.wait_course.new.token None) c.wait_course.result) (at_both c.args.condvar c.args.mutex
    own.4 own.2 own.0.2) ended.2

pub returns-clause-over : goal.returns-clause-over
returns-clause-over g c = (subst (λ (pair : Pair). HasEnded (TimeIsUp g.C.Clock.tells c.args.limit) c.args.lot.now
    pair.words (wait_at pair.condvar pair.mutex c.args.timed wait.Enter) c.wait_course.result
    c.args.token.now None c.wait_course.new.token) c.pair_of.ensures c.wait_course.ensures).1
    (owns_of c.args.token.now) (c.requires.owned, (refl, refl))
