use Rattle.std.proofs.Common.{None, ap, inl}
use Rattle.core_clocks.specs.Clocks.{TimeIsUp}
use Rattle.core_words.specs.declared.views.View.{View}
use Rattle.run_base.specs.Stages.{stage_of}
use Rattle.run_base.specs.Telling.{owns_of}
use Rattle.run_base.proofs.Courses.{courses_between}
use Rattle.run_locks.specs.CondvarCalls.{at_condvar, wait_begin}
use Rattle.raw_mutexes.proofs.CondvarAnswers.{tells, tells_late}
use Rattle.raw_mutexes.proofs.raw_condvar.RawCondvar.wait_with.Goals as goal

pub returns-clause-told : goal.returns-clause-told
returns-clause-told g c = tells (TimeIsUp g.C.Clock.tells c.args.limit) c.args.mutex.now.word.number c.args.timed
    (owns_of c.join.new.token) c.wait-answer.result (stage_of c.wait-answer.new.token None)
    c.wait-answer.ensures.over

pub returns-clause-late : goal.returns-clause-late
returns-clause-late g c = tells_late (TimeIsUp g.C.Clock.tells c.args.limit) c.args.mutex.now.word.number
    c.args.timed (owns_of c.join.new.token) c.wait-answer.result (stage_of c.wait-answer.new.token None)
    c.wait-answer.ensures.over

pub returns-clause-path : goal.returns-clause-path
returns-clause-path g c = let n = c.args.self.now.word.number in let m = c.args.mutex.now.word.number in
    inl (courses_between (at_condvar n m) (wait_begin n m c.args.timed) c.wait-answer.result
    c.args.token.now c.join.new.token c.wait-answer.new.token c.split.new.token c.join.ensures.own.0.1
    (ap (λ (v : View). v.steps) c.join.ensures.joined) c.join.ensures.untold
    (ap (λ (v : View). v.steps) c.split.ensures.left) c.split.ensures.untold c.wait-answer.ensures.path)
