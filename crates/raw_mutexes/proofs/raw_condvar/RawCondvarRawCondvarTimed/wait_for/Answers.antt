use Rattle.std.proofs.Common.{sym, subst}
use Rattle.std.specs.Duration.{as_nanos}
use Rattle.core_clocks.specs.Clocks.{HasElapsed}
use Rattle.lock_raw.specs.Answers.{LateByClock}
use Rattle.raw_mutexes.proofs.CondvarAnswers.{ends_late}
use Rattle.raw_mutexes.proofs.raw_condvar.RawCondvarRawCondvarTimed.wait_for.Goals as goal

pub returns-clause-late : goal.returns-clause-late
returns-clause-late g c =
    let passed = HasElapsed (g.C.Clock.tells c.args.clock.now) (as_nanos c.args.timeout) in
    subst (λ result. LateByClock result passed) (sym c.ended.ensures)
    (ends_late c.wait_with-answer.result.1 passed c.wait_with-answer.result.0 c.wait_with-answer.ensures.told
    (λ late. c.limit_in-limit.ensures (c.wait_with-answer.ensures.late late)))
