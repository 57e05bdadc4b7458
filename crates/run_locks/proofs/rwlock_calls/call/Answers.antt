use Rattle.std.proofs.Common.{rules, ◌≡◌, subst, MatchResult, Err}
use Rattle.std.specs.declared.result.Result.{Result}
use Rattle.core_clocks.specs.Clocks.{TimeIsUp}
use Rattle.spec_locks.specs.declared.outcomes.Answer.{Answer}
use Rattle.run_locks.specs.Halves.{HasBegunRwLock, HasEndedRwLock}
use Rattle.run_locks.specs.declared.rwlock_calls.SlowPart.{SlowPart}
use Rattle.run_locks.specs.declared.rwlock_calls.SlowPart.TheVariants.{GoesOn, Missed, NotBegun}
use Rattle.run_locks.proofs.rwlock_calls.call.Goals as goal

pub call_slow-requires-clause-begun : goal.call_slow-requires-clause-begun
call_slow-requires-clause-begun g c = let is : c.call_fast.result ≡ Err (GoesOn c.in-Err-GoesOn.seen) =
    search rules in (
      c.args.token.now,
      c.requires.right.0,
      c.requires.right.1,
      subst (λ (r : Result Answer SlowPart). MatchResult r
          (λ answer. HasEndedRwLock (TimeIsUp g.C.Clock.tells c.args.limit.now) c.args.word.now
          c.args.settings.now.admission c.args.purpose answer c.args.token.now c.call_fast.new.token)
          (λ rest. HasBegunRwLock c.args.word.now c.args.settings.now.admission c.args.purpose rest
          c.args.token.now c.call_fast.new.token)) is c.call_fast.ensures.over,
    )

pub missed-requires-clause-begun : goal.missed-requires-clause-begun
missed-requires-clause-begun g c = let is : c.call_fast.result
    ≡ Err (Missed c.in-Err-Missed.seen c.in-Err-Missed.found) = search rules in (
      c.args.token.now,
      c.requires.right.0,
      c.requires.right.1,
      subst (λ (r : Result Answer SlowPart). MatchResult r
          (λ answer. HasEndedRwLock (TimeIsUp g.C.Clock.tells c.args.limit.now) c.args.word.now
          c.args.settings.now.admission c.args.purpose answer c.args.token.now c.call_fast.new.token)
          (λ rest. HasBegunRwLock c.args.word.now c.args.settings.now.admission c.args.purpose rest
          c.args.token.now c.call_fast.new.token)) is c.call_fast.ensures.over,
    )

pub call_in_turn-requires-clause-begun : goal.call_in_turn-requires-clause-begun
call_in_turn-requires-clause-begun g c = let is : c.call_fast.result ≡ Err NotBegun =
    search rules in (
      c.args.token.now,
      c.requires.right.0,
      c.requires.right.1,
      subst (λ (r : Result Answer SlowPart). MatchResult r
          (λ answer. HasEndedRwLock (TimeIsUp g.C.Clock.tells c.args.limit.now) c.args.word.now
          c.args.settings.now.admission c.args.purpose answer c.args.token.now c.call_fast.new.token)
          (λ rest. HasBegunRwLock c.args.word.now c.args.settings.now.admission c.args.purpose rest
          c.args.token.now c.call_fast.new.token)) is c.call_fast.ensures.over,
    )
