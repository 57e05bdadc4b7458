use Rattle.std.proofs.Common.{subst}
use Rattle.std.specs.Fn.{FnOnceReturnsAtMut}
use Rattle.spec_locks.specs.declared.calls.MutexCall.TheVariants.{Unlock}
use Rattle.spec_locks.specs.declared.outcomes.Answer.TheVariants as answers
use Rattle.lock_monitor.proofs.Stays.{stays_after}
use Rattle.lock_monitor.proofs.monitor.Monitor.with_while.Goals as goal

pub returns-clause-token : goal.returns-clause-token
returns-clause-token g c = (
  subst (λ mutex. g.R.RawMutex.RawMutex.is_token_of (g.R.RawMutex.RawMutex.lot_of mutex) c.unlock.new.token)
      c.wait_while-guard.ensures.guard c.unlock.ensures.token.0,
  g.R.RawMutex.RawMutex.keeps_rights_on _ _ _ c.lock-guard.ensures.token.1
      (stays_after g.R.RawMutex.RawMutex.keeps_rights
      g.R.RawMutex.RawMutex.keeps_rights_on _ _ _ c.wait_while-guard.ensures.token.1
      c.unlock.ensures.token.1),
)

pub returns-clause-ran : goal.returns-clause-ran
returns-clause-ran g c = (
  _,
  _,
  c.wait_while-guard.ensures.ended,
  subst (λ found. FnOnceReturnsAtMut g.F.FnOnce c.args.f found c.run_on-answer.result
      c.run_on-answer.new.value) c.deref_mut.ensures.shows c.run_on-answer.ensures,
)

pub returns-clause-path : goal.returns-clause-path
returns-clause-path g c = (
  _,
  _,
  c.lock-guard.ensures.path,
  c.wait_while-guard.ensures.path,
  subst (λ mutex. g.R.RawMutex.RawMutex.took_steps mutex Unlock answers.Ok c.wait_while-guard.new.token
      c.unlock.new.token × g.R.RawMutex.RawMutex.released mutex Unlock c.wait_while-guard.new.token
      c.unlock.new.token)
      c.wait_while-guard.ensures.guard (c.unlock.ensures.path, c.unlock.ensures.record),
)
