use Rattle.std.proofs.Common.{true, subst}
use Rattle.lock_monitor.specs.Conditions.{WaitsOftenInTime}
use Rattle.lock_monitor.proofs.monitor.Monitor.wait_while_until.Goals as goal

pub returns-clause-path : goal.returns-clause-path
returns-clause-path g c = (
  c.condition.result.now,
  c.condition.ensures.0,
  subst (λ mutex. WaitsOftenInTime (g.R.RawCondvar.waited c.condition.result.now mutex true) c.args.token.now
      c.wait_while_until_on.new.token) c.requires.mutex c.wait_while_until_on.ensures.path,
)
