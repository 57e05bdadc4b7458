use Rattle.std.specs.Arc.{arc_value}
use Rattle.lock_api.proofs.Stays.{stays_afterwards}
use Rattle.lock_monitor.proofs.Stays.{refused_at_last}
use Rattle.lock_monitor.proofs.monitor.Monitor.new.Goals as goal

pub returns-in-Ok-new-clause-token : goal.returns-in-Ok-new-clause-token
returns-in-Ok-new-clause-token g c = (
  c.in-Ok-new.ensures.token.0,
  stays_afterwards g.R.RawMutex.RawMutex.keeps_rights g.R.RawMutex.RawMutex.keeps_rights_on _ _
      _ c.in-Ok.ensures.token.1 c.in-Ok-new.ensures.token.1,
)

pub returns-in-Err-new-clause-token : goal.returns-in-Err-new-clause-token
returns-in-Err-new-clause-token g c = (
  c.in-Err-new.ensures.token.0,
  stays_afterwards g.R.RawMutex.RawMutex.keeps_rights g.R.RawMutex.RawMutex.keeps_rights_on _ _
      _ c.in-Ok.ensures.token.1 c.in-Err-new.ensures.token.1,
)

pub returns-in-Err-new-clause-made : goal.returns-in-Err-new-clause-made
returns-in-Err-new-clause-made g c = (
  c.in-Err-new.ensures.made.0,
  refused_at_last (g.R.RawMutex.RawMutex.found_full (arc_value c.args.lot.now)) _ _ _
      c.in-Err-new.ensures.made.1,
)
