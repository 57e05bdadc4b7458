use Rattle.std.proofs.Common.{◌≡◌, All, length}
use Rattle.std.specs.Arc.{arc_value}
use Rattle.lock_api.specs.Conditions.{WaitedOrNot}
use Rattle.lock_monitor.proofs.monitor.conditions.Given as goal

abbrev pub invariant-loop : goal.invariant-loop
invariant-loop g l = record {
  thread : g.R.RawMutex.RawMutex.is_token_of (arc_value l.lot) l.token;
  keeps_rights : WaitedOrNot g.R.RawMutex.RawMutex.keeps_rights l.fn.token l.token;
  counted : length l.made.items ≡ l.counter;
  together : All (λ condition. g.R.RawCondvar.lot_of condition ≡ arc_value l.lot) l.made.items;
}
