use Rattle.lock_monitor.specs.Calls.{CalledTimes}
use Rattle.parking_lot_core.specs.Tokens.{IsTokenOf}
use Rattle.lock_monitor.proofs.team.run_times.Given as goal

abbrev pub invariant-loop : goal.invariant-loop
invariant-loop g l = record {
  own : IsTokenOf l.lot l.token;
  called : CalledTimes g.F.Fn l.f l.counter l.initial.token l.token;
}
