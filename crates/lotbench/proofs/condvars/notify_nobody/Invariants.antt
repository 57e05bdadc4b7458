use Rattle.parking_lot.specs.LotOf.{lot_of_condvar}
use Rattle.parking_lot_core.specs.Tokens.{IsTokenOf}
use Rattle.lotbench.proofs.condvars.notify_nobody.Given as goal

abbrev pub invariant-loop : goal.invariant-loop
invariant-loop g l = IsTokenOf (lot_of_condvar l.condvar) l.token
