use Rattle.parking_lot.specs.LotOf.{lot_of}
use Rattle.parking_lot_core.specs.Tokens.{IsSameThread}
use Rattle.lotbench.proofs.mutexes.guard_of.Given as goal

abbrev pub invariant-loop : goal.invariant-loop
invariant-loop g l = IsSameThread (lot_of l.mutex.0) l.fn.token l.token
