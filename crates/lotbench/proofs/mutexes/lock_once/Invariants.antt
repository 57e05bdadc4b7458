use Rattle.parking_lot.specs.LotOf.{lot_of}
use Rattle.parking_lot_core.specs.Tokens.{IsTokenOf}
use Rattle.lotbench.proofs.mutexes.lock_once.Given as goal

abbrev pub invariant-loop : goal.invariant-loop
invariant-loop g l = IsTokenOf (lot_of l.mutex.0) l.token
