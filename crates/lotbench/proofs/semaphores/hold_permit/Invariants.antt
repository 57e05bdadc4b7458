use Rattle.parking_lot.specs.LotOf.{lot_of_semaphore}
use Rattle.parking_lot_core.specs.Tokens.{IsTokenOf}
use Rattle.lotbench.proofs.semaphores.hold_permit.Given as goal

abbrev pub invariant-loop : goal.invariant-loop
invariant-loop g l = IsTokenOf (lot_of_semaphore l.semaphore) l.token
