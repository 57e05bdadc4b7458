use Rattle.parking_lot.specs.LotOf.{IsTokenOf, lot_of}
use Rattle.test_condvars.proofs.tests.many.guard_after.Given as goal

abbrev pub invariant-loop : goal.invariant-loop
invariant-loop g l = IsTokenOf (lot_of l.room.mutex) l.token
