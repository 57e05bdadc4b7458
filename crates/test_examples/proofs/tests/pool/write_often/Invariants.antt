use Rattle.parking_lot.specs.LotOf.{IsTokenOf, lot_of}
use Rattle.test_examples.proofs.tests.pool.write_often.Given as goal

abbrev pub invariant-loop : goal.invariant-loop
invariant-loop g l = IsTokenOf (lot_of l.pool.free) l.token
