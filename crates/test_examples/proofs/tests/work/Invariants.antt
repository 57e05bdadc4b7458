use Rattle.parking_lot.specs.LotOf.{IsTokenOf, lot_of}
use Rattle.test_examples.proofs.tests.work.Given as goal

abbrev pub invariant-loop : goal.invariant-loop
invariant-loop g l = IsTokenOf (lot_of l.jobs) l.token
