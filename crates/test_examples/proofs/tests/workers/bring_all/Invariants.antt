use Rattle.parking_lot.specs.LotOf.{IsTokenOf, lot_of}
use Rattle.test_examples.proofs.tests.workers.bring_all.Given as goal

abbrev pub invariant-loop-job : goal.invariant-loop-job
invariant-loop-job g l = IsTokenOf (lot_of l.desk.0) l.token
