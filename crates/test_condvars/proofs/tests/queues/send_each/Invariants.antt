use Rattle.parking_lot.specs.LotOf.{IsTokenOf, lot_of}
use Rattle.test_condvars.proofs.tests.queues.send_each.Given as goal

abbrev pub invariant-loop-number : goal.invariant-loop-number
invariant-loop-number g l = IsTokenOf (lot_of l.pipe.line) l.token
