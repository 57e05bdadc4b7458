use Rattle.parking_lot.specs.LotOf.{IsTokenOf, lot_of}
use Rattle.test_condvars.proofs.tests.races.wait_each.Given as goal

abbrev pub invariant-loop-round : goal.invariant-loop-round
invariant-loop-round g l = IsTokenOf (lot_of l.meeting.mutex) l.token
