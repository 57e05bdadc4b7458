use Rattle.parking_lot.specs.LotOf.{IsTokenOf, lot_of}
use Rattle.test_condvars.proofs.tests.many.notify_in_turn.Given as goal

abbrev pub invariant-loop-turn : goal.invariant-loop-turn
invariant-loop-turn g l = IsTokenOf (lot_of l.room.mutex) l.token
