use Rattle.parking_lot.specs.LotOf.{lot_of_rwlock}
use Rattle.parking_lot_core.specs.Tokens.{IsTokenOf}
use Rattle.test_rwlocks.proofs.tests.crowds.add_often.Given as goal

abbrev pub invariant-loop : goal.invariant-loop
invariant-loop g l = IsTokenOf (lot_of_rwlock l.lock) l.token
