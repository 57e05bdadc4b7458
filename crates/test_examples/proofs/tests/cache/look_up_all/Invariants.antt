use Rattle.parking_lot.specs.LotOf.{IsTokenOf, lot_of_rwlock}
use Rattle.test_examples.proofs.tests.cache.look_up_all.Given as goal

abbrev pub invariant-loop-net : goal.invariant-loop-net
invariant-loop-net g l = IsTokenOf (lot_of_rwlock l.cache) l.token
