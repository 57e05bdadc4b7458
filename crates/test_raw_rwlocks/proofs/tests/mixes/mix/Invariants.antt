use Rattle.test_any_rwlock.specs.AnyLocks.{lot_of}
use Rattle.parking_lot_core.specs.Tokens.{IsTokenOf}
use Rattle.test_raw_rwlocks.proofs.tests.mixes.mix.Given as goal

abbrev pub invariant-loop-round : goal.invariant-loop-round
invariant-loop-round g l = IsTokenOf (lot_of l.lock) l.token
