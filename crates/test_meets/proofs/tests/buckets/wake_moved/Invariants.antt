use Rattle.parking_lot_core.specs.Tokens.{IsTokenOf}
use Rattle.test_meets.proofs.tests.buckets.wake_moved.Given as goal

abbrev pub invariant-loop : goal.invariant-loop
invariant-loop g l = (goal.iterator-loop g).can_next l.iterator' × (goal.iterator-loop g).is_finite
    l.iterator' × IsTokenOf l.lot l.token

abbrev pub invariant-loop-back : goal.invariant-loop-back
invariant-loop-back g l = IsTokenOf l.lot l.token
