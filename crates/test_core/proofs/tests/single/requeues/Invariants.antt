use Rattle.parking_lot_core.specs.Tokens.{IsTokenOf}
use Rattle.test_core.proofs.tests.single.requeues.Given as goal

abbrev pub invariant-loop-op : goal.invariant-loop-op
invariant-loop-op g l = IsTokenOf l.lot l.token
