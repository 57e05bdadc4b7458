use Rattle.parking_lot_core.specs.Tokens.{IsTokenOf}
use Rattle.test_rwlocks.proofs.tests.guards.is_waited_for.Given as goal

abbrev pub invariant-loop : goal.invariant-loop
invariant-loop g l = IsTokenOf l.lot l.token
