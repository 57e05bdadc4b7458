use Rattle.parking_lot_core.specs.Tokens.{IsTokenOf}
use Rattle.test_mutexes.proofs.tests.fair.is_waited_for.Given as goal

abbrev pub invariant-loop : goal.invariant-loop
invariant-loop g l = IsTokenOf l.lot l.token
