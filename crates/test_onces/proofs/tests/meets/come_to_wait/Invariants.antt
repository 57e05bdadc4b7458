use Rattle.parking_lot_core.specs.Tokens.{IsTokenOf}
use Rattle.test_onces.proofs.tests.meets.come_to_wait.Given as goal

abbrev pub invariant-loop : goal.invariant-loop
invariant-loop g l = IsTokenOf l.lot l.token
