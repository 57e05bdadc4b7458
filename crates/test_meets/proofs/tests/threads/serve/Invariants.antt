use Rattle.parking_lot_core.specs.Tokens.{IsTokenOf}
use Rattle.test_meets.proofs.tests.threads.serve.Given as goal

abbrev pub invariant-loop-round : goal.invariant-loop-round
invariant-loop-round g l = IsTokenOf l.lot l.token
