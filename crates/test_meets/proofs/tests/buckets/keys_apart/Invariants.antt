use Rattle.parking_lot_core.specs.Tokens.{IsSameThread}
use Rattle.test_meets.proofs.tests.buckets.keys_apart.Given as goal

abbrev pub invariant-loop : goal.invariant-loop
invariant-loop g l = IsSameThread l.lot l.fn.token l.token
