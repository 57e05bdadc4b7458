use Rattle.std.proofs.Common.{◌≡◌, ◌+◌}
use Rattle.parking_lot.specs.LotOf.{lot_of, thread_of}
use Rattle.parking_lot_core.specs.Tokens.{IsTokenOf}
use Rattle.test_mapped.proofs.tests.reentrant.nested.Given as goal

abbrev pub invariant-loop : goal.invariant-loop
invariant-loop g l = IsTokenOf (lot_of l.mutex.0) l.token × (thread_of l.outer.share ≡ l.token.number + 1)
