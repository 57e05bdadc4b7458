use Rattle.std.proofs.Common.{◌≡◌}
use Rattle.parking_lot.specs.LotOf.{IsTokenOf, lock_of, lot_of}
use Rattle.test_condvars.proofs.tests.two.bump_until_notified.Given as goal

abbrev pub invariant-loop : goal.invariant-loop
invariant-loop g l = IsTokenOf (lot_of l.room.mutex) l.token × (lock_of l.guard ≡ l.room.mutex)
