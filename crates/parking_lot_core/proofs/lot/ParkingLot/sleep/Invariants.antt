use Rattle.std.proofs.Common.{◌≡◌, ◌⊎◌, None}
use Rattle.parking_lot_core.proofs.lot.ParkingLot.sleep.Given as goal

abbrev pub invariant-loop : goal.invariant-loop
invariant-loop g l = (goal.iterator-loop g).can_next l.iterator' × (goal.iterator-loop g).is_finite
    l.iterator' × (l.token ≡ l.fn.token) × ((l.limit ≡ None) ⊎ (l.limit ≡ l.fn.limit))
