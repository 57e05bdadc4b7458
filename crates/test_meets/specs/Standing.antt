-- The places of threads that stand in line.
use Rattle.std.specs.Prelude.{◌≡◌}
use Rattle.parking_lot_core.specs.declared.lot.ParkingLot.{ParkingLot}
use Rattle.parking_lot_core.specs.declared.places.QueuePlace.{QueuePlace}

-- a place is one of the lot
abbrev pub IsInLot : ParkingLot → QueuePlace → Type 0
IsInLot lot place = place.lot.now ≡ lot
