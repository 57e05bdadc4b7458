-- The places of threads in queues.
use Rattle.std.specs.Prelude.{ℕ, ◌≡◌}
use Rattle.parking_lot_core.specs.declared.lot.ParkingLot.{ParkingLot}
use Rattle.parking_lot_core.specs.declared.places.QueuePlace.{QueuePlace}

abbrev pub thread_of : QueuePlace → ℕ
thread_of place = place.thread

-- a place was made as this thread of the lot stood last under a key
abbrev pub IsPlaceOf : ParkingLot → ℕ → QueuePlace → Type 0
IsPlaceOf lot thread place = (place.lot.now ≡ lot) × (place.thread ≡ thread)
