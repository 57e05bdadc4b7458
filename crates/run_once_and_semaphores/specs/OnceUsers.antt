-- The names that clauses of users cite.
use Rattle.std.specs.Prelude.{ℕ}
use Rattle.std.specs.Arc.{arc_value}
pub use Rattle.parking_lot_core.specs.Tokens.{IsTicketOf, IsTokenOf, view_of, last_of}
use Rattle.parking_lot_core.specs.declared.lot.ParkingLot.{ParkingLot}
use Rattle.run_once_and_semaphores.specs.declared.once.Once.{Once}

abbrev pub lot_of : Once → ParkingLot
lot_of once = arc_value once.lot

abbrev pub number_of : Once → ℕ
number_of once = once.word.number
