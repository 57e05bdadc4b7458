-- The lot of a desk.
use Rattle.lotbench.specs.declared.condvars.Desk.{Desk}
use Rattle.parking_lot.specs.LotOf.{lot_of_condvar}
use Rattle.parking_lot_core.specs.declared.lot.ParkingLot.{ParkingLot}

abbrev pub desk_lot : Desk → ParkingLot
desk_lot desk = lot_of_condvar desk.filled
