use Rattle.std.proofs.Common.{◌≡◌, map, length, All}
use Rattle.core_names.specs.Names.{IsNamer}
use Rattle.std.specs.List.{range_with_len}
use Rattle.parking_lot_core.specs.Tokens.{IsNewTicket, number_of}
use Rattle.parking_lot_core.proofs.lot.ParkingLot.tickets.Given as goal

abbrev pub invariant-loop-number : goal.invariant-loop-number
invariant-loop-number l = record {
  first : IsNamer l.words l.number l.first;
  numbers : map number_of l.tickets.items ≡ range_with_len 0 l.number;
  woken : length l.unparkers.items ≡ l.number;
  new : All (IsNewTicket l.words l.seats) l.tickets.items;
}
