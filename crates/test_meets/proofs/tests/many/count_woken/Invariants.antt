use Rattle.std.specs.Prelude.{All}
use Rattle.parking_lot_core.specs.Tokens.{IsNewTicketOf}
use Rattle.test_meets.specs.Standing.{IsInLot}
use Rattle.test_meets.proofs.tests.many.count_woken.Given as goal

abbrev pub invariant-loop : goal.invariant-loop
invariant-loop g l = All (IsNewTicketOf l.lot) l.tickets.items × All (IsInLot l.lot) l.places.items
