use Rattle.std.specs.Prelude.{All}
use Rattle.parking_lot_core.specs.Tokens.{IsNewTicketOf, IsTokenOf}
use Rattle.test_meets.proofs.tests.many.count_served.Given as goal

abbrev pub invariant-loop : goal.invariant-loop
invariant-loop g l = IsTokenOf l.lot l.server × All (IsNewTicketOf l.lot) l.tickets.items
