use Rattle.std.specs.Prelude.{All}
use Rattle.parking_lot_core.specs.Tokens.{IsTicketOf}
use Rattle.test_rwlocks.proofs.tests.keep.Given as goal

abbrev pub invariant-loop : goal.invariant-loop
invariant-loop l = All (IsTicketOf l.lot) l.tickets.items
