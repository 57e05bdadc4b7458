use Rattle.std.proofs.Common.{ℕ, ◌≤◌, All, ◌∙◌, ap, subst, sym}
use Rattle.core_queues.specs.Chains.{IsLeast}
use Rattle.parking_lot_core.specs.Tokens.{IsNewTicket, IsNewTicketOf}
use Rattle.parking_lot_core.specs.declared.lot.ParkingLot.{ParkingLot}
use Rattle.parking_lot_core.proofs.lot.ParkingLot.build.Goals as goal

pub invariant_of-lot : goal.invariant_of-lot
invariant_of-lot c = let seats = sym c.in_ok-records.ensures.1 in record {
  hashed = (c.requires.hashed.0, c.requires.hashed.1);
  enough = subst (λ (n : ℕ). IsLeast n c.args.bits) seats c.requires.hashed.2;
  keyed = c.in_ok-records.ensures.0;
  few = subst (λ (n : ℕ). n ≤ 1024) seats c.requires.sizes.2;
  for_each_seat = c.in_ok-no_links.ensures ∙ seats;
}

pub returns-clause-lot : goal.returns-clause-lot
returns-clause-lot c = let lot = c.in_ok-new.ensures.ok in (
  ap (λ (l : ParkingLot). l.words.count) lot ∙ c.in_ok-words.ensures.0,
  ap (λ (l : ParkingLot). l.records.count) lot ∙ c.in_ok-records.ensures.1,
)

pub returns-clause-tickets : goal.returns-clause-tickets
returns-clause-tickets c = let tickets = c.in_ok-tickets.ensures.tickets in let items =
    c.in_ok-tickets.tickets.items in (
      tickets.0,
      subst (λ (l : ParkingLot). All (IsNewTicketOf l) items) (sym c.in_ok-new.ensures.ok)
          (subst (λ (seats : ℕ). All (IsNewTicket c.in_ok-words.words seats) items)
          (sym c.in_ok-records.ensures.1) tickets.1),
    )
