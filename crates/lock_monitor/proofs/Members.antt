-- Tickets of a lot, and their tokens.
use Rattle.std.proofs.Common.{◌≡◌, ◌+◌, ◌<◌, ◌∙◌, ap, sym, subst, ℕ, List, [], ◌∷◌, ◌++◌, All, length, map}
use Rattle.std.proofs.Common.{take}
use Rattle.std.specs.List.{range_with_len}
use Rattle.std.proofs.lemmas.List.{length-append, length-map}
use Rattle.std.proofs.lemmas.List.Elements.{All-take}
use Rattle.std.proofs.lemmas.List.FromFn.{length-range_with_len}
use Rattle.core_names.specs.Names.{IsNameOf}
use Rattle.core_names.specs.declared.name.Name.{Name}
use Rattle.core_words.specs.Lots.{IsSeatOf}
use Rattle.parking_lot_core.specs.Team.{IsIn}
use Rattle.parking_lot_core.specs.Tokens.{IsNewTicketOf, IsTicketOf, IsTokenOf, number_of}
use Rattle.parking_lot_core.specs.declared.lot.ParkingLot.{ParkingLot}
use Rattle.parking_lot_core.specs.declared.tokens.Ticket.{Ticket}
use Rattle.parking_lot_core.specs.declared.tokens.Token.{Token}

-- there are as many as their numbers
number_of_tickets : (tickets : List Ticket) (seats : ℕ) → map number_of tickets ≡ range_with_len 0 seats
    → length tickets ≡ seats
number_of_tickets tickets seats numbered =
    sym (length-map tickets number_of) ∙ ap length numbered ∙ length-range_with_len 0 seats

-- one less is left where the last is taken
pub one_less : (tickets left : List Ticket) (last : Ticket) (seats : ℕ) → tickets ≡ left ++ last ∷ []
    → map number_of tickets ≡ range_with_len 0 seats → length left + 1 ≡ seats
one_less tickets left last seats taken numbered =
    sym (length-append left (last ∷ [])) ∙ ap length (sym taken) ∙ number_of_tickets tickets seats numbered

-- the others are of the lot still
pub others : (lot : ParkingLot) (tickets left : List Ticket) (n : ℕ) → left ≡ take n tickets
    → All (IsNewTicketOf lot) tickets → All (IsTicketOf lot) left
others lot tickets left n taken new = subst (All (IsTicketOf lot)) (sym taken)
    (All-take (IsTicketOf lot) n tickets (λ k d near. let one = new k d near in (one.0, one.1, one.3)))

-- a thread that goes into the lot by a ticket is one of the lot
pub enters : (lot : ParkingLot) (ticket : Ticket) (token : Token) → IsIn ticket token → IsTicketOf lot ticket
    → IsTokenOf lot token
enters lot ticket token same of = (
  subst (IsSeatOf lot.words) (sym same.0) of.0,
  subst (λ number. number < lot.records.count) (sym same.1) of.1,
  subst (λ (name : Name). IsNameOf lot.words token.number name) (sym same.2)
      (subst (λ (number : ℕ). IsNameOf lot.words number ticket.name) (sym same.1) of.2),
)
