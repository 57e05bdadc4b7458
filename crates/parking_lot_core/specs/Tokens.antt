-- The threads that belong to a lot.
use Rattle.std.specs.Prelude.{◌≡◌, ◌<◌, ◌==◌, ℕ, List, [], Option, Some, None, if◌then◌else◌}
use Rattle.std.specs.Prelude.{length}
use Rattle.core_names.specs.Names.{IsNameOf}
use Rattle.core_words.specs.Views.{blank, shown}
use Rattle.core_words.specs.Lots.{IsSeatOf}
use Rattle.core_words.specs.declared.table.LotWords.{LotWords}
use Rattle.core_words.specs.declared.views.View.{View}
use Rattle.parking_lot_core.specs.declared.lot.ParkingLot.{ParkingLot}
use Rattle.parking_lot_core.specs.declared.step_counts.StepCount.{StepCount}
use Rattle.parking_lot_core.specs.declared.tellings.Telling.{Telling}
use Rattle.parking_lot_core.specs.declared.tokens.SectionRecord.{SectionRecord}
use Rattle.parking_lot_core.specs.declared.tokens.Ticket.{Ticket}
use Rattle.parking_lot_core.specs.declared.tokens.Token.{Token}

abbrev pub IsTicketOf : ParkingLot → Ticket → Type 0
IsTicketOf lot ticket = IsSeatOf lot.words ticket.seat × (ticket.number < lot.records.count)
    × IsNameOf lot.words ticket.number ticket.name

abbrev pub IsTokenOf : ParkingLot → Token → Type 0
IsTokenOf lot token = IsSeatOf lot.words token.seat × (token.number < lot.records.count)
    × IsNameOf lot.words token.number token.name

-- the steps that a thread has taken, and its ownership
unfoldable pub view_of : Token → View
view_of token = shown token.seat.me.0

-- the mutex, by its index, whose permit is out with the thread, if any: one that it owns itself.
-- Those of its guards are with these
abbrev pub out_of : Token → List ℕ
out_of token = token.seat.me.0.out

-- the record of the section that it left last, if it has taken no step since
abbrev pub last_of : Token → Option SectionRecord
last_of token = if token.expected.recorded then Some token.record else None

-- a number of steps
abbrev pub as_count : ℕ → StepCount
as_count number = record { number = number }

-- how many steps on words it has taken
abbrev pub count_of : Token → StepCount
count_of token = as_count (length (view_of token).steps)

-- what its sections and sleeps have told it
abbrev pub told_of : Token → List Telling
told_of token = token.told.list

-- two tokens are of one thread of one lot
abbrev pub IsSameThread : ParkingLot → Token → Token → Type 0
IsSameThread lot old new = IsTokenOf lot new × (new.number ≡ old.number)

abbrev pub number_of : Ticket → ℕ
number_of ticket = ticket.number

-- a seat of a thread below this number, which has done nothing yet
abbrev pub IsNewTicket : LotWords → ℕ → Ticket → Type 0
IsNewTicket words seats ticket =
    IsSeatOf words ticket.seat × (ticket.number < seats) × (ticket.seat.me ≡ (blank, []))
    × IsNameOf words ticket.number ticket.name

abbrev pub IsNewTicketOf : ParkingLot → Ticket → Type 0
IsNewTicketOf lot ticket = IsNewTicket lot.words lot.records.count ticket
