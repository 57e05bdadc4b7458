-- Sizes of a lot, and a ticket beside its token.
use Rattle.std.specs.Prelude.{◌≡◌, ◌<◌, ◌≤◌, ℕ}
use Rattle.core_words.specs.Indices.{most_words}
use Rattle.parking_lot_core.specs.declared.tokens.Ticket.{Ticket}
use Rattle.parking_lot_core.specs.declared.tokens.Token.{Token}

-- a lot may have so many words and threads
abbrev pub AreSizes : ℕ → ℕ → Type 0
AreSizes words seats = (0 < words) × (words ≤ most_words) × (0 < seats) × (seats ≤ 1024)

-- the thread of this ticket is in the lot by this token
abbrev pub IsIn : Ticket → Token → Type 0
IsIn ticket token = (token.seat ≡ ticket.seat) × (token.number ≡ ticket.number)
    × (token.name ≡ ticket.name)
