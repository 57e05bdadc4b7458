-- The names that clauses of users cite.
use Rattle.std.specs.Prelude.{ℕ, ◌≡◌, ◌≤◌, ◌<◌, ◌+◌, ◌*◌, ◌++◌, ◌^◌, ◌/◌, min}
use Rattle.std.specs.Arc.{arc_value}
pub use Rattle.parking_lot_core.specs.Tokens.{IsTicketOf, IsTokenOf, view_of, last_of}
use Rattle.core_base.specs.declared.ops.Op.TheVariants.{Add, Load}
use Rattle.core_words.specs.Codes.{shared}
use Rattle.core_words.specs.Views.{drew_permits, owned}
use Rattle.core_words.specs.declared.words.Word.{Word}
use Rattle.core_words.specs.declared.words.WordKind.TheVariants as kinds
use Rattle.parking_lot_core.specs.declared.lot.ParkingLot.{ParkingLot}
use Rattle.parking_lot_core.specs.declared.tokens.Token.{Token}
use Rattle.run_base.specs.Drawing.{Drew}
use Rattle.run_base.specs.Paths.{semaphore_at, step}
use Rattle.run_base.specs.Telling.{owns_of, steps_of}
use Rattle.run_once_and_semaphores.specs.declared.semaphore.Permit.{Permit}
use Rattle.run_once_and_semaphores.specs.declared.semaphore.Semaphore.{Semaphore}

abbrev pub lot_of : Semaphore → ParkingLot
lot_of semaphore = arc_value semaphore.lot

abbrev pub word_of : Semaphore → Word
word_of semaphore = semaphore.word

abbrev pub number_of : Semaphore → ℕ
number_of semaphore = semaphore.word.number

abbrev pub permits_of : Semaphore → ℕ
permits_of semaphore = semaphore.permits

-- the semaphore of which a permit is
abbrev pub semaphore_of : Permit → Semaphore
semaphore_of permit = permit.semaphore.now

-- a word was drawn with so many permits, and all of them were given to each thread that comes
abbrev pub HasMade : ℕ → Semaphore → Token → Token → Type 0
HasMade permits semaphore old new = (mid : Token) × (seen : ℕ)
    × Drew (kinds.Semaphore permits) (lot_of semaphore) (word_of semaphore) old mid
    × (steps_of new ≡ steps_of mid ++ step (semaphore_at (number_of semaphore)) (Add (2 * permits)) seen)

-- one load of the word saw so many permits free, or more than there are; with those that the thread holds
-- itself they are no more than all, which are known to the thread that drew the word
abbrev pub SawFree : ℕ → ℕ → ℕ → Token → Token → Type 0
SawFree n permits free old new = (seen : ℕ) × (all : ℕ)
    × (steps_of new ≡ steps_of old ++ step (semaphore_at n) Load seen)
    × (free ≡ min (seen / 2) permits)
    × (seen / 2 + owned (semaphore_at n) shared (owns_of old) ≤ all) × (all ≤ 2 ^ 62)
    × (0 < drew_permits n (view_of old) → all ≡ drew_permits n (view_of old))
