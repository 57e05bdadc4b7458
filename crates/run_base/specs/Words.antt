-- The words on which a call steps.
use Rattle.std.specs.Prelude.{ℕ, ◌==◌, Option, Some, None, if◌then◌else◌}
use Rattle.core_words.specs.Lots.{IsWordOf}
use Rattle.core_words.specs.Indices.{word_index}
use Rattle.core_words.specs.declared.words.Word.{Word}
use Rattle.core_words.specs.declared.words.WordKind.{WordKind}
use Rattle.parking_lot_core.specs.declared.lot.ParkingLot.{ParkingLot}
use Rattle.run_base.specs.declared.words.Words.{Words}

-- the words of a call that steps on one alone
abbrev pub single_word : Word → Words
single_word word = record { one = word; other = None }

-- The words of a call that steps on two.
abbrev pub word_pair : Word → Word → Words
word_pair word other = record { one = word; other = Some other }

abbrev pub other_or : Option Word → Word → ℕ → Word
other_or None one lock = one
other_or (Some other) one lock = if other.number == lock then other else one

-- the word of a lock
abbrev pub word_among : Words → ℕ → Word
word_among words lock = other_or words.other words.one lock

abbrev pub kind_in : Words → ℕ → WordKind
kind_in words lock = (word_among words lock).kind

-- where it stands
abbrev pub at_in : Words → ℕ → ℕ
at_in words lock = word_index (word_among words lock).number (kind_in words lock)

-- all of them are of the lot
abbrev pub AreWordsOf : ParkingLot → Words → Type 0
AreWordsOf lot words = (lock : ℕ) → IsWordOf lot.words (word_among words lock)
