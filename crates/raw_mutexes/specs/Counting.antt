-- Mutexes that their owners lock again: their count words and their shares.
use Rattle.std.specs.Prelude.{◌≡◌, ℕ, ◌+◌, [], ◌∷◌, ◌++◌}
use Rattle.std.proofs.Props.{props}
use Rattle.core_base.specs.declared.ops.Op.TheVariants.{Load, Store}
use Rattle.run_base.specs.Paths.{step}
use Rattle.run_base.specs.Telling.{steps_of}
use Rattle.core_words.specs.Draws.{IsDrawn, IsDrawRefused}
use Rattle.core_words.specs.Indices.{word_index}
use Rattle.core_words.specs.Lots.{IsWordOf}
use Rattle.core_words.specs.declared.words.Word.{Word}
use Rattle.core_words.specs.declared.words.WordKind.TheVariants.{Mutex, Count}
use Rattle.parking_lot_core.specs.Tokens.{view_of}
use Rattle.parking_lot_core.specs.declared.lot.ParkingLot.{ParkingLot}
use Rattle.parking_lot_core.specs.declared.tokens.Token.{Token}
use Rattle.raw_mutexes.specs.declared.counting.RawShare.{RawShare}
use Rattle.core_names.specs.Names as names

-- the word on which a mutex of the lot is counted: that of the next number
abbrev pub IsCountOf : ParkingLot → Word → Word → Type 0
IsCountOf lot mutex count = IsWordOf lot.words count × (count.kind ≡ Count)
    × (count.number ≡ mutex.number + 1)

pub IsCountOf-prop : (lot : ParkingLot) (mutex count : Word) → IsProp (IsCountOf lot mutex count)
IsCountOf-prop lot mutex count = Prim.hlevel props

-- a share of the word on which a mutex is counted
abbrev pub IsShareOf : ParkingLot → Word → RawShare → Type 0
IsShareOf lot mutex share = names.IsShareOf lot.words (mutex.number + 1) share.share

pub IsShareOf-prop : (lot : ParkingLot) (mutex : Word) (share : RawShare)
    → IsProp (IsShareOf lot mutex share)
IsShareOf-prop lot mutex share = Prim.hlevel props

-- one more than the number of the thread that a share names
abbrev pub thread_of : RawShare → ℕ
thread_of share = names.thread_named share.share + 1

-- where the count word of a mutex of this number stands
abbrev pub count_at : ℕ → ℕ
count_at number = word_index (number + 1) Count

-- between two states of a thread it looked at the count of a mutex of this number, by one step, and saw this
abbrev pub SawCount : ℕ → ℕ → Token → Token → Type 0
SawCount number seen old new = steps_of new ≡ steps_of old ++ step (count_at number) Load seen

-- between them it stored a count, by one step: the one that was there, and the one that it left
abbrev pub StoredCount : ℕ → ℕ → ℕ → Token → Token → Type 0
StoredCount number found left old new =
    steps_of new ≡ steps_of old ++ step (count_at number) (Store left) found

-- between them it drew a mutex and its count
abbrev pub DrewPair : ParkingLot → Word → Token → Token → Type 0
DrewPair lot mutex old new = IsDrawn lot.words.count (Mutex ∷ Count ∷ []) mutex.number (view_of old)
    (view_of new)

-- between them it drew nothing, and its last step saw that the lot has fewer than two words left
abbrev pub FoundFew : ParkingLot → Token → Token → Type 0
FoundFew lot old new = IsDrawRefused lot.words.count 2 (view_of old) (view_of new)
