-- Count words of mutexes that their owners may lock again: 0, or a thread with how often it has
-- locked the mutex.
use Rattle.std.specs.Prelude.{◌≡◌, ◌≢◌, ℕ, ◌+◌, ◌-◌, ◌*◌, ◌/◌, ◌%◌, ◌<◌, ◌==◌, cond, Result, Ok, Err}
use Rattle.core_base.specs.declared.faults.Fault.{Fault}
use Rattle.core_base.specs.declared.faults.Fault.TheVariants.{LockCountFull}

-- the count word of a mutex that the thread of this number locks once more
abbrev pub advanced : ℕ → ℕ → Result ℕ Fault
advanced word number = cond (word == 0) (Ok ((number + 1) * 4294967296 + 1))
    (cond (word % 4294967296 == 4294967295) (Err LockCountFull) (Ok (word + 1)))

-- a count names the thread of this number
abbrev pub Names : ℕ → ℕ → Type 0
Names number word = word / 4294967296 ≡ number + 1

-- How often the thread that a count names has locked the mutex.
abbrev pub times_in : ℕ → ℕ
times_in word = word % 4294967296

-- the word of a thread that has locked it once
abbrev pub first_count : ℕ → ℕ
first_count number = (number + 1) * 4294967296 + 1

-- How counts are looked at, and how they are stored, by what was found and what was left: of a
-- thread, between two states.
abbrev pub CountRelation : Type 0 → Type 1
CountRelation Token = ℕ → Token → Token → Type 0

abbrev pub Stores : Type 0 → Type 1
Stores Token = ℕ → ℕ → Token → Token → Type 0

-- the thread of this number saw another named, or none
abbrev pub SawOthers : {Token : Type 0} → CountRelation Token → ℕ → Token → Token → Type 0
SawOthers saw number old new = (word : ℕ) × saw word old new × (Names number word → ⊥)

-- a thread saw itself named, with a count below the greatest, and counted once more
abbrev pub CountedAgain : {Token : Type 0} → CountRelation Token → Stores Token → ℕ → Token → Token
    → Type 0
CountedAgain {Token} saw stored number old new = (word : ℕ) × (looked : Token)
    × saw word old looked × Names number word × (times_in word < 4294967295)
    × stored word (word + 1) looked new

-- a thread found itself named, with a count below the greatest, and counted once more by one step
abbrev pub CountedMore : {Token : Type 0} → Stores Token → ℕ → Token → Token → Type 0
CountedMore stored number old new = (word : ℕ) × Names number word × (times_in word < 4294967295)
    × stored word (word + 1) old new

-- a thread saw itself named with the greatest count
abbrev pub SawFull : {Token : Type 0} → CountRelation Token → ℕ → Token → Token → Type 0
SawFull saw number old new = (word : ℕ) × saw word old new × Names number word
    × (times_in word ≡ 4294967295)

-- a thread counted once less, and not for the last time
abbrev pub CountedLess : {Token : Type 0} → Stores Token → Token → Token → Type 0
CountedLess stored old new = (word : ℕ) × (1 < times_in word) × stored word (word - 1) old new

-- A release that counts off the last guard.
abbrev pub CountedOut : {Token : Type 0} → Stores Token → Token → Token → Type 0
CountedOut stored old new = (word : ℕ) × (times_in word ≡ 1) × stored word 0 old new

-- a thread saw the count at 1, and counted out
abbrev pub CountedOutAlone : {Token : Type 0} → CountRelation Token → Stores Token → Token → Token
    → Type 0
CountedOutAlone {Token} saw stored old new = (word : ℕ) × (looked : Token)
    × saw word old looked × (times_in word ≡ 1) × stored word 0 looked new

-- a thread saw another count
abbrev pub SawMore : {Token : Type 0} → CountRelation Token → Token → Token → Type 0
SawMore saw old new = (word : ℕ) × saw word old new × (times_in word ≢ 1)
