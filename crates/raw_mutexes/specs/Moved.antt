-- The waiters that a notification moved.
use Rattle.std.specs.Prelude.{ℕ, ◌≡◌, ◌≢◌, Bool, Some}
use Rattle.parking_lot_core.specs.Tokens.{last_of}
use Rattle.parking_lot_core.specs.declared.tokens.SectionRecord.{SectionRecord}
use Rattle.parking_lot_core.specs.declared.tokens.Token.{Token}
use Rattle.run_locks.specs.CondvarCalls.{WaitersMoved}

-- the record of the section that its thread left last tells of so many that it took or moved
abbrev pub RecordsMoved : ℕ → Token → Type 0
RecordsMoved number token =
    (section : SectionRecord) × (last_of token ≡ Some section) × (section.number ≡ number)

-- a notification took or moved this many, as its record tells, or moved nobody and saw that there is none to
-- move
abbrev pub HasMoved : ℕ → Bool → ℕ → Token → Token → Type 0
HasMoved c all number old new =
    WaitersMoved c all number old new × (number ≢ 0 → RecordsMoved number new)
