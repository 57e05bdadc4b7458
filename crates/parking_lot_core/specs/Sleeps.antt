-- How a sleep ends.
use Rattle.std.specs.Prelude.{ℕ, ◌≡◌, [], Option, Some, None}
use Rattle.core_words.specs.RightsOf.{IsRightOf, IsFor}
use Rattle.core_words.specs.declared.rights.Right.{Right}
use Rattle.core_words.specs.declared.words.Word.{Word}
use Rattle.core_base.specs.Lines.{queued_under}
use Rattle.core_clocks.specs.Clocks.{HasPassed}
use Rattle.core_base.specs.declared.wants.Want.{Want}
use Rattle.core_base.specs.declared.keys.Keys.TheVariants.{One}
use Rattle.parking_lot_core.specs.Places.{IsPlaceOf}
use Rattle.parking_lot_core.specs.Sections.{IsUntouched, told_in, waiting_in}
use Rattle.parking_lot_core.specs.Tokens.{count_of}
use Rattle.parking_lot_core.specs.declared.lot.ParkingLot.{ParkingLot}
use Rattle.parking_lot_core.specs.declared.sections.Section.{Section}
use Rattle.parking_lot_core.specs.declared.sleep.Nap.{Nap}
use Rattle.parking_lot_core.specs.declared.sleep.Nap.TheVariants as naps
use Rattle.parking_lot_core.specs.declared.sleep.Slept.{Slept}
use Rattle.parking_lot_core.specs.declared.sleep.Slept.TheVariants.{Woken, Handed, Late}
use Rattle.parking_lot_core.specs.declared.tokens.Token.{Token}

-- the thing handed over is a right of the lot, for the word and the want
abbrev pub IsWoken : ParkingLot → Word → Want → Slept → Type 0
IsWoken _ _ _ (Woken _) = Unit {0}
IsWoken lot word wanted (Handed right) = IsRightOf lot.words right × IsFor word wanted right
IsWoken _ _ _ (Late _ _ _) = ⊥

-- a thread that gives up is inside the section of the key where it stands
abbrev pub GivesUpAt : ParkingLot → Token → Section → ℕ → Type 0
GivesUpAt lot token section key =
    (section.lot.now ≡ lot) × (section.keys ≡ One key) × IsUntouched section
    × (queued_under token.number (waiting_in section) ≡ Some key) × (section.thread ≡ token.number)
    × (told_in section ≡ []) × (section.since ≡ count_of token)

-- a thread gives up where its clock has passed the deadline
abbrev pub IsNap : ParkingLot → Token → (ℕ → Type 0) → ℕ → Nap → Type 0
IsNap _ _ _ _ naps.Paused = Unit {0}
IsNap lot token tells deadline (naps.Late section key) =
    GivesUpAt lot token section key × HasPassed tells deadline
IsNap _ _ _ _ naps.Taken = Unit {0}

-- a sleeper is late, and has its place still
abbrev pub IsLate : ParkingLot → Token → Slept → Type 0
IsLate _ _ (Woken _) = ⊥
IsLate _ _ (Handed _) = ⊥
IsLate lot token (Late section key place) =
    GivesUpAt lot token section key × IsPlaceOf lot token.number place

abbrev pub WasLate : Slept → Type 0
WasLate (Woken _) = ⊥
WasLate (Handed _) = ⊥
WasLate (Late _ _ _) = Unit {0}

abbrev pub IsSlept : ParkingLot → Token → Word → Want → Slept → Type 0
IsSlept _ _ _ _ (Woken _) = Unit {0}
IsSlept lot _ word wanted (Handed right) = IsWoken lot word wanted (Handed right)
IsSlept lot token _ _ (Late section key place) = IsLate lot token (Late section key place)

-- what a thread was told, of the right that lay in its record: a note alone leaves it there, and else
-- the right is out, and for this word and want
abbrev pub HasTold : Word → Want → Option Right → Option Right → Slept → Type 0
HasTold _ _ old new (Woken _) = new ≡ old
HasTold word wanted old new (Handed right) = (old ≡ Some right) × (new ≡ None) × IsFor word wanted right
HasTold _ _ _ _ (Late _ _ _) = ⊥
