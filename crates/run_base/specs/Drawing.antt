-- How a lock comes by its word.
use Rattle.std.specs.Prelude.{[], ◌∷◌}
use Rattle.core_words.specs.Draws.{IsDrawn, IsDrawRefused}
use Rattle.core_words.specs.declared.words.Word.{Word}
use Rattle.core_words.specs.declared.words.WordKind.{WordKind}
use Rattle.parking_lot_core.specs.Tokens.{view_of}
use Rattle.parking_lot_core.specs.declared.lot.ParkingLot.{ParkingLot}
use Rattle.parking_lot_core.specs.declared.tokens.Token.{Token}

-- between two states of a thread it drew this word of the lot, of this kind
abbrev pub Drew : WordKind → ParkingLot → Word → Token → Token → Type 0
Drew kind lot word old new =
    IsDrawn lot.words.count (kind ∷ []) word.number (view_of old) (view_of new)

-- between them it drew none, and its last step saw that the lot has no word left
abbrev pub FoundFull : ParkingLot → Token → Token → Type 0
FoundFull lot old new = IsDrawRefused lot.words.count 1 (view_of old) (view_of new)
