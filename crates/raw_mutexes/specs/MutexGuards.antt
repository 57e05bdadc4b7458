-- Guards of mutexes: the right of a thread that owns one alone, and the permit of its value.
use Rattle.std.specs.Prelude.{◌≡◌}
use Rattle.std.proofs.Props.{props}
use Rattle.std.proofs.Common.{◌∙◌}
use Rattle.core_words.specs.Lots.{permit_of}
use Rattle.core_words.specs.RightsOf.{IsOpenOf}
use Rattle.core_words.specs.declared.words.Word.{Word}
use Rattle.raw_mutexes.specs.declared.guards.OpenGuard.{OpenGuard}
use Rattle.raw_mutexes.specs.declared.guards.RawGuard.{RawGuard}
use Rattle.core_parts.specs.PermitIds.{PermitId}
use Rattle.parking_lot_core.specs.Tokens.{view_of}
use Rattle.parking_lot_core.specs.declared.lot.ParkingLot.{ParkingLot}
use Rattle.parking_lot_core.specs.declared.tokens.Token.{Token}

-- a guard of a mutex: the right of a thread that owns it alone, and the permit of its value
abbrev pub IsGuardOf : ParkingLot → Word → RawGuard → Type 0
IsGuardOf lot word guard =
    IsOpenOf lot.words word guard.opened × (guard.permit.id ≡ permit_of lot.words word)

-- the fact that a guard is a mutex's has one proof at most
pub IsGuardOf-prop : (lot : ParkingLot) (word : Word) (guard : RawGuard)
    → IsProp (IsGuardOf lot word guard)
IsGuardOf-prop lot word guard = Prim.hlevel props

-- a guard whose permit is out is this mutex's
abbrev pub IsOpenGuardOf : ParkingLot → Word → OpenGuard → Type 0
IsOpenGuardOf lot word guard = IsOpenOf lot.words word guard.opened

pub IsOpenGuardOf-prop : (lot : ParkingLot) (word : Word) (guard : OpenGuard)
    → IsProp (IsOpenGuardOf lot word guard)
IsOpenGuardOf-prop lot word guard = Prim.hlevel props

-- the permit of the value that a mutex guards
abbrev pub permit_in : ParkingLot → Word → PermitId
permit_in lot word = permit_of lot.words word

-- two tokens are of one thread, which owns what it did
abbrev pub StaysAs : Token → Token → Type 0
StaysAs old new = (new.number ≡ old.number) × ((view_of new).owns ≡ (view_of old).owns)

pub StaysAs-on : (first next last : Token) → StaysAs first next → StaysAs next last
    → StaysAs first last
StaysAs-on first next last a b = (b.0 ∙ a.0, b.1 ∙ a.1)
