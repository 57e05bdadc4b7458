-- Calls of a closure with a token of a lot.
use Rattle.std.specs.Prelude.{◌≡◌, ◌+◌, ℕ, zero, suc, All, List, length}
use denote.Param.Members.{Shared}
use denote.Ref.{MutBor}
use Rattle.parking_lot_core.specs.Team.{IsIn}
use Rattle.parking_lot_core.specs.Tokens.{IsTokenOf}
use Rattle.parking_lot_core.specs.declared.lot.ParkingLot.{ParkingLot}
use Rattle.parking_lot_core.specs.declared.tokens.Ticket.{Ticket}
use Rattle.parking_lot_core.specs.declared.tokens.Token.{Token}

-- a closure may be called with any token of the lot
abbrev pub MayRun : {F U : Type 0} → Shared F (MutBor Token × Unit {0}) (U × (MutBor Token × Unit {0}))
    → F → ParkingLot → Type 0
MayRun g f lot = (token : MutBor Token) → IsTokenOf lot token.now → g.pre f (token, tt)

-- a closure gives a token back that is of the lot still
abbrev pub GivesTokenBack : {F U : Type 0}
    → Shared F (MutBor Token × Unit {0}) (U × (MutBor Token × Unit {0}))
    → F → ParkingLot → Type 0
GivesTokenBack {U = U} g f lot = (entered left : MutBor Token) (answer : U) → IsTokenOf lot entered.now
    → g.post f (entered, tt) (answer, (left, tt)) → IsTokenOf lot left.now

-- a call with a token of the lot may answer so
pub record MayAnswer {F U : Type 0}
    (g : Shared F (MutBor Token × Unit {0}) (U × (MutBor Token × Unit {0}))) (f : F) (lot : ParkingLot)
    (answer : U) : Type 0 where
  pub entered : MutBor Token
  pub left : MutBor Token
  pub is_of : IsTokenOf lot entered.now
  pub met : g.post f (entered, tt) (answer, (left, tt))

-- one call, between two states of its token
abbrev pub Called : {F U : Type 0} → Shared F (MutBor Token × Unit {0}) (U × (MutBor Token × Unit {0}))
    → F → Token → Token → Type 0
Called {U = U} g f old new = (entered : MutBor Token) × (left : MutBor Token) × (answer : U)
    × (entered.now ≡ old) × (left.now ≡ new) × g.post f (entered, tt) (answer, (left, tt))

-- a number of calls, each with the token as the one before left it
abbrev pub CalledTimes : {F U : Type 0}
    → Shared F (MutBor Token × Unit {0}) (U × (MutBor Token × Unit {0}))
    → F → ℕ → Token → Token → Type 0
CalledTimes g f zero old new = new ≡ old
CalledTimes g f (suc times) old new =
    (before : Token) × CalledTimes g f times old before × Called g f before new

-- the thread of a ticket entered its lot, made so many calls, and left
abbrev pub HasRun : {F U : Type 0} → Shared F (MutBor Token × Unit {0}) (U × (MutBor Token × Unit {0}))
    → F → ParkingLot → ℕ → Ticket → Type 0
HasRun g f lot times ticket = (entered : Token) × (left : Token) × IsTokenOf lot entered
    × CalledTimes g f times entered left × IsIn ticket left

-- the threads of all tickets but one have called so many times and left
abbrev pub EachHasRun : {F U : Type 0} → Shared F (MutBor Token × Unit {0}) (U × (MutBor Token × Unit {0}))
    → F → ParkingLot → ℕ → Type 0
EachHasRun g f lot times = (tickets : List Ticket) × (length tickets + 1 ≡ lot.records.count)
    × All (HasRun g f lot times) tickets
