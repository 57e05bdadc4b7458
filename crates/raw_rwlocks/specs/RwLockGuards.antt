-- Guards of reader-writer locks: the rights to read, to read and upgrade, and to own alone.
use Rattle.std.proofs.Props.{props}
use Rattle.core_words.specs.declared.owners.Owner.TheVariants.{Exclusive, Shared, Upgradable}
use Rattle.core_words.specs.declared.words.Word.{Word}
use Rattle.run_base.specs.RwLockCalls.{IsRwLockRight}
use Rattle.raw_rwlocks.specs.declared.rwlock_guards.RawExclusiveGuard.{RawExclusiveGuard}
use Rattle.raw_rwlocks.specs.declared.rwlock_guards.RawSharedGuard.{RawSharedGuard}
use Rattle.raw_rwlocks.specs.declared.rwlock_guards.RawUpgradableGuard.{RawUpgradableGuard}
use Rattle.parking_lot_core.specs.declared.lot.ParkingLot.{ParkingLot}

abbrev pub IsSharedOf : ParkingLot → Word → RawSharedGuard → Type 0
IsSharedOf lot word guard = IsRwLockRight lot word Shared guard.right

abbrev pub IsUpgradableOf : ParkingLot → Word → RawUpgradableGuard → Type 0
IsUpgradableOf lot word guard = IsRwLockRight lot word Upgradable guard.right

abbrev pub IsExclusiveOf : ParkingLot → Word → RawExclusiveGuard → Type 0
IsExclusiveOf lot word guard = IsRwLockRight lot word Exclusive guard.right

-- the fact that a guard is a lock's has one proof at most
pub IsSharedOf-prop : (lot : ParkingLot) (word : Word) (guard : RawSharedGuard)
    → IsProp (IsSharedOf lot word guard)
IsSharedOf-prop lot word guard = Prim.hlevel props

pub IsUpgradableOf-prop : (lot : ParkingLot) (word : Word) (guard : RawUpgradableGuard)
    → IsProp (IsUpgradableOf lot word guard)
IsUpgradableOf-prop lot word guard = Prim.hlevel props

pub IsExclusiveOf-prop : (lot : ParkingLot) (word : Word) (guard : RawExclusiveGuard)
    → IsProp (IsExclusiveOf lot word guard)
IsExclusiveOf-prop lot word guard = Prim.hlevel props
