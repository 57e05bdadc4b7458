-- What the contracts of tests tell of a lock of either sort.
use Rattle.std.specs.Prelude.{ℕ}
use Rattle.core_words.specs.declared.words.Word.{Word}
use Rattle.parking_lot_core.specs.declared.lot.ParkingLot.{ParkingLot}
use Rattle.parking_lot.specs.LotOf.{admission_of, lot_of_rwlock, word_of_rwlock}
use Rattle.test_any_rwlock.specs.declared.any_rwlock.AnyRwLock.{AnyRwLock}
use Rattle.test_any_rwlock.specs.declared.any_rwlock.AnyRwLock.TheVariants.{Normal, Recursive}

abbrev pub lot_of : AnyRwLock → ParkingLot
lot_of (Normal lock) = lot_of_rwlock lock
lot_of (Recursive lock) = lot_of_rwlock lock

abbrev pub word_of : AnyRwLock → Word
word_of (Normal lock) = word_of_rwlock lock
word_of (Recursive lock) = word_of_rwlock lock

abbrev pub limit_of : AnyRwLock → ℕ
limit_of (Normal lock) = (admission_of lock).limit
limit_of (Recursive lock) = (admission_of lock).limit
