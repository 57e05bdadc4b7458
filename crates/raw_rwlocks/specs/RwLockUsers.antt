-- The names that clauses of users of reader-writer locks cite.
use Rattle.std.specs.Prelude.{ℕ}
use Rattle.std.specs.Arc.{arc_value}
use Rattle.steps_rwlock.specs.declared.places.Admission.{Admission}
use Rattle.core_words.specs.declared.words.Word.{Word}
use Rattle.raw_rwlocks.specs.declared.rwlock_rights.LotRwLock.{LotRwLock}
use Rattle.raw_rwlocks.specs.declared.raw_rwlock.RawRwLock.{RawRwLock}
use Rattle.parking_lot_core.specs.declared.lot.ParkingLot.{ParkingLot}

abbrev pub lot_in : LotRwLock → ParkingLot
lot_in lock = arc_value lock.lot

abbrev pub word_in : LotRwLock → Word
word_in lock = lock.word

-- how many may share it, and whether readers may read again beside a waiting writer
abbrev pub admission_in : LotRwLock → Admission
admission_in lock = lock.settings.admission

abbrev pub lot_lock_in : {recursive : ℕ} → RawRwLock recursive → LotRwLock
lot_lock_in lock = lock.lock

abbrev pub lot_of : {recursive : ℕ} → RawRwLock recursive → ParkingLot
lot_of lock = lot_in lock.lock

abbrev pub word_of : {recursive : ℕ} → RawRwLock recursive → Word
word_of lock = word_in lock.lock

abbrev pub admission_of : {recursive : ℕ} → RawRwLock recursive → Admission
admission_of lock = admission_in lock.lock
