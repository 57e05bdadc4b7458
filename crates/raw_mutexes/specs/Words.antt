-- The lot and the word of a raw mutex.
use Rattle.std.specs.Arc.{arc_value}
use Rattle.core_words.specs.declared.words.Word.{Word}
use Rattle.parking_lot_core.specs.declared.lot.ParkingLot.{ParkingLot}
use Rattle.raw_mutexes.specs.declared.raw_mutex.RawMutex.{RawMutex}

abbrev pub lot_of : RawMutex → ParkingLot
lot_of mutex = arc_value mutex.lot

abbrev pub word_of : RawMutex → Word
word_of mutex = mutex.word
