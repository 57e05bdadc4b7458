-- The lot and the word of a raw condition variable.
use Rattle.std.specs.Arc.{arc_value}
use Rattle.core_words.specs.declared.words.Word.{Word}
use Rattle.parking_lot_core.specs.declared.lot.ParkingLot.{ParkingLot}
use Rattle.raw_mutexes.specs.declared.raw_condvar.RawCondvar.{RawCondvar}

abbrev pub lot_of : RawCondvar → ParkingLot
lot_of condvar = arc_value condvar.lot

abbrev pub word_of : RawCondvar → Word
word_of condvar = condvar.word
