-- The seats that step on the word of a lock.
use Rattle.std.specs.Prelude.{◌≡◌}
use Rattle.std.specs.Arc.{arc_value}
use Rattle.atomic_table.specs.declared.shared.Seat.{Seat}
use Rattle.lotbench.specs.declared.least.LeastLock.{LeastLock}

-- a seat of the lock's table
abbrev pub IsSeatOfLeast : LeastLock → Seat (Unit {0}) (Unit {0}) → Type 0
IsSeatOfLeast lock seat = seat.table_id ≡ (arc_value lock.words).shared.table_id
