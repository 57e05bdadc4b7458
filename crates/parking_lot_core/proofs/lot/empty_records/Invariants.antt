use Rattle.std.proofs.Common.{◌≡◌, None, All, length}
use Rattle.core_parts.specs.Guards.{HasValue}
use Rattle.parking_lot_core.proofs.lot.empty_records.Given as goal

abbrev pub invariant-loop : goal.invariant-loop
invariant-loop l = (length l.records.items ≡ l.counter)
    × All (HasValue (λ wake_record. wake_record.right ≡ None)) l.records.items
