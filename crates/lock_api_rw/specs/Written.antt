-- A place that is open to read, as it would be with this value in it.
use Rattle.lock_values.specs.declared.place.Seen.{Seen}

module _ {X : Type 0} where
  abbrev pub seen_with_value : Seen X → X → Seen X
  seen_with_value it w = record { place = it.place; here = it.here; of = it.of; view = it.view; value = w }
