-- An open place once this was written through it.
use Rattle.core_parts.specs.declared.place.Open.{Open}

module _ {X : Type 0} where
  abbrev pub with_value : Open X → X → Open X
  with_value it w = record { place = it.place; here = it.here; id = it.id; value = w }
