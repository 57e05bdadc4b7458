-- The rule of a row of locks, each with a word and a slot.
use Rattle.std.specs.Prelude.{◌≡◌, ℕ, ◌<◌, ◌∷◌, [], Option, Some, slice_index, length}
use mathlib.Core.Option.{some}
use lib.ListN.{get_elem?}
use Rattle.atomic_table.specs.Table.{State, Me}

module _ {T K : Type 0} where
  -- where a word is below 2, its value is at home and fits
  abbrev pub Guards : (T → Type 0) → State (Option T) K → Type 0
  Guards fits s = (length s.words ≡ length s.homes)
      × ((i : ℕ) → i < length s.words → slice_index s.words i < 2
      → (value : T) × (get_elem? s.homes i ≡ some (some (Some value))) × fits value)

  -- a seat has the value of a slot, which fits
  abbrev pub HasTaken : (T → Type 0) → ℕ → Me (Option T) K → Type 0
  HasTaken fits i me = (value : T) × (me.1 ≡ (i, Some value) ∷ []) × fits value

-- there is a value, and it fits
abbrev pub HasValue : {T : Type 0} → (T → Type 0) → Option T → Type 0
HasValue {T} fits x = (value : T) × (x ≡ Some value) × fits value
