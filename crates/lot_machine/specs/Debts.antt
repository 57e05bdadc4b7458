-- Which threads may have debts on a lock, by the links of a book.
use Rattle.std.specs.Prelude.{ℕ, ◌≡◌, ◌<◌, ◌≤◌, ◌+◌, ◌==◌, Bool, true, false, Some, None, List, length}
use Rattle.std.specs.Prelude.{slice_index_or}
use Rattle.lot_steps.specs.declared.places.Place.{Place}
use Rattle.lot_steps.specs.declared.places.Place.TheVariants.{Idle}
use Rattle.lot_machine.specs.declared.debts.Debt.{Debt}
use Rattle.lot_machine.specs.declared.debts.Link.{Link}
use Rattle.lot_machine.specs.declared.debts.Tag.{Tag}
use Rattle.lot_machine.specs.declared.debts.Tag.TheVariants.{Nowhere, On, Anywhere}
use Rattle.lot_machine.specs.Views.{has_debt}

-- whether a thread with this tag may have a debt on a lock
abbrev pub may_have : Tag → ℕ → Bool
may_have Nowhere l = false
may_have (On own) l = own == l
may_have Anywhere l = true

-- a tag tells of a place that has no debt on the locks which the tag leaves out
abbrev pub TagCovers : Tag → Place → Type 0
TagCovers tag p = (debt : Debt) (l : ℕ) → may_have tag l ≡ false → has_debt p debt l ≡ false

-- a place has no debts but on one lock
abbrev pub HasDebtsOnlyOn : ℕ → Place → Type 0
HasDebtsOnlyOn own p = (debt : Debt) (l : ℕ) → (own == l) ≡ false → has_debt p debt l ≡ false

abbrev pub place_of_thread : List Place → ℕ → Place
place_of_thread places t = slice_index_or places t Idle

-- no thread from one up to another has a debt on a lock
abbrev pub Skips : List Place → ℕ → ℕ → ℕ → Type 0
Skips places l from to = (t : ℕ) → from ≤ t → t < to → (debt : Debt)
    → has_debt (place_of_thread places t) debt l ≡ false

abbrev pub unlinked : Link
unlinked = record { lock = None; next = 0 }

-- a thread that is linked on a lock leads to a later one, and those between have no debt there
abbrev pub AreLinked : List Link → List Place → Type 0
AreLinked links places = (t l : ℕ) → t < length places
    → (slice_index_or links t unlinked).lock ≡ Some l
    → (t < (slice_index_or links t unlinked).next)
    × ((slice_index_or links t unlinked).next ≤ length places)
    × Skips places l (t + 1) (slice_index_or links t unlinked).next

-- the threads from one on are linked, and a chain begins on each lock
pub record AreLinkedFrom (links : List Link) (first : List ℕ) (places : List Place) (from : ℕ)
    : Type 0 where
  pub sizes : (length links ≡ 1024) × (length first ≡ 256)
  pub begins : (l : ℕ) → l < 256
      → (from ≤ slice_index_or first l 0) × (slice_index_or first l 0 ≤ length places)
      × Skips places l from (slice_index_or first l 0)
  pub linked : AreLinked links places
