-- The permits of the values that a lot's mutexes guard, each in the slot beside its word.
use Rattle.std.specs.Prelude.{ℕ, zero, suc, ◌%◌, List, [], ◌∷◌, ◌++◌, map, cond, ◌==◌}
use Rattle.core_base.specs.Words.{apply}
use Rattle.core_base.specs.declared.ops.Op.{Op}
use Rattle.core_words.specs.declared.words.WordKind.{WordKind}
use Rattle.core_words.specs.declared.words.WordKind.TheVariants.{Mutex}
use Rattle.core_parts.specs.PermitIds.{PermitId}
use Rattle.core_parts.specs.declared.slot.PermitSlot.{PermitSlot}

-- the permit of the word at an index, told by the source of the lot's permits
abbrev pub permit_at : ℕ → ℕ → PermitId
permit_at family at = record { family = family; number = at }

abbrev pub slot_at : ℕ → ℕ → PermitSlot
slot_at family at = record { holds = permit_at family at ∷ [] }

-- the slots that are out with a seat, by the mutexes whose permits are
abbrev pub slots_of : ℕ → List ℕ → List (ℕ × PermitSlot)
slots_of family out = map (λ at. (at, slot_at family at)) out

-- the permit that is out after a step at an index: a thread that locks a mutex takes its permit with that
-- step, in place of any other, and one that unlocks lays back with that step what is out
abbrev pub out_after : WordKind → ℕ → Op → ℕ → List ℕ → List ℕ
out_after Mutex at op found out =
    cond (found % 2 == apply op found % 2) out (cond (found % 2 == 0) (at ∷ []) [])
out_after _ at op found out = out

-- a slot whose permit is out
abbrev pub bare : PermitSlot
bare = record { holds = [] }

-- the slots of the first so many words
abbrev pub laid : ℕ → ℕ → List PermitSlot
laid family zero = []
laid family (suc n) = laid family n ++ slot_at family n ∷ []
