-- The waiters that are picked of a line.
use Rattle.std.specs.Prelude.{ℕ, Bool, false, List, [], ◌∷◌, Option, Some, if◌then◌else◌, ◌==◌}
use Rattle.core_base.specs.declared.lock_picker.LockPicker.{LockPicker}
use Rattle.core_base.specs.declared.lock_picker.LockPicker.TheVariants.{Anyone, Readers, Nobody}
use Rattle.core_base.specs.declared.picks.Pick.{Pick}
use Rattle.core_base.specs.declared.picks.Pick.TheVariants.{Unpark, Skip, Stop}
use Rattle.core_base.specs.declared.wants.Waiter.{Waiter}
use Rattle.core_base.specs.declared.wants.Want.{Want}
use Rattle.core_base.specs.declared.wants.Want.TheVariants.{Exclusive, Upgradable, Shared}

-- the waiters taken of a line: the picker is asked for each want from the front, until it answers `Stop`
abbrev pub picked : {P : Type 0} → (P → Want → Pick) → (P → Want → P) → P → List Waiter
    → List Waiter
picked answer next picker [] = []
picked answer next picker (x ∷ xs) = elim (answer picker x.want) [
  | Unpark ↦ x ∷ picked answer next (next picker x.want) xs
  | Skip ↦ picked answer next (next picker x.want) xs
  | Stop ↦ []
]

-- the list without those that are taken of the line of a key
abbrev pub without_picked : {P : Type 0} → (P → Want → Pick) → (P → Want → P) → P → ℕ → List Waiter
    → List Waiter
without_picked answer next picker key [] = []
without_picked answer next picker key (x ∷ xs) = if x.key == key
    then (elim (answer picker x.want) [
      | Unpark ↦ without_picked answer next (next picker x.want) key xs
      | Skip ↦ x ∷ without_picked answer next (next picker x.want) key xs
      | Stop ↦ x ∷ xs
    ])
    else (x ∷ without_picked answer next picker key xs)

-- the waiters that a thread picks of a reader-writer lock's main queue, by the right of its own that it keeps
abbrev pub lock_picker : Option Want → Bool → LockPicker
lock_picker (Some Exclusive) recursive = Readers
lock_picker (Some Upgradable) recursive = Readers
lock_picker _ recursive = Anyone recursive

abbrev pub lock_answer : LockPicker → Want → Pick
lock_answer Nobody _ = Stop
lock_answer _ Shared = Unpark
lock_answer Readers _ = Skip
lock_answer (Anyone _) _ = Unpark

abbrev pub next_picker : LockPicker → Want → LockPicker
next_picker (Anyone recursive) Shared = Anyone recursive
next_picker (Anyone false) Exclusive = Nobody
next_picker (Anyone _) _ = Readers
next_picker picker _ = picker

-- the waiters picked so, and the list without them
abbrev pub lock_picked : Option Want → Bool → List Waiter → List Waiter
lock_picked start recursive line = picked lock_answer next_picker (lock_picker start recursive) line

abbrev pub without_lock_picked : Option Want → Bool → ℕ → List Waiter → List Waiter
without_lock_picked start recursive key waiters =
    without_picked lock_answer next_picker (lock_picker start recursive) key waiters
