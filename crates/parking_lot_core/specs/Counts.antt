-- Mutexes that are counted, and the threads that their counts name.
use Rattle.std.specs.Prelude.{◌≡◌, ℕ, ◌+◌, ◌*◌, ◌/◌, List, ◌∷◌}
use Rattle.core_names.specs.Names.{count_at, shares_of}
use Rattle.core_names.specs.Shares.{sharing}
use Rattle.core_names.specs.declared.name.Name.{Name}
use Rattle.core_words.specs.declared.views.Counting.{Counting}
use Rattle.core_words.specs.declared.words.Word.{Word}
use Rattle.core_words.specs.declared.words.WordKind.TheVariants.{Mutex, Count}

-- a mutex, and the word after it, on which it is counted
abbrev pub IsPair : Word → Word → Type 0
IsPair mutex count = (mutex.kind ≡ Mutex) × (count.kind ≡ Count)
    × (count.number ≡ mutex.number + 1)

-- what a thread says that locks a mutex for the first time: one more than its number, and once
abbrev pub first_said : ℕ → ℕ
first_said thread = (thread + 1) * 4294967296 + 1

-- a count names the thread of this number
abbrev pub Names : ℕ → ℕ → Type 0
Names thread count = count / 4294967296 ≡ thread + 1

-- the first of a name's shares is of the count word of this number, and names this thread
abbrev pub HasShare : ℕ → ℕ → Name → Type 0
HasShare thread number name =
    (rest : List Counting) × (shares_of name ≡ sharing (count_at number) thread ∷ rest)
