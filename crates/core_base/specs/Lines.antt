-- The waiters: one list of all of them, and the line of each key in it.
use Rattle.std.specs.Prelude.{ℕ, List, [], ◌∷◌, Option, Some, None, if◌then◌else◌, ◌==◌, not, ◌+◌, ◌≤◌, ◌≡◌}
use Rattle.std.specs.Prelude.{map, drop, refl}
use Rattle.std.specs.List.{filter}
use Rattle.core_base.specs.declared.wants.Waiter.{Waiter}
use Rattle.core_base.specs.declared.wants.Want.{Want}

abbrev pub waiter : ℕ → ℕ → Want → Waiter
waiter key thread want = record { key = key; thread = thread; want = want }

-- the waiters under a key, in the order in which they came
abbrev pub line : ℕ → List Waiter → List Waiter
line key waiters = filter (λ (x : Waiter). x.key == key) waiters

-- the lines of all keys: two lists with the same lines are told apart by nobody
abbrev pub lines : List Waiter → ℕ → List Waiter
lines waiters = λ key. line key waiters

-- the list without a thread
abbrev pub without : ℕ → List Waiter → List Waiter
without thread waiters = filter (λ (x : Waiter). not (x.thread == thread)) waiters

-- the list without the first under a key
abbrev pub without_first : ℕ → List Waiter → List Waiter
without_first key [] = []
without_first key (x ∷ xs) = if x.key == key then xs else x ∷ without_first key xs

-- the list without all under a key
abbrev pub without_key : ℕ → List Waiter → List Waiter
without_key key waiters = filter (λ (x : Waiter). not (x.key == key)) waiters

-- the first thread of a line
abbrev pub first_of : List Waiter → Option ℕ
first_of [] = None
first_of (x ∷ xs) = Some x.thread

-- the threads of a line
abbrev pub threads_of : List Waiter → List ℕ
threads_of waiters = map (λ (x : Waiter). x.thread) waiters

-- the key under which a thread stands
abbrev pub queued_under : ℕ → List Waiter → Option ℕ
queued_under thread [] = None
queued_under thread (x ∷ xs) = if x.thread == thread then Some x.key else queued_under thread xs

-- how often a thread stands in a list
abbrev pub times : ℕ → List Waiter → ℕ
times thread [] = 0
times thread (x ∷ xs) = (if x.thread == thread then 1 else 0) + times thread xs

-- each thread is below the capacity, and stands at most once
pub record IsSeated (waiters : List Waiter) (capacity : ℕ) : Type 0 where
  pub below : (thread : ℕ) → capacity ≤ thread → times thread waiters ≡ 0
  pub once : (thread : ℕ) → times thread waiters ≤ 1

-- one list with its capacity
pub record Waiting : Type 0 where
  pub waiters : List Waiter
  pub capacity : ℕ

-- a line begins at place 0
pub line-from_first : (key : ℕ) (waiters : List Waiter)
    → line key (drop 0 waiters) ≡ line key waiters
line-from_first key waiters = refl
