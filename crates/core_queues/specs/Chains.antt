-- The waiters in the chain of each bucket, and the bucket of a key.
use Rattle.std.specs.Prelude.{ℕ, zero, suc, List, [], ◌∷◌, ◌++◌, Option, Some, None, if◌then◌else◌, ◌==◌, ◌*◌}
use Rattle.std.specs.Prelude.{◌-◌, ◌/◌, ◌%◌, ◌^◌, ◌≤◌, ◌≡◌, length, slice_index_or, refl}
use Rattle.core_base.specs.declared.wants.Waiter.{Waiter}
use Rattle.core_base.specs.Lines.{IsSeated, times, line}

-- the chains of all buckets, of which there are 2 ^ bits, with room for so many threads
pub record Chained : Type 0 where
  pub chains : List (List Waiter)
  pub capacity : ℕ
  pub bits : ℕ

-- the bucket of a key
unfoldable pub bucket_of : ℕ → ℕ → ℕ
bucket_of zero key = 0
bucket_of (suc bits) key = ((key * 11400714819323198485) % 2 ^ 64) / 2 ^ (64 - suc bits)

-- the waiters in the chain of a bucket
abbrev pub chain : Chained → ℕ → List Waiter
chain q bucket = slice_index_or q.chains bucket []

-- one chain after another
abbrev pub joined : List (List Waiter) → List Waiter
joined [] = []
joined (c ∷ cs) = c ++ joined cs

-- the waiters after a thread, or, with none, the whole chain
abbrev pub rest_after : Option ℕ → List Waiter → List Waiter
rest_after None waiters = waiters
rest_after (Some thread) [] = []
rest_after (Some thread) (x ∷ xs) = if x.thread == thread then xs else rest_after (Some thread) xs

-- the waiters of a key from a place on
abbrev pub rest_of : Chained → ℕ → ℕ → List Waiter
rest_of q key zero = line key (joined q.chains)
rest_of q key (suc thread) = line key (rest_after (Some thread) (chain q (bucket_of q.bits key)))

-- a line begins at place 0
pub rest-from_first : (q : Chained) (key : ℕ) → rest_of q key 0 ≡ line key (joined q.chains)
rest-from_first q key = refl

-- the least power of two that is at least so many
abbrev pub IsLeast : ℕ → ℕ → Type 0
IsLeast threads bits = (threads ≤ 2 ^ bits) × ((k : ℕ) → threads ≤ 2 ^ k → bits ≤ k)

-- the keys of these have this bucket
abbrev pub AreOfBucket : ℕ → ℕ → List Waiter → Type 0
AreOfBucket bits bucket [] = Unit {0}
AreOfBucket bits bucket (x ∷ xs) = (bucket_of bits x.key ≡ bucket) × AreOfBucket bits bucket xs

-- each record stands in the chain of its key's bucket, and each thread stands at most once
pub record IsHashed (q : Chained) : Type 0 where
  pub as_many : length q.chains ≡ 2 ^ q.bits
  pub own_bucket : (bucket : ℕ) → AreOfBucket q.bits bucket (chain q bucket)
  pub seated : (bucket : ℕ) → IsSeated (chain q bucket) q.capacity
  pub apart : (bucket other thread : ℕ) → 1 ≤ times thread (chain q bucket)
      → 1 ≤ times thread (chain q other) → bucket ≡ other
