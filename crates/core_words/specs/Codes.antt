-- Codes: the owners that the value of a lock's word tells.
use Rattle.std.specs.Prelude.{◌≡◌, ◌≢◌, ◌==◌, cond, ℕ, ◌+◌, ◌*◌, ◌/◌, ◌%◌, ◌^◌, ◌<◌, ◌≤◌, ◌⊎◌}
use Rattle.core_words.specs.declared.owners.Owner.{Owner}
use Rattle.core_words.specs.declared.owners.Owner.TheVariants.{Exclusive, Pending, Upgrading, Upgradable}
use Rattle.core_words.specs.declared.owners.Owner.TheVariants.{Shared, Runner, Witness}
use Rattle.core_words.specs.declared.words.WordKind.{WordKind}
use Rattle.core_words.specs.declared.words.WordKind.TheVariants.{Mutex, RwLock, Condvar, Once, Count}
use Rattle.core_words.specs.declared.words.WordKind.TheVariants.{Semaphore}

-- how many owners there are, by a weight of owners
abbrev pub Owners : Type 0
Owners = (Owner → ℕ) → ℕ

abbrev pub everyone : Owner → ℕ
everyone _ = 1

abbrev pub exclusive : Owner → ℕ
exclusive Exclusive = 1
exclusive _ = 0

abbrev pub pending : Owner → ℕ
pending Pending = 1
pending _ = 0

abbrev pub upgrading : Owner → ℕ
upgrading Upgrading = 1
upgrading _ = 0

abbrev pub upgradable : Owner → ℕ
upgradable Upgradable = 1
upgradable _ = 0

abbrev pub shared : Owner → ℕ
shared Shared = 1
shared _ = 0

abbrev pub runner : Owner → ℕ
runner Runner = 1
runner _ = 0

abbrev pub witness : Owner → ℕ
witness Witness = 1
witness _ = 0

-- LOCKED is 1, PARKED is 2: locked beside one owner, which is exclusive
abbrev pub IsMutexCode : ℕ → Owners → Type 0
IsMutexCode n owners = (n < 4) × (owners everyone ≡ n % 2) × (owners exclusive ≡ n % 2)

-- PARKED 1, WRITER_PARKED 2, UPGRADABLE 4, WRITER 8, and 16 for each reader. An upgradable owner is
-- a reader too, and the count has room for the one that an upgrading owner is again where it gives
-- up
abbrev pub IsRwLockCode : ℕ → Owners → Type 0
IsRwLockCode n owners = (n / 4 ≡ 4 * (owners shared + owners upgradable)
    + 2 * (owners exclusive + owners pending + owners upgrading) + owners upgradable)
    × (owners exclusive + owners pending + owners upgrading + owners upgradable ≤ 1)
    × (0 < owners exclusive → owners shared ≡ 0)
    × (owners shared + owners upgradable + owners upgrading < 2 ^ 60)

-- DONE 1, POISON 2, LOCKED 4, PARKED 8: locked beside its one runner, and done for ever where
-- somebody saw it done
abbrev pub IsOnceWord : ℕ → Type 0
IsOnceWord n = (n ≡ 1) ⊎ ((n < 16) × ((n % 8 ≡ 0) ⊎ ((n % 8 ≡ 2) ⊎ (n % 8 ≡ 4))))

abbrev pub IsOnceCode : ℕ → Owners → Type 0
IsOnceCode n owners = IsOnceWord n × (owners runner ≡ n / 4 % 2) × (0 < owners witness → n ≡ 1)

-- PARKED 1, and 2 for each free permit: with those that are held they are as many as a semaphore may
-- have, or fewer
abbrev pub IsSemaphoreCode : ℕ → Owners → Type 0
IsSemaphoreCode n owners = (n / 2 + owners shared ≤ 2 ^ 62) × (owners everyone ≡ owners shared)

-- the words that owners alone explain. The other kinds are tied to the word of a mutex
abbrev pub Codes : WordKind → ℕ → Owners → Type 0
Codes Mutex n owners = IsMutexCode n owners
Codes RwLock n owners = IsRwLockCode n owners
Codes Once n owners = IsOnceCode n owners
Codes Condvar n owners = Unit {0}
Codes Count n owners = Unit {0}
Codes (Semaphore permits) n owners = IsSemaphoreCode n owners

-- a condition variable's word: 0, or one more than the number of a mutex
abbrev pub Shows : (ℕ → Type 0) → ℕ → Type 0
Shows is_mutex n = (n ≡ 0) ⊎ ((number : ℕ) × (n ≡ number + 1) × is_mutex number)

-- the values that a thread may find in the word of this number, in a lot of so many words: it shows nothing,
-- or a mutex of the lot beside it
abbrev pub ShowsBeside : ℕ → ℕ → ℕ → Type 0
ShowsBeside words condvar = Shows (λ mutex. (mutex < words) × (mutex ≢ condvar))

-- a count word: 0, or the number of a thread with how often it locked the mutex
abbrev pub IsCountCode : ℕ → Type 0
IsCountCode n = (n ≡ 0) ⊎
    ((thread : ℕ) × (times : ℕ) × (n ≡ (thread + 1) * 4294967296 + times) × (1 ≤ times)
    × (times < 4294967296))

-- n where a count names the thread of this number, and else 0
abbrev pub if_names : ℕ → ℕ → ℕ → ℕ
if_names thread count n = cond (count / 4294967296 == thread + 1) n 0
