-- The word of a lock, and what a thread reads in it.
use Rattle.std.specs.Prelude.{ℕ, Bool, true, false, Option, Some, None, if◌then◌else◌, ◌==◌, ◌&&◌, ◌||◌, not}
use Rattle.std.specs.Prelude.{◌+◌, ◌-◌, ◌*◌, ◌/◌, ◌%◌, ◌<◌, ◌≤◌, ◌≡◌, length, nat_le}
use Rattle.core_base.specs.declared.wants.Want.{Want}
use Rattle.core_base.specs.declared.wants.Want.TheVariants.{Exclusive, Upgradable, Shared}
use Rattle.spec_locks.specs.Locks.{LockState, Pending, Sort, Mutex, Normal, Recursive, Semaphore, Once}
use Rattle.spec_locks.specs.Locks.{Condvar, Rules, LockCase, Enter, Pend, Leave, Convert, HandOff, Rollback}
use Rattle.spec_locks.specs.Locks.{Knows, NoWriter, IsFree, IsBlocked, is_recursive, count, readers}
use Rattle.spec_locks.specs.Locks.{one_if_some, Needs, IsLockState}
use Rattle.spec_locks.specs.Onces.{phase_code}
use Rattle.spec_locks.specs.Locks as locks
use Rattle.spec_locks.specs.Sites.{Site, IsSite, Case, Needed, after_deed, has_readers}

abbrev pub bit : Bool → ℕ
bit true = 1
bit false = 0

-- a reader-writer word by its parts: readers, writer, upgradable, writer parked, parked
abbrev pub packed : ℕ → ℕ → ℕ → ℕ → ℕ → ℕ
packed c w u a p = 16 * c + 8 * w + 4 * u + 2 * a + p

-- how many exclusive and pending owners there are
abbrev pub writers : LockState → ℕ
writers s = one_if_some s.exclusive + one_if_some s.pending

-- a condition variable shows a mutex by one more than its number, and 0 where it shows none
abbrev pub shown_code : Option ℕ → ℕ
shown_code None = 0
shown_code (Some m) = m + 1

-- the word of a lock, by its owners and its two parked bits
abbrev pub word_by : Sort → ℕ → LockState → (aside parked : Bool) → ℕ
word_by Mutex limit s aside parked = one_if_some s.exclusive + 2 * bit parked
word_by Normal limit s aside parked =
    packed (count s) (writers s) (one_if_some s.upgradable) (bit aside) (bit parked)
word_by Recursive limit s aside parked =
    packed (count s) (writers s) (one_if_some s.upgradable) (bit aside) (bit parked)
word_by Semaphore limit s aside parked = 2 * (limit - readers s) + bit parked
word_by Once limit s aside parked = 8 * bit parked + phase_code s.phase
word_by Condvar limit s aside parked = shown_code s.shown

abbrev pub rw_code : Site → ℕ
rw_code s = packed (count s.lock) (writers s.lock) (one_if_some s.lock.upgradable)
    (bit s.aside_parked) (bit s.parked)

abbrev pub code_of : Sort → ℕ → Site → ℕ
code_of sort limit s = word_by sort limit s.lock s.aside_parked s.parked

abbrev pub code : Rules → Site → ℕ
code r s = code_of r.sort r.limit s

-- what a thread reads from a word: the count of readers, and whether a writer is there
abbrev pub count_in : ℕ → ℕ
count_in v = v / 16

abbrev pub has_writer : ℕ → Bool
has_writer v = v / 8 % 2 == 1

abbrev pub has_upgradable : ℕ → Bool
has_upgradable v = v / 4 % 2 == 1

abbrev pub has_aside : ℕ → Bool
has_aside v = v / 2 % 2 == 1

abbrev pub has_parked : ℕ → Bool
has_parked v = v % 2 == 1

-- The word of a `Once` says whether it is done, poisoned or run, and whether somebody may stand in the queue.
abbrev pub is_done : ℕ → Bool
is_done v = v % 2 == 1

abbrev pub is_poisoned : ℕ → Bool
is_poisoned v = v / 2 % 2 == 1

abbrev pub is_running : ℕ → Bool
is_running v = v / 4 % 2 == 1

abbrev pub is_marked : ℕ → Bool
is_marked v = v / 8 == 1

-- the parked bit of the main line, and that of the second, where the sort of lock has it
abbrev pub parked_in : Sort → ℕ → Bool
parked_in Mutex v = v / 2 % 2 == 1
parked_in Once v = is_marked v
parked_in Condvar v = true
parked_in Normal v = has_parked v
parked_in Recursive v = has_parked v
parked_in Semaphore v = has_parked v

abbrev pub aside_in : Sort → ℕ → Bool
aside_in Normal v = has_aside v
aside_in Recursive v = has_aside v
aside_in Mutex v = false
aside_in Semaphore v = false
aside_in Once v = false
aside_in Condvar v = false

-- whether the count is at the limit, or above it
abbrev pub fills : Rules → ℕ → Bool
fills r v = has_readers r.sort && nat_le r.limit (count_in v)

-- whether a want is blocked, by what is read
abbrev pub is_blocked : Bool → Want → ℕ → Bool
is_blocked recursive Shared v = has_writer v && (not recursive || (count_in v == 0))
is_blocked recursive x v = has_writer v || has_upgradable v

-- findings of a thread inside its section that stands in the main line, and in the second: its way is barred,
-- readers are left
abbrev pub bars : Bool → Want → ℕ → Bool
bars recursive x v = has_parked v && is_blocked recursive x v

abbrev pub leaves_readers : ℕ → Bool
leaves_readers v = has_aside v && not (count_in v == 0)

-- The word of a `Once` that a call only waits for: it isn't done, nor poisoned unless that is forced.
abbrev pub leaves_unfinished : Bool → ℕ → Bool
leaves_unfinished forced v = is_marked v && (not (is_done v) && (forced || not (is_poisoned v)))

-- ---------------------------------------------------------------- the laws

-- a reader-writer word says the truth
pub record TellsTrue (r : Rules) (s : Site) : Type 0 where
  pub count : count_in (code r s) ≡ count s.lock
  pub parked : has_parked (code r s) ≡ s.parked
  pub aside : has_aside (code r s) ≡ s.aside_parked
  pub blocked : (x : Want) → Knows r.sort x → is_blocked (is_recursive r.sort) x (code r s) ≡ true
      → IsBlocked r s.lock x
  pub free : (x : Want) → Knows r.sort x → is_blocked (is_recursive r.sort) x (code r s) ≡ false
      → IsFree r s.lock x
  pub nobody : code r s ≡ 0 → NoWriter s.lock × (readers s.lock ≡ 0)

-- a case adds this to the word, and subtracts that
abbrev pub gained : LockCase → ℕ
gained (Enter Shared) = 16
gained (Enter Upgradable) = 20
gained (Enter Exclusive) = 8
gained Pend = 8
gained (Convert Exclusive Shared) = 16
gained (Convert Exclusive Upgradable) = 20
gained case = 0

abbrev pub lost : Option Pending → LockCase → ℕ
lost p (Leave Shared) = 16
lost p (Leave Upgradable) = 20
lost p (Leave Exclusive) = 8
lost p (Convert Upgradable Shared) = 4
lost p (Convert Upgradable Exclusive) = 12
lost p (Convert Exclusive x) = 8
lost p Rollback = 8
lost p case = 0

abbrev pub fallen_to : Option Pending → ℕ
fallen_to None = 0
fallen_to (Some p) = if p.falls_back then 20 else 0

abbrev pub rolled : Option Pending → LockCase → ℕ
rolled p Rollback = fallen_to p
rolled p case = gained case

abbrev pub IsHandOff : LockCase → Type 0
IsHandOff (HandOff x successor) = Unit {0}
IsHandOff case = ⊥

-- every case but a hand-off changes the word so; bits stay
abbrev pub WordFollows : Type 0
WordFollows =
    (r : Rules) (case : LockCase) (s : Site) (t : ℕ) → has_readers r.sort ≡ true
    → t < length s.lock.shared → IsSite r s
    → Needed r (Case case) s t → (IsHandOff case → ⊥)
    → code r (after_deed r (Case case) s t) + lost s.lock.pending case
    ≡ code r s + rolled s.lock.pending case

abbrev pub WordsTellTrue : Type 0
WordsTellTrue = (r : Rules) (s : Site) → has_readers r.sort ≡ true → IsSite r s → TellsTrue r s

-- ---------------------------------------------------------------- the limit

-- the count passes the limit by a roll-back alone, on a recursive lock, and by 1
pub record HasLimit (r : Rules) (s : LockState) : Type 0 where
  pub top : count s ≤ r.limit + 1
  pub normal : r.sort ≡ Normal → count s ≤ r.limit
  pub falls : (p : Pending) → s.pending ≡ Some p → p.falls_back ≡ true → count s ≤ r.limit
  pub falls_normal : (p : Pending) → s.pending ≡ Some p → p.falls_back ≡ true → r.sort ≡ Normal
      → count s + 1 ≤ r.limit

abbrev pub LimitKept : Type 0
LimitKept =
    (r : Rules) (case : LockCase) (s : LockState) (t : ℕ) → has_readers r.sort ≡ true
    → t < length s.shared
    → 1 ≤ r.limit → IsLockState r s → HasLimit r s → Needs r case s t → (IsHandOff case → ⊥)
    → HasLimit r (locks.after_case r case s t)
