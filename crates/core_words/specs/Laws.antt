-- The laws of codes and their owners.
use Rattle.std.specs.Prelude.{◌≡◌, ◌≢◌, ◌⊎◌, ℕ, ◌+◌, ◌-◌, ◌*◌, ◌/◌, ◌%◌, ◌^◌, ◌<◌, ◌≤◌, List, ◌∷◌, ◌++◌, true}
use Rattle.core_base.specs.Words.{apply}
use Rattle.core_base.specs.declared.ops.Op.{Op}
use Rattle.core_base.specs.declared.ops.Op.TheVariants.{Load, Store, Swap, Add, Sub, Or, And, Exchange}
use Rattle.core_words.specs.Indices.{word_index}
use Rattle.core_words.specs.Views.{owned, owning}
use Rattle.core_words.specs.Steps.{MayStep, CodesWith, HasAll, owns_after_step, has, holding}
use Rattle.core_words.specs.Steps.{so_many_shared, without}
use Rattle.core_words.specs.declared.owners.Owner.TheVariants.{Exclusive, Pending, Upgrading, Upgradable}
use Rattle.core_words.specs.declared.owners.Owner.TheVariants.{Shared, Runner, Witness}
use Rattle.core_words.specs.declared.owners.Ownership.{Ownership}
use Rattle.core_words.specs.Codes.{Owners, Codes, everyone, exclusive, pending, upgrading, upgradable, shared}
use Rattle.core_words.specs.declared.words.WordKind.{WordKind}
use Rattle.core_words.specs.declared.words.WordKind.TheVariants.{Mutex, RwLock, Once, Condvar, Count}
use Rattle.core_words.specs.declared.words.WordKind.TheVariants.{Semaphore}

-- one owner, and nobody beside it
abbrev pub IsAlone : WordKind → Owners → Type 0
IsAlone Mutex owners = owners everyone ≡ 1
IsAlone RwLock owners = (owners exclusive ≡ 1) × (owners pending ≡ 0) × (owners upgrading ≡ 0)
    × (owners upgradable ≡ 0) × (owners shared ≡ 0)
IsAlone _ owners = Unit {0}

-- in no code does an exclusive owner stand beside another owner
abbrev pub ExclusiveIsAlone : Type 0
ExclusiveIsAlone = (kind : WordKind) (n : ℕ) (owners : Owners) → Codes kind n owners
    → 0 < owners exclusive → IsAlone kind owners

-- the kinds of step on a mutex's word
pub record MutexSteps (at : ℕ) (owns : List Ownership) : Type 0 where
  pub load : MayStep Mutex at Load owns
  pub enter : (from : ℕ) → from < 4 → from % 2 ≡ 0
      → MayStep Mutex at (Exchange from (from + 1)) owns
  pub set_locked : MayStep Mutex at (Or 1) owns
  pub set_parked : MayStep Mutex at (Exchange 1 3) owns
  pub clear_parked : MayStep Mutex at (And 18446744073709551613) owns
  -- a notifying thread marks a locked mutex, or any mutex to which it moved waiters
  pub mark : (s : ℕ) → (s ≡ 1) ⊎ (s ≡ 3) → MayStep Mutex at (Exchange s 3) owns
  pub mark_any : MayStep Mutex at (Or 2) owns
  -- a thread that subtracts 1 owns the mutex
  pub leave : has (owning at Exclusive) owns ≡ true → MayStep Mutex at (Sub 1) owns
  -- An owner may leave a word that nobody waits on, and may store a word inside a section.
  pub leave_alone : has (owning at Exclusive) owns ≡ true → MayStep Mutex at (Exchange 1 0) owns
  pub hand_over : (m : ℕ) → m < 4 → has (owning at Exclusive) owns ≡ true
      → MayStep Mutex at (Store m) owns

-- any thread may take them
abbrev pub MutexMaySteps : Type 0
MutexMaySteps = (at : ℕ) (owns : List Ownership) → MutexSteps at owns

-- the kinds of step on a reader-writer lock's word
pub record RwLockSteps (at : ℕ) (owns : List Ownership) : Type 0 where
  pub load : MayStep RwLock at Load owns
  -- where no writer is there, or a thread that waits has readers beside it, and the count has room
  pub read : (s : ℕ) → (s / 8 % 2 ≡ 0) ⊎ (0 < s / 16) → s / 16 < 2 ^ 60 - 2
      → MayStep RwLock at (Exchange s (s + 16)) owns
  pub write_alone : MayStep RwLock at (Exchange 0 8) owns
  pub write : (s : ℕ) → s / 4 % 4 ≡ 0 → MayStep RwLock at (Exchange s (s + 8)) owns
  pub set_parked : (s : ℕ) → s % 2 ≡ 0 → MayStep RwLock at (Exchange s (s + 1)) owns
  pub set_writer_parked : (s : ℕ) → s / 2 % 2 ≡ 0 → MayStep RwLock at (Exchange s (s + 2)) owns
  pub leave_shared : has (owning at Shared) owns ≡ true → MayStep RwLock at (Sub 16) owns
  pub leave_exclusive : has (owning at Exclusive) owns ≡ true → MayStep RwLock at (Sub 8) owns
  pub clear_parked : MayStep RwLock at (And 18446744073709551614) owns
  pub clear_writer_parked : MayStep RwLock at (And 18446744073709551613) owns
  pub enter_upgradable : (s : ℕ) → s / 4 % 4 ≡ 0 → s / 16 < 2 ^ 60 - 2
      → MayStep RwLock at (Exchange s (s + 20)) owns
  pub leave_upgradable : has (owning at Upgradable) owns ≡ true → MayStep RwLock at (Sub 20) owns
  pub downgrade : has (owning at Exclusive) owns ≡ true → MayStep RwLock at (Add 8) owns
  pub downgrade_upgradable : has (owning at Upgradable) owns ≡ true → MayStep RwLock at (Sub 4) owns
  pub downgrade_to_upgradable : has (owning at Exclusive) owns ≡ true
      → MayStep RwLock at (Add 12) owns
  pub upgrade : has (owning at Upgradable) owns ≡ true → MayStep RwLock at (Sub 12) owns
  pub try_upgrade : (s : ℕ) → has (owning at Upgradable) owns ≡ true → s / 16 ≡ 1
      → MayStep RwLock at (Exchange s (s - 12)) owns
  pub leave_alone : has (owning at Exclusive) owns ≡ true → MayStep RwLock at (Exchange 8 0) owns
  -- the store of the tokens of those that were taken
  pub hand_over : (m : ℕ) → has (owning at Exclusive) owns ≡ true → m < 2 ^ 64 → m / 4 % 4 ≤ 2
      → m / 4 ≢ 1 → m / 4 ≢ 2
      → MayStep RwLock at (Store m) owns
  -- the exchange that adds the tokens of those that were taken, or none
  pub hand_upgradable : (s m part : ℕ) → has (owning at Upgradable) owns ≡ true → m < 2 ^ 64
      → m / 4 + 5 ≡ s / 4 + part → part % 4 ≤ 2 → part ≢ 1 → MayStep RwLock at (Exchange s m) owns
  pub fall_back : has (owning at Upgrading) owns ≡ true → MayStep RwLock at (Add 12) owns
  pub give_up : has (owning at Pending) owns ≡ true → MayStep RwLock at (Sub 8) owns

-- any thread may take them
abbrev pub RwLockMaySteps : Type 0
RwLockMaySteps = (at : ℕ) (owns : List Ownership) → RwLockSteps at owns

-- the kinds of step on a `Once`'s word
pub record OnceSteps (at : ℕ) (owns : List Ownership) : Type 0 where
  pub load : MayStep Once at Load owns
  -- LOCKED is set and POISON cleared, where nobody runs it and it isn't done
  pub start : (s : ℕ) → s < 16 → (s % 8 ≡ 0) ⊎ (s % 8 ≡ 2)
      → MayStep Once at (Exchange s (s / 8 * 8 + 4)) owns
  pub set_parked : (s : ℕ) → (s ≡ 0) ⊎ ((s ≡ 2) ⊎ (s ≡ 4))
      → MayStep Once at (Exchange s (s + 8)) owns
  pub clear_parked : MayStep Once at (And 18446744073709551607) owns
  -- the thread that runs it leaves it done or poisoned
  pub finish : (m : ℕ) → (m ≡ 1) ⊎ (m ≡ 2) → has (owning at Runner) owns ≡ true
      → MayStep Once at (Swap m) owns

-- any thread may take them
abbrev pub OnceMaySteps : Type 0
OnceMaySteps = (at : ℕ) (owns : List Ownership) → OnceSteps at owns

-- the kinds of step on a semaphore's word
pub record SemaphoreSteps (permits at : ℕ) (owns : List Ownership) : Type 0 where
  pub load : MayStep (Semaphore permits) at Load owns
  -- a permit that is free is taken
  pub take : (s : ℕ) → 2 ≤ s → MayStep (Semaphore permits) at (Exchange s (s - 2)) owns
  pub set_parked : MayStep (Semaphore permits) at (Exchange 0 1) owns
  pub clear_parked : MayStep (Semaphore permits) at (And 18446744073709551614) owns
  -- a holder gives its permit back
  pub give : has (owning at Shared) owns ≡ true → MayStep (Semaphore permits) at (Add 2) owns
  -- A thread that holds as many permits as it drew may give them all.
  pub fill : (many : ℕ) → HasAll at (so_many_shared many) owns
      → MayStep (Semaphore permits) at (Add (2 * many)) owns

-- the trades of its kinds of step
pub record SemaphoreTrades (permits at : ℕ) (owns : List Ownership) : Type 0 where
  -- a thread that takes a permit has one more
  pub takes : (s : ℕ) → 2 ≤ s
      → owns_after_step (Semaphore permits) at (Exchange s (s - 2)) s owns
      ≡ owning at Shared ∷ owns
  -- a thread that gives one back has one less
  pub gives : (n : ℕ) → n / 2 < 2 ^ 62
      → owns_after_step (Semaphore permits) at (Add 2) n owns ≡ without (owning at Shared) owns
  -- the thread that drew the word may give all back, and has none of them then
  pub has_all : (many : ℕ) → HasAll at (so_many_shared many) (holding at many ++ owns)
  pub fills : (many n : ℕ) → n / 2 + many ≤ 2 ^ 62
      → owns_after_step (Semaphore permits) at (Add (2 * many)) n (holding at many ++ owns) ≡ owns
  -- A thread that finds a code has no more permits than the free ones leave.
  pub few : (n : ℕ) → CodesWith (Semaphore permits) at n owns
      → n / 2 + owned at shared owns ≤ 2 ^ 62

-- for any thread
abbrev pub SemaphoreTrading : Type 0
SemaphoreTrading = (permits at : ℕ) (owns : List Ownership) → SemaphoreTrades permits at owns

-- any thread may take them
abbrev pub SemaphoreMaySteps : Type 0
SemaphoreMaySteps = (permits at : ℕ) (owns : List Ownership) → SemaphoreSteps permits at owns

-- facts known of a `Once` that is done
pub record OnceKnowledge (at : ℕ) (owns : List Ownership) : Type 0 where
  -- a thread that leaves it done knows it
  pub learns : (op : Op) (found : ℕ) → apply op found ≡ 1
      → has (owning at Witness) (owns_after_step Once at op found owns) ≡ true
  -- a thread that knows it does so after each step, and finds it done
  pub keeps : (op : Op) (found : ℕ) → has (owning at Witness) owns ≡ true
      → has (owning at Witness) (owns_after_step Once at op found owns) ≡ true
  pub finds : (n : ℕ) → CodesWith Once at n owns → has (owning at Witness) owns ≡ true → n ≡ 1

-- for any thread
abbrev pub OnceIsKnown : Type 0
OnceIsKnown = (at : ℕ) (owns : List Ownership) → OnceKnowledge at owns

-- the kinds of step on a condition variable's word
pub record CondvarSteps (at : ℕ) (owns : List Ownership) : Type 0 where
  pub load : MayStep Condvar at Load owns
  -- an owner of a mutex of another number shows it, where none is shown
  pub show : (mutex : ℕ) → at ≢ word_index mutex Condvar
      → has (owning (word_index mutex Mutex) Exclusive) owns ≡ true
      → MayStep Condvar at (Exchange 0 (mutex + 1)) owns
  pub hide : MayStep Condvar at (Store 0) owns

-- any thread may take them
abbrev pub CondvarMaySteps : Type 0
CondvarMaySteps = (at : ℕ) (owns : List Ownership) → CondvarSteps at owns

-- the kinds of step on the count word of the mutex before it
pub record CountSteps (mutex : ℕ) (owns : List Ownership) : Type 0 where
  pub load : MayStep Count (word_index (mutex + 1) Count) Load owns

-- any thread may take them
abbrev pub CountMaySteps : Type 0
CountMaySteps = (mutex : ℕ) (owns : List Ownership) → CountSteps mutex owns
