-- A state fits where the numbers in it name threads, locks and keys that are there.
use Rattle.std.specs.Prelude.{ℕ, Bool, true, false, Option, Some, None, ◌||◌, ◌≡◌, ◌≢◌, ◌<◌, ◌≤◌, ◌*◌, ◌⊎◌}
use Rattle.std.specs.Prelude.{List, [], ◌∷◌, length}
use Rattle.core_base.specs.declared.keys.Keys.{Keys}
use Rattle.core_base.specs.declared.keys.Keys.TheVariants.{One, Two}
use Rattle.core_base.specs.declared.wants.Waiter.{Waiter}
use Rattle.spec_locks.specs.declared.kinds.Kind.{Kind}
use Rattle.spec_locks.specs.declared.kinds.Kind.TheVariants as kind
use Rattle.spec_locks.specs.Kinds.{is_condvar, is_fair, is_plain_mutex}
use Rattle.steps_base.specs.declared.acts.Act.{Act}
use Rattle.steps_base.specs.declared.acts.Act.TheVariants.{Word, HandOver, Enter, Park, Stand, Take, Requeue}
use Rattle.steps_base.specs.declared.acts.Act.TheVariants.{Remove, Leave}
use Rattle.lot_steps.specs.declared.places.Place.{Place}
use Rattle.lot_steps.specs.declared.places.Place.TheVariants.{Idle, Mutex, RwLock, Once, Condvar, Semaphore}
use Rattle.steps_mutex.specs.declared.places.MutexPlace.{MutexPlace}
use Rattle.steps_mutex.specs.MutexProfiles.{mutex_profile}
use Rattle.steps_condvar.specs.declared.places.CondvarPlace.{CondvarPlace}
use Rattle.steps_condvar.specs.CondvarProfiles.{has_deadline, is_late}
use Rattle.steps_condvar.specs.CondvarSteps.{mutex_beside, mutex_shown}
use Rattle.lot_machine.specs.Machine.{State, kind_at, place_at, queue_at, word_at}

abbrev pub KeysFit : ℕ → Keys → Type 0
KeysFit n (One key) = key < n
KeysFit n (Two first second) = (first < n) × (second < n)

abbrev pub ActFits : State → Act → Type 0
ActFits w (Word l op) = l < length w.locks
ActFits w (HandOver l op) = l < length w.locks
ActFits w (Enter keys) = KeysFit (length w.sections) keys
ActFits w (Park l key check x) = (l < length w.locks) × (key < length w.sections)
ActFits w (Stand key x) = key < length w.sections
ActFits w (Take key whom) = key < length w.sections
ActFits w (Requeue from to how) =
    (from < length w.sections) × (to < length w.sections) × (from ≢ to)
ActFits w (Remove key) = key < length w.sections
ActFits w (Leave keys wakes) = KeysFit (length w.sections) keys
ActFits w act = Unit {0}

abbrev pub Implies : Bool → Bool → Type 0
Implies true b = b ≡ true
Implies false b = Unit {0}

-- only a timed call gives up
abbrev pub GivesUpTimed : MutexPlace → Type 0
GivesUpTimed at = Implies (mutex_profile at).late (mutex_profile at).timed

-- only a timed wait gives up, or tells that its time was up
abbrev pub GivesUpOnlyTimed : CondvarPlace → Type 0
GivesUpOnlyTimed at = Implies (is_late at) (has_deadline at)

-- a lock that is named is there
abbrev pub IsThere : ℕ → Option ℕ → Type 0
IsThere locks None = Unit {0}
IsThere locks (Some m) = m < locks

-- a call is of a lock that is there, and the mutex beside a condition variable is there too
abbrev pub PlaceFits : ℕ → Place → Type 0
PlaceFits locks Idle = Unit {0}
PlaceFits locks (Mutex lock at) = (lock < locks) × GivesUpTimed at
PlaceFits locks (RwLock lock a at) = lock < locks
PlaceFits locks (Once lock at) = lock < locks
PlaceFits locks (Semaphore lock at) = lock < locks
PlaceFits locks (Condvar lock at) = (lock < locks) × IsThere locks (mutex_beside at) × GivesUpOnlyTimed at

-- whether it is a reader-writer lock
abbrev pub is_rwlock : Kind → Bool
is_rwlock (kind.RwLock limit) = true
is_rwlock (kind.Recursive limit) = true
is_rwlock kind.Mutex = false
is_rwlock kind.Fair = false
is_rwlock kind.Condvar = false
is_rwlock kind.Once = false
is_rwlock (kind.Semaphore permits) = false

-- whether it is a `Once`
abbrev pub is_once : Kind → Bool
is_once kind.Once = true
is_once kind.Mutex = false
is_once kind.Fair = false
is_once (kind.RwLock limit) = false
is_once (kind.Recursive limit) = false
is_once kind.Condvar = false
is_once (kind.Semaphore permits) = false

-- whether it is a semaphore
abbrev pub is_semaphore : Kind → Bool
is_semaphore (kind.Semaphore permits) = true
is_semaphore kind.Mutex = false
is_semaphore kind.Fair = false
is_semaphore (kind.RwLock limit) = false
is_semaphore (kind.Recursive limit) = false
is_semaphore kind.Condvar = false
is_semaphore kind.Once = false

-- a condition variable works with plain mutexes
abbrev pub NamesPlainMutex : (ℕ → Kind) → Option ℕ → Type 0
NamesPlainMutex kinds None = Unit {0}
NamesPlainMutex kinds (Some m) = is_plain_mutex (kinds m) ≡ true

-- a call is of a lock of its own kind
abbrev pub IsOfItsKind : (ℕ → Kind) → Place → Type 0
IsOfItsKind kinds Idle = Unit {0}
IsOfItsKind kinds (Mutex lock at) = (is_plain_mutex (kinds lock) || is_fair (kinds lock)) ≡ true
IsOfItsKind kinds (RwLock lock a at) = is_rwlock (kinds lock) ≡ true
IsOfItsKind kinds (Once lock at) = is_once (kinds lock) ≡ true
IsOfItsKind kinds (Semaphore lock at) = is_semaphore (kinds lock) ≡ true
IsOfItsKind kinds (Condvar lock at) =
    (is_condvar (kinds lock) ≡ true) × NamesPlainMutex kinds (mutex_beside at)

-- the word of a condition variable is 0, or shows a plain mutex that is there
abbrev pub ShowsPlainMutex : ℕ → (ℕ → Kind) → ℕ → Type 0
ShowsPlainMutex locks kinds word =
    (word ≡ 0) ⊎ ((mutex_shown word < locks) × (is_plain_mutex (kinds (mutex_shown word)) ≡ true))

-- each waiter is a thread that is there
abbrev pub AllBelow : ℕ → List Waiter → Type 0
AllBelow n [] = Unit {0}
AllBelow n (x ∷ xs) = (x.thread < n) × AllBelow n xs

pub record IsWellFormed (w : State) : Type 0 where
  pub few : length w.locks ≤ 256
  pub sections : length w.sections ≡ 2 * length w.locks
  pub queues : length w.queues ≡ length w.sections
  pub places : (t : ℕ) → PlaceFits (length w.locks) (place_at w t)
  pub kinds : (t : ℕ) → IsOfItsKind (kind_at w) (place_at w t)
  pub shown : (l : ℕ) → is_condvar (kind_at w l) ≡ true
      → ShowsPlainMutex (length w.locks) (kind_at w) (word_at w l)
  pub waiting : (key : ℕ) → AllBelow (length w.places) (queue_at w key)

-- two states have as many threads, and as many locks
pub record SameSize (w v : State) : Type 0 where
  pub threads : length v.places ≡ length w.places
  pub locks : length v.locks ≡ length w.locks
