-- The steps of every call.
use Rattle.std.specs.Prelude.{ℕ, Bool, true, false, Option, Some, None, if◌then◌else◌, ◌==◌, ◌&&◌, ◌||◌, ◌^◌}
use Rattle.std.specs.Prelude.{◌<◌}
use Rattle.spec_locks.specs.declared.kinds.Kind.{Kind}
use Rattle.spec_locks.specs.declared.calls.Call.{Call}
use Rattle.spec_locks.specs.declared.calls.Call.TheVariants as call
use Rattle.lot_steps.specs.declared.places.Place.{Place}
use Rattle.lot_steps.specs.declared.places.Place.TheVariants.{Idle, Mutex, RwLock, Once, Condvar, Semaphore}
use Rattle.steps_mutex.specs.declared.places.MutexPlace.{MutexPlace}
use Rattle.steps_base.specs.declared.acts.Act.{Act}
use Rattle.steps_base.specs.declared.acts.Act.TheVariants as act
use Rattle.steps_base.specs.declared.acts.Reply.{Reply}
use Rattle.steps_base.specs.declared.acts.Next.{Next}
use Rattle.steps_base.specs.declared.acts.Next.TheVariants.{At, End}
use Rattle.steps_base.specs.declared.owners.Owners.{Owners}
use Rattle.spec_locks.specs.Kinds.{is_fair}
use Rattle.steps_mutex.specs.MutexSteps.{mutex_first, mutex_right, mutex_act, mutex_next, mutex_respin}
use Rattle.steps_mutex.specs.MutexSteps.{mutex_owners}
use Rattle.core_base.specs.declared.keys.Line.{Line}
use Rattle.core_base.specs.declared.wants.Want.{Want}
use Rattle.core_base.specs.Keys.{key_of}
use Rattle.steps_base.specs.Profiles.{Profile, blank_row, bringing_nobody, hand_owner}
use Rattle.steps_rwlock.specs.declared.places.Admission.{Admission}
use Rattle.steps_rwlock.specs.RwLockBegins.{admission_of_kind}
use Rattle.steps_rwlock_fair.specs.declared.places.RwLockCallPlace.{RwLockCallPlace}
use Rattle.steps_rwlock_fair.specs.FairBegins.{call_first, call_right}
use Rattle.steps_rwlock_fair.specs.FairSteps.{call_act, call_next, call_owners, call_shares}
use Rattle.steps_rwlock_fair.specs.FairProfiles.{call_profile, call_respin}
use Rattle.steps_mutex.specs.MutexProfiles.{mutex_profile}
use Rattle.steps_once.specs.declared.places.OncePlace.{OncePlace}
use Rattle.steps_once.specs.OnceSteps.{once_first, once_act, once_next, once_respin, once_owners}
use Rattle.steps_once.specs.OnceProfiles.{once_profile}
use Rattle.steps_condvar.specs.declared.places.CondvarPlace.{CondvarPlace}
use Rattle.steps_condvar.specs.CondvarSteps.{HasMutexKey, condvar_act, condvar_first, condvar_right}
use Rattle.steps_condvar.specs.CondvarSteps.{condvar_next, condvar_respin, condvar_owners, mutex_beside}
use Rattle.steps_condvar.specs.CondvarProfiles.{condvar_profile, mutex_side}
use Rattle.steps_semaphore.specs.declared.places.SemaphorePlace.{SemaphorePlace}
use Rattle.steps_semaphore.specs.SemaphoreSteps.{semaphore_act, semaphore_first, semaphore_respin}
use Rattle.steps_semaphore.specs.SemaphoreSteps.{semaphore_next, semaphore_right, semaphore_shares}
use Rattle.steps_semaphore.specs.SemaphoreProfiles.{semaphore_profile}

-- where a call of a lock of a kind begins
abbrev pub first_place : Kind → Call → Place
first_place kind (call.Mutex lock c) = Mutex lock (mutex_first (is_fair kind) c)
first_place kind (call.RwLock lock c) = RwLock lock (admission_of_kind kind) (call_first c)
first_place kind (call.Once lock c) = Once lock (once_first c)
first_place kind (call.Condvar lock c) = Condvar lock (condvar_first c)
first_place kind (call.Semaphore lock c) = Semaphore lock (semaphore_first c)

-- whether a thread has the right that a call needs, of the lock with these owners; a call of a
-- `Once` needs none
abbrev pub has_right : Call → ℕ → Owners → ℕ → Bool
has_right (call.Mutex lock c) t owners shares = mutex_right c t owners
has_right (call.RwLock lock c) t owners shares = call_right c t owners shares
has_right (call.Once lock c) t owners shares = true
has_right (call.Condvar lock c) t owners shares = condvar_right c t owners
has_right (call.Semaphore lock c) t owners shares = semaphore_right c shares

abbrev pub is_idle : Place → Bool
is_idle Idle = true
is_idle (Mutex lock at) = false
is_idle (RwLock lock a at) = false
is_idle (Once lock at) = false
is_idle (Condvar lock at) = false
is_idle (Semaphore lock at) = false

-- the lock that a thread calls
abbrev pub called_lock : Place → Option ℕ
called_lock Idle = None
called_lock (Mutex lock at) = Some lock
called_lock (RwLock lock a at) = Some lock
called_lock (Once lock at) = Some lock
called_lock (Condvar lock at) = Some lock
called_lock (Semaphore lock at) = Some lock

-- whether it is the lock
abbrev pub is_lock : ℕ → Option ℕ → Bool
is_lock lock None = false
is_lock lock (Some own) = own == lock

-- whether a thread calls the lock
abbrev pub calls : Place → ℕ → Bool
calls p lock = is_lock lock (called_lock p)

-- the row of a place at the lock that it calls
abbrev pub profile : Place → Profile
profile Idle = blank_row
profile (Mutex lock at) = bringing_nobody (mutex_profile at)
profile (RwLock lock a at) = call_profile a at
profile (Once lock at) = once_profile at
profile (Condvar lock at) = condvar_profile at
profile (Semaphore lock at) = semaphore_profile at

-- the mutex beside a condition variable that is called
abbrev pub beside_of : Place → Option ℕ
beside_of Idle = None
beside_of (Mutex lock at) = None
beside_of (RwLock lock a at) = None
beside_of (Once lock at) = None
beside_of (Condvar lock at) = mutex_beside at
beside_of (Semaphore lock at) = None

-- What a place says of its thread at the second lock.
abbrev pub profile_at_mutex : Place → Profile
profile_at_mutex Idle = blank_row
profile_at_mutex (Mutex lock at) = blank_row
profile_at_mutex (RwLock lock a at) = blank_row
profile_at_mutex (Once lock at) = blank_row
profile_at_mutex (Condvar lock at) = mutex_side at
profile_at_mutex (Semaphore lock at) = blank_row

-- at any lock
abbrev pub profile_at : Place → ℕ → Profile
profile_at p lock = if calls p lock then profile p else if is_lock lock (beside_of p)
    then profile_at_mutex p else blank_row

-- one place, or else another
abbrev pub or_else : {A : Type 0} → Option A → Option A → Option A
or_else None own = own
or_else (Some x) own = Some x

-- the keys of the lock that a thread calls, and of the mutex beside it, are numbers
abbrev pub HasKeys : Place → Type 0
HasKeys Idle = Unit {0}
HasKeys (Mutex lock at) = lock < 2 ^ 63
HasKeys (RwLock lock a at) = lock < 2 ^ 63
HasKeys (Once lock at) = lock < 2 ^ 63
HasKeys (Condvar lock at) = (lock < 2 ^ 63) × HasMutexKey at
HasKeys (Semaphore lock at) = lock < 2 ^ 63

-- the next act of a thread
abbrev pub act_of : Place → Act
act_of Idle = act.Rest
act_of (Mutex lock at) = mutex_act lock at
act_of (RwLock lock a at) = call_act lock a at
act_of (Once lock at) = once_act lock at
act_of (Condvar lock at) = condvar_act lock at
act_of (Semaphore lock at) = semaphore_act lock at

abbrev pub mutex_goes : ℕ → Next MutexPlace → Place
mutex_goes lock (At at) = Mutex lock at
mutex_goes lock (End answer) = Idle

abbrev pub rwlock_goes : ℕ → Admission → Next RwLockCallPlace → Place
rwlock_goes lock a (At at) = RwLock lock a at
rwlock_goes lock a (End answer) = Idle

abbrev pub once_goes : ℕ → Next OncePlace → Place
once_goes lock (At at) = Once lock at
once_goes lock (End answer) = Idle

abbrev pub condvar_goes : ℕ → Next CondvarPlace → Place
condvar_goes lock (At at) = Condvar lock at
condvar_goes lock (End answer) = Idle

abbrev pub semaphore_goes : ℕ → Next SemaphorePlace → Place
semaphore_goes lock (At at) = Semaphore lock at
semaphore_goes lock (End answer) = Idle

-- where the reply to its act leads a thread
abbrev pub next_place : Place → Reply → Place
next_place Idle reply = Idle
next_place (Mutex lock at) reply = mutex_goes lock (mutex_next at reply)
next_place (RwLock lock a at) reply = rwlock_goes lock a (call_next a at reply)
next_place (Once lock at) reply = once_goes lock (once_next at reply)
next_place (Condvar lock at) reply = condvar_goes lock (condvar_next at reply)
next_place (Semaphore lock at) reply = semaphore_goes lock (semaphore_next at reply)

abbrev pub mutex_does : ℕ → Next MutexPlace → Act
mutex_does lock (At at) = mutex_act lock at
mutex_does lock (End answer) = act.End answer

abbrev pub rwlock_does : ℕ → Admission → Next RwLockCallPlace → Act
rwlock_does lock a (At at) = call_act lock a at
rwlock_does lock a (End answer) = act.End answer

abbrev pub once_does : ℕ → Next OncePlace → Act
once_does lock (At at) = once_act lock at
once_does lock (End answer) = act.End answer

abbrev pub condvar_does : ℕ → Next CondvarPlace → Act
condvar_does lock (At at) = condvar_act lock at
condvar_does lock (End answer) = act.End answer

abbrev pub semaphore_does : ℕ → Next SemaphorePlace → Act
semaphore_does lock (At at) = semaphore_act lock at
semaphore_does lock (End answer) = act.End answer

-- What a thread does at the place to which its reply leads.
abbrev pub next_act : Place → Reply → Act
next_act Idle reply = act.Rest
next_act (Mutex lock at) reply = mutex_does lock (mutex_next at reply)
next_act (RwLock lock a at) reply = rwlock_does lock a (call_next a at reply)
next_act (Once lock at) reply = once_does lock (once_next at reply)
next_act (Condvar lock at) reply = condvar_does lock (condvar_next at reply)
next_act (Semaphore lock at) reply = semaphore_does lock (semaphore_next at reply)

-- a mutex that a notification sees has keys that are numbers
abbrev pub ShowsKeys : Place → Reply → Type 0
ShowsKeys Idle reply = Unit {0}
ShowsKeys (Mutex lock at) reply = Unit {0}
ShowsKeys (RwLock lock a at) reply = Unit {0}
ShowsKeys (Once lock at) reply = Unit {0}
ShowsKeys (Condvar lock at) reply = HasKeys (next_place (Condvar lock at) reply)
ShowsKeys (Semaphore lock at) reply = Unit {0}

-- the owners of the lock after an operation on its word that saw this value; permits are shared rights
abbrev pub owners_after : Place → ℕ → ℕ → Owners → Owners
owners_after Idle t seen owners = owners
owners_after (Mutex lock at) t seen owners = mutex_owners at t seen owners
owners_after (RwLock lock a at) t seen owners = call_owners a at t seen owners
owners_after (Once lock at) t seen owners = once_owners at t seen owners
owners_after (Condvar lock at) t seen owners = condvar_owners at t seen owners
owners_after (Semaphore lock at) t seen owners = owners

-- how many shared rights the thread has then, where their number changes; nobody shares a mutex or
-- a `Once`
abbrev pub shares_after : Place → ℕ → ℕ → Option ℕ
shares_after Idle seen shares = None
shares_after (Mutex lock at) seen shares = None
shares_after (RwLock lock a at) seen shares = call_shares a at seen shares
shares_after (Once lock at) seen shares = None
shares_after (Condvar lock at) seen shares = None
shares_after (Semaphore lock at) seen shares = semaphore_shares at seen shares

-- the want of a thread, where it waits
abbrev pub wants : Place → Option Want
wants p = or_else (profile_at_mutex p).wants (profile p).wants

-- the thread that took this one from its queue, and has not left its section yet
abbrev pub taker : Place → Option ℕ
taker p = hand_owner (or_else (profile_at_mutex p).hand (profile p).hand)

abbrev pub in_mutex : ℕ → Option MutexPlace → Option Place
in_mutex lock None = None
in_mutex lock (Some at) = Some (Mutex lock at)

abbrev pub in_rwlock : ℕ → Admission → Option RwLockCallPlace → Option Place
in_rwlock lock a None = None
in_rwlock lock a (Some at) = Some (RwLock lock a at)

abbrev pub in_once : ℕ → Option OncePlace → Option Place
in_once lock None = None
in_once lock (Some at) = Some (Once lock at)

abbrev pub in_condvar : ℕ → Option CondvarPlace → Option Place
in_condvar lock None = None
in_condvar lock (Some at) = Some (Condvar lock at)

abbrev pub in_semaphore : ℕ → Option SemaphorePlace → Option Place
in_semaphore lock None = None
in_semaphore lock (Some at) = Some (Semaphore lock at)

-- from where a thread looks at the word once more, in place of an act that leads to sleep
abbrev pub respins_from : Place → Option Place
respins_from Idle = None
respins_from (Mutex lock at) = in_mutex lock (mutex_respin at)
respins_from (RwLock lock a at) = in_rwlock lock a (call_respin a at)
respins_from (Once lock at) = in_once lock (once_respin at)
respins_from (Condvar lock at) = in_condvar lock (condvar_respin at)
respins_from (Semaphore lock at) = in_semaphore lock (semaphore_respin at)

-- the key of a line of the lock that a thread calls
abbrev pub key_in : Option ℕ → Option Line → Option ℕ
key_in (Some lock) (Some m) = Some (key_of lock m)
key_in lock m = None

-- the key under which a thread sleeps in a call that may give up
abbrev pub late_key : Place → Option ℕ
late_key p = or_else (key_in (beside_of p) (profile_at_mutex p).late_line)
    (key_in (called_lock p) (profile p).late_line)

-- the line on which a thread owes a wake on a lock
abbrev pub line_owed : Place → ℕ → Option Line
line_owed p lock = or_else (if is_lock lock (beside_of p) then (profile_at_mutex p).owes else None)
    (if calls p lock then (profile p).owes else None)

abbrev pub is_line : Option Line → Bool
is_line None = false
is_line (Some m) = true

-- a thread owes a wake on a lock
abbrev pub owes_on : Place → ℕ → Bool
owes_on p lock = is_line (line_owed p lock)

-- a thread was woken and tries again on a lock
abbrev pub retries_on : Place → ℕ → Bool
retries_on p lock = (is_lock lock (beside_of p) && (profile_at_mutex p).retries)
    || ((profile p).retries && calls p lock)
