-- A place says of its thread at a condition variable: its next act inside, and the mutex that its wait
-- names. Nothing that befalls the thread changes either.
use Rattle.lot_laws.proofs.Imports
use Imports.{ℕ, Bool, true, false, Option, None, if◌then◌else◌, ◌==◌, ◌≡◌, refl, ◌∙◌, ap, SemaphorePlace}
use Imports.{semaphore_next, Note, Next, Reply, TakenBy, MovedTo, HandedBy, Woken, Profile, blank_row}
use Imports.{MutexPlace, LockAt, UnlockAt, HandOffAt, in_hand_off, in_unlock, mutex_next, next_hand_off}
use Imports.{next_lock, next_unlock, still_retries, RwLockCallPlace, call_next, OncePlace, once_next, NotifyAt}
use Imports.{CondvarPlace, Wait, Look, Notify, WaitAt, condvar_profile, condvar_row, mutex_side, condvar_next}
use Imports.{in_wait, mutex_beside, relocked, Place, Idle, Mutex, RwLock, Once, Condvar, Semaphore}
use Imports.{condvar_goes, is_lock, mutex_goes, profile, next_place, once_goes, profile_at, rwlock_goes}
use Imports.{semaphore_goes, CondvarPhase}
use Rattle.core_base.specs.declared.notes.Note.TheVariants as note
use Rattle.steps_base.specs.declared.acts.Next.TheVariants as next
use Rattle.steps_mutex.specs.declared.places.MutexPlace.TheVariants as mutex
use Rattle.steps_mutex.specs.declared.lock.LockAt.TheVariants as lock
use Rattle.steps_mutex.specs.declared.unlock.UnlockAt.TheVariants as unlock
use Rattle.steps_mutex.specs.declared.hand_off.HandOffAt.TheVariants as hand_off
use Rattle.steps_mutex.specs.MutexSteps.{in_lock}
use Rattle.steps_condvar.specs.declared.notify.NotifyAt.TheVariants as notify
use Rattle.steps_condvar.specs.declared.wait.WaitAt.TheVariants as wait
use Rattle.lot_laws.proofs.machine.PlaceTest.{IsSilent, call_facts, mutex_row_facts, once_facts}
use Rattle.lot_laws.proofs.machine.PlaceTest.{semaphore_facts}
use Rattle.lot_laws.proofs.promises.RowPromises.{Befalls}

-- ---------------------------------------------------------------- by the place

abbrev pub stage_of : Place → ℕ → Option CondvarPhase
stage_of (Condvar c at) k = if c == k then (condvar_row at).stage else None
stage_of p k = None

abbrev pub names_of : Place → ℕ → Option ℕ
names_of (Condvar c at) k = if c == k then (condvar_row at).waits_with else None
names_of p k = None

-- a call of another lock says nothing of either
nothing : (row : Profile) → IsSilent row → (b : Bool) → ((if b then row else blank_row).stage ≡ None)
    × ((if b then row else blank_row).names ≡ None)
nothing row says true = (says.stage, says.names)
nothing row says false = (refl, refl)

pub row_says : (p : Place) (k : ℕ) → ((profile_at p k).stage ≡ stage_of p k)
    × ((profile_at p k).names ≡ names_of p k)
row_says Idle k = (refl, refl)
row_says (Mutex l at) k = nothing (profile (Mutex l at)) (mutex_row_facts l at).silent (l == k)
row_says (RwLock l a c) k = nothing (profile (RwLock l a c)) (call_facts l a c).silent (l == k)
row_says (Once l at) k = nothing (profile (Once l at)) (once_facts l at).silent (l == k)
row_says (Semaphore l at) k = nothing (profile (Semaphore l at)) (semaphore_facts l at).silent (l == k)
row_says (Condvar c at) k = either (c == k) (is_lock k (mutex_beside at))
  where
    either : (here there : Bool)
        → (((if here then condvar_profile at else if there then mutex_side at else blank_row)).stage
        ≡ (if here then (condvar_row at).stage else None))
        × (((if here then condvar_profile at else if there then mutex_side at else blank_row)).names
        ≡ (if here then (condvar_row at).waits_with else None))
    either true there = (refl, refl)
    either false true = (refl, refl)
    either false false = (refl, refl)

-- ---------------------------------------------------------------- whatever befalls its thread

-- by the four replies that tell what another thread has done
pub befalling : (P : Reply → Type 0) → ((t : ℕ) → P (TakenBy t)) → ((key : ℕ) → P (MovedTo key))
    → ((t : ℕ) (alone : Bool) → P (HandedBy t alone)) → ((n : Note) → P (Woken n)) → (r : Reply) → Befalls r
    → P r
befalling P taken moved handed woken (TakenBy t) h = taken t
befalling P taken moved handed woken (MovedTo key) h = moved key
befalling P taken moved handed woken (HandedBy t alone) h = handed t alone
befalling P taken moved handed woken (Woken n) h = woken n
befalling P taken moved handed woken r h = absurd h

abbrev GoesOn : MutexPlace → Reply → Type 0
GoesOn at r = (b : MutexPlace) × (mutex_next at r ≡ next.At b)

-- a call of a mutex goes on
mutex_goes_on : (at : MutexPlace) (r : Reply) → Befalls r → GoesOn at r
mutex_goes_on (mutex.Lock e again a) r h = (
  mutex.Lock e (still_retries again r) (locks a r h).0,
  ap (in_lock e (still_retries again r)) (locks a r h).1,
)
  where
    locks : (a : LockAt) (r : Reply) → Befalls r → (b : LockAt) × (next_lock e a r ≡ next.At b)
    locks lock.Asleep (TakenBy t) h = (lock.Taken t, refl)
    locks lock.Asleep (Woken note.Normal) h = (lock.Load, refl)
    locks lock.Asleep (Woken note.HandOff) h = (lock.Accept, refl)
    locks (lock.Taken by) (Woken note.Normal) h = (lock.Load, refl)
    locks (lock.Taken by) (HandedBy t alone) h = (lock.Handed t, refl)
    locks (lock.Handed by) (Woken note.HandOff) h = (lock.Accept, refl)
    locks a (TakenBy t) h = (a, refl)
    locks a (MovedTo key) h = (a, refl)
    locks a (HandedBy t alone) h = (a, refl)
    locks a (Woken note.Normal) h = (a, refl)
    locks a (Woken note.HandOff) h = (a, refl)
    locks a r h = absurd h
mutex_goes_on mutex.TryLock r h = befalling (GoesOn mutex.TryLock) (λ t. (mutex.TryLock, refl))
    (λ key. (mutex.TryLock, refl)) (λ t alone. (mutex.TryLock, refl)) (λ n. (mutex.TryLock, refl)) r h
mutex_goes_on mutex.UnlockFair r h = befalling (GoesOn mutex.UnlockFair) (λ t. (mutex.UnlockFair, refl))
    (λ key. (mutex.UnlockFair, refl)) (λ t alone. (mutex.UnlockFair, refl)) (λ n. (mutex.UnlockFair, refl)) r
    h
mutex_goes_on mutex.Bump r h = befalling (GoesOn mutex.Bump) (λ t. (mutex.Bump, refl))
    (λ key. (mutex.Bump, refl)) (λ t alone. (mutex.Bump, refl)) (λ n. (mutex.Bump, refl)) r h
mutex_goes_on (mutex.Unlock a) r h = (mutex.Unlock a, ap in_unlock (unlocks a r h))
  where
    unlocks : (a : UnlockAt) (r : Reply) → Befalls r → next_unlock a r ≡ next.At a
    unlocks unlock.Subtract (TakenBy t) h = refl
    unlocks a (TakenBy t) h = refl
    unlocks a (MovedTo key) h = refl
    unlocks a (HandedBy t alone) h = refl
    unlocks a (Woken n) h = refl
    unlocks a r h = absurd h
mutex_goes_on (mutex.HandOff bumps a) r h = (mutex.HandOff bumps a, ap (in_hand_off bumps) (hands a r h))
  where
    hands : (a : HandOffAt) (r : Reply) → Befalls r → next_hand_off a r ≡ next.At a
    hands hand_off.Enter (TakenBy t) h = refl
    hands a (TakenBy t) h = refl
    hands a (MovedTo key) h = refl
    hands a (HandedBy t alone) h = refl
    hands a (Woken n) h = refl
    hands a r h = absurd h

-- the thread goes on there, and says the same
pub record SaysTheSame (p : CondvarPlace) (r : Reply) : Type 0 where
  pub place : CondvarPlace
  pub goes : condvar_next p r ≡ next.At place
  pub stage : (condvar_row place).stage ≡ (condvar_row p).stage
  pub names : (condvar_row place).waits_with ≡ (condvar_row p).waits_with

says : (m : ℕ) (timed : Bool) (at : WaitAt) (r : Reply) → Befalls r → SaysTheSame (Wait m timed at) r
says m timed (wait.Release s at) r h = befalling (SaysTheSame (Wait m timed (wait.Release s at)))
    (λ t. record { place = _; goes = refl; stage = refl; names = refl })
    (λ key. record { place = _; goes = refl; stage = refl; names = refl })
    (λ t alone. record { place = _; goes = refl; stage = refl; names = refl })
    (λ n. record { place = _; goes = refl; stage = refl; names = refl })
    r h
says m timed (wait.Asleep s) r h = befalling (SaysTheSame (Wait m timed (wait.Asleep s)))
    (λ t. record { place = _; goes = refl; stage = refl; names = refl })
    (λ key. record { place = _; goes = refl; stage = refl; names = refl })
    (λ t alone. record { place = _; goes = refl; stage = refl; names = refl })
    woken r h
  where
    woken : (n : Note) → SaysTheSame (Wait m timed (wait.Asleep s)) (Woken n)
    woken note.Normal = record { place = _; goes = refl; stage = refl; names = refl }
    woken note.HandOff = record { place = _; goes = refl; stage = refl; names = refl }
says m timed (wait.Lock late at) r h = let k = mutex_goes_on at r h in record {
  place = Wait m timed (wait.Lock late k.0);
  goes = by_reply r h ∙ ap (λ n. in_wait m timed (relocked timed late n)) k.1;
  stage = refl;
  names = refl;
}
  where
    by_reply : (r : Reply) → Befalls r
        → condvar_next (Wait m timed (wait.Lock late at)) r ≡ in_wait m timed
        (relocked timed late (mutex_next at r))
    by_reply r h = refl
says m timed wait.Enter (TakenBy t) h = record { place = _; goes = refl; stage = refl; names = refl }
says m timed at (TakenBy t) h = record { place = _; goes = refl; stage = refl; names = refl }
says m timed at (MovedTo key) h = record { place = _; goes = refl; stage = refl; names = refl }
says m timed at (HandedBy t alone) h = record { place = _; goes = refl; stage = refl; names = refl }
says m timed at (Woken n) h = record { place = _; goes = refl; stage = refl; names = refl }
says m timed at r h = absurd h

notifies : (all : Bool) (m : ℕ) (at : NotifyAt) (r : Reply) → Befalls r → SaysTheSame (Notify all m at) r
notifies all m notify.Enter (TakenBy t) h = record { place = _; goes = refl; stage = refl; names = refl }
notifies all m at (TakenBy t) h = record { place = _; goes = refl; stage = refl; names = refl }
notifies all m at (MovedTo key) h = record { place = _; goes = refl; stage = refl; names = refl }
notifies all m at (HandedBy t alone) h = record { place = _; goes = refl; stage = refl; names = refl }
notifies all m at (Woken n) h = record { place = _; goes = refl; stage = refl; names = refl }
notifies all m at r h = absurd h

says_same : (p : CondvarPlace) (r : Reply) → Befalls r → SaysTheSame p r
says_same (Wait m timed at) r h = says m timed at r h
says_same (Notify all m at) r h = notifies all m at r h
says_same (Look all) r h = befalling (SaysTheSame (Look all))
    (λ t. record { place = _; goes = refl; stage = refl; names = refl })
    (λ key. record { place = _; goes = refl; stage = refl; names = refl })
    (λ t alone. record { place = _; goes = refl; stage = refl; names = refl })
    (λ n. record { place = _; goes = refl; stage = refl; names = refl })
    r h

pub stage_unmoved : (k : ℕ) (p : Place) (r : Reply) → Befalls r → stage_of (next_place p r) k ≡ stage_of p k
stage_unmoved k Idle r h = refl
stage_unmoved k (Mutex l at) r h = by_next (mutex_next at r)
  where
    by_next : (n : Next MutexPlace) → stage_of (mutex_goes l n) k ≡ None
    by_next (next.At q) = refl
    by_next (next.End answer) = refl
stage_unmoved k (RwLock l a c) r h = by_next (call_next a c r)
  where
    by_next : (n : Next RwLockCallPlace) → stage_of (rwlock_goes l a n) k ≡ None
    by_next (next.At q) = refl
    by_next (next.End answer) = refl
stage_unmoved k (Once l at) r h = by_next (once_next at r)
  where
    by_next : (n : Next OncePlace) → stage_of (once_goes l n) k ≡ None
    by_next (next.At q) = refl
    by_next (next.End answer) = refl
stage_unmoved k (Semaphore l at) r h = by_next (semaphore_next at r)
  where
    by_next : (n : Next SemaphorePlace) → stage_of (semaphore_goes l n) k ≡ None
    by_next (next.At q) = refl
    by_next (next.End answer) = refl
stage_unmoved k (Condvar c at) r h = let x = says_same at r h in ap (λ n. stage_of (condvar_goes c n) k)
    x.goes ∙ ap (λ o. if c == k then o else None) x.stage

pub names_unmoved : (k : ℕ) (p : Place) (r : Reply) → Befalls r → names_of (next_place p r) k ≡ names_of p k
names_unmoved k Idle r h = refl
names_unmoved k (Mutex l at) r h = by_next (mutex_next at r)
  where
    by_next : (n : Next MutexPlace) → names_of (mutex_goes l n) k ≡ None
    by_next (next.At q) = refl
    by_next (next.End answer) = refl
names_unmoved k (RwLock l a c) r h = by_next (call_next a c r)
  where
    by_next : (n : Next RwLockCallPlace) → names_of (rwlock_goes l a n) k ≡ None
    by_next (next.At q) = refl
    by_next (next.End answer) = refl
names_unmoved k (Once l at) r h = by_next (once_next at r)
  where
    by_next : (n : Next OncePlace) → names_of (once_goes l n) k ≡ None
    by_next (next.At q) = refl
    by_next (next.End answer) = refl
names_unmoved k (Semaphore l at) r h = by_next (semaphore_next at r)
  where
    by_next : (n : Next SemaphorePlace) → names_of (semaphore_goes l n) k ≡ None
    by_next (next.At q) = refl
    by_next (next.End answer) = refl
names_unmoved k (Condvar c at) r h = let x = says_same at r h in ap (λ n. names_of (condvar_goes c n) k)
    x.goes ∙ ap (λ o. if c == k then o else None) x.names
