-- The rows of a mutex: all that is asked of them beside their promises.
use Rattle.lot_laws.proofs.Imports
use Imports.{ℕ, Bool, true, false, if◌then◌else◌, not, ◌≡◌, ◌≢◌, ◌+◌, ◌*◌, inl, inr, refl, One, Sleep, LetsIn}
use Imports.{is_acting, Entry, MutexPlace, Lock, LockAt, UnlockAt, mutex_row, lock_row, mutex_act, unlock_act}
use Imports.{mutex_promises}
use Rattle.core_base.specs.declared.ops.Op.TheVariants as op
use Rattle.steps_base.specs.declared.acts.Act.TheVariants as act
use Rattle.steps_mutex.specs.declared.lock.Entry.TheVariants as entries
use Rattle.steps_mutex.specs.declared.lock.LockAt.TheVariants as lock
use Rattle.steps_mutex.specs.declared.unlock.UnlockAt.TheVariants as unlock
use Rattle.spec_locks.specs.Locks as locks

pub mutex_acts : (l : ℕ) (at : MutexPlace) → is_acting (mutex_act l at) ≡ true
mutex_acts l at = (mutex_promises l at).acts

-- a call that enters owes just while it is inside the section
pub lock_owes : (timed retries : Bool) (at : LockAt) → (lock_row timed retries at).role.inside
    ≡ (lock_row timed retries at).owes
lock_owes timed retries lock.First = refl
lock_owes timed retries at = refl

-- A lock's place lets nobody in.
pub shut : (l : ℕ) (e : Entry) (r : Bool) (at : LockAt) → LetsIn locks.Mutex l (mutex_row (Lock e r at)) → ⊥
shut l entries.Lock r at (inl h) = h
shut l entries.LockTimed r at (inl h) = h
shut l entries.Bump r at (inl h) = let f : true ≡ false = h.1 in cc
shut l e r at (inr h) = let f = h.0 in cc

pub decided_awake : (l seen : ℕ) (is_owned is_one : Bool)
    → (if not is_owned then act.Word l (op.Exchange seen (seen + 1)) else if is_one
    then act.Word l (op.Exchange 1 3) else act.Enter (One (2 * l)))
    ≢ Sleep
decided_awake l seen false is_one e = cc
decided_awake l seen true true e = cc
decided_awake l seen true false e = cc

pub unlock_awake : (l : ℕ) (a : UnlockAt) → unlock_act l a ≢ Sleep
unlock_awake l unlock.Subtract e = cc
unlock_awake l unlock.Enter e = cc
unlock_awake l unlock.Take e = cc
unlock_awake l (unlock.Clear taken) e = cc
unlock_awake l (unlock.Leave taken) e = cc
