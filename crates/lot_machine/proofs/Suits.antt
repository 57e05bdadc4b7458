-- A place suits the locks that are there, and so does each that a reply leads to from it.
use Rattle.std.proofs.Common.{ℕ, Bool, true, false, if◌then◌else◌, ◌==◌, ◌&&◌, ◌||◌, not, nat_lt, ◌≡◌, ◌<◌}
use Rattle.std.proofs.Common.{inl, inr, length, refl, sym, subst}
use Rattle.std.proofs.lemmas.Bool.{ltb-true}
use Rattle.core_base.specs.declared.notes.Note.TheVariants as note
use Rattle.spec_locks.specs.declared.outcomes.Answer.TheVariants as answer
use Rattle.spec_locks.specs.declared.calls.Call.{Call}
use Rattle.spec_locks.specs.declared.calls.Call.TheVariants as call
use Rattle.spec_locks.specs.declared.calls.CondvarCall.{CondvarCall}
use Rattle.spec_locks.specs.declared.calls.CondvarCall.TheVariants as condvar_call
use Rattle.spec_locks.specs.declared.calls.MutexCall.{MutexCall}
use Rattle.spec_locks.specs.declared.calls.MutexCall.TheVariants as mutex_call
use Rattle.spec_locks.specs.declared.calls.OnceCall.{OnceCall}
use Rattle.spec_locks.specs.declared.calls.RwLockCall.{RwLockCall}
use Rattle.spec_locks.specs.declared.calls.SemaphoreCall.{SemaphoreCall}
use Rattle.spec_locks.specs.declared.kinds.Kind.{Kind}
use Rattle.spec_locks.specs.declared.kinds.Kind.TheVariants as kinds
use Rattle.spec_locks.specs.Calls.{lock_in, mutex_in}
use Rattle.spec_locks.specs.Kinds.{has_call, is_condvar, is_fair, is_plain_mutex}
use Rattle.steps_base.specs.declared.acts.Next.{Next}
use Rattle.steps_base.specs.declared.acts.Next.TheVariants as next
use Rattle.steps_base.specs.declared.acts.Reply.{Reply}
use Rattle.steps_base.specs.declared.acts.Reply.TheVariants.{Done, Value, Parked, Removed, Took, HandedBy}
use Rattle.steps_base.specs.declared.acts.Reply.TheVariants.{Late, Woken}
use Rattle.steps_mutex.specs.declared.lock.Entry.{Entry}
use Rattle.steps_mutex.specs.declared.lock.LockAt.{LockAt}
use Rattle.steps_mutex.specs.declared.lock.LockAt.TheVariants as lock
use Rattle.steps_mutex.specs.declared.unlock.UnlockAt.{UnlockAt}
use Rattle.steps_mutex.specs.declared.unlock.UnlockAt.TheVariants as unlock
use Rattle.steps_mutex.specs.declared.hand_off.HandOffAt.{HandOffAt}
use Rattle.steps_mutex.specs.declared.hand_off.HandOffAt.TheVariants as hand_off
use Rattle.steps_mutex.specs.declared.places.MutexPlace.{MutexPlace}
use Rattle.steps_mutex.specs.declared.places.MutexPlace.TheVariants.{Lock, TryLock, Unlock, UnlockFair, Bump}
use Rattle.steps_mutex.specs.declared.places.MutexPlace.TheVariants.{HandOff}
use Rattle.steps_mutex.specs.MutexSteps.{is_locked, is_parked, is_timed, entered, mutex_next, mutex_first}
use Rattle.steps_mutex.specs.MutexSteps.{next_unlock, next_hand_off, looked, unlock_fair_next, bump_next}
use Rattle.steps_mutex.specs.MutexSteps.{try_next, in_lock, in_unlock, in_hand_off}
use Rattle.steps_rwlock.specs.declared.places.Admission.{Admission}
use Rattle.steps_rwlock_fair.specs.declared.places.RwLockCallPlace.{RwLockCallPlace}
use Rattle.steps_rwlock_fair.specs.FairSteps.{call_next}
use Rattle.steps_once.specs.declared.places.OncePlace.{OncePlace}
use Rattle.steps_once.specs.OnceSteps.{once_next}
use Rattle.steps_semaphore.specs.declared.places.SemaphorePlace.{SemaphorePlace}
use Rattle.steps_semaphore.specs.SemaphoreSteps.{semaphore_next}
use Rattle.steps_condvar.specs.declared.notify.NotifyAt.{NotifyAt}
use Rattle.steps_condvar.specs.declared.notify.NotifyAt.TheVariants as notify
use Rattle.steps_condvar.specs.declared.places.CondvarPlace.{CondvarPlace}
use Rattle.steps_condvar.specs.declared.places.CondvarPlace.TheVariants.{Wait, Look, Notify}
use Rattle.steps_condvar.specs.declared.wait.WaiterFate.{WaiterFate}
use Rattle.steps_condvar.specs.declared.wait.WaiterFate.TheVariants as stands
use Rattle.steps_condvar.specs.declared.wait.WaitAt.{WaitAt}
use Rattle.steps_condvar.specs.declared.wait.WaitAt.TheVariants as wait
use Rattle.steps_condvar.specs.CondvarProfiles.{may_give_up}
use Rattle.steps_condvar.specs.CondvarSteps.{stands_after, comes_from_another, past_release, condvar_next}
use Rattle.steps_condvar.specs.CondvarSteps.{in_notify, in_wait, is_shown, late_place, look_next, mutex_shown}
use Rattle.steps_condvar.specs.CondvarSteps.{notified, next_notify, next_wait, released, relocked}
use Rattle.lot_steps.specs.declared.places.Place.{Place}
use Rattle.lot_steps.specs.declared.places.Place.TheVariants.{Idle, Mutex, RwLock, Once, Condvar, Semaphore}
use Rattle.lot_steps.specs.Steps.{condvar_goes, first_place, mutex_goes, next_place, once_goes, rwlock_goes}
use Rattle.lot_steps.specs.Steps.{semaphore_goes}
use Rattle.lot_machine.specs.Machine.{State, names_mutex_there, holds_right, is_open_to, kind_at}
use Rattle.lot_machine.specs.Fits.{GivesUpTimed, IsOfItsKind, GivesUpOnlyTimed, PlaceFits, ShowsPlainMutex}
use Rattle.lot_machine.specs.Fits.{is_once, is_rwlock, is_semaphore}

abbrev pub Suits : ℕ → (ℕ → Kind) → Place → Type 0
Suits locks kinds p = PlaceFits locks p × IsOfItsKind kinds p

pub both : (a b : Bool) → (a && b) ≡ true → (a ≡ true) × (b ≡ true)
both true b h = (refl, h)
both false b h = cc

-- the call of a thread at this place has a deadline, and it sleeps in it
abbrev pub MayBeLate : Place → Type 0
MayBeLate (Mutex l (Lock entry retries at)) = is_timed entry ≡ true
MayBeLate (Condvar l at) = may_give_up at ≡ true
MayBeLate p = Unit {0}

-- a notification sees a mutex that is there
abbrev pub SeesFit : ℕ → (ℕ → Kind) → Place → ℕ → Type 0
SeesFit locks kinds (Condvar l (Look all)) seen = ShowsPlainMutex locks kinds seen
SeesFit locks kinds p seen = Unit {0}

-- only a timed call is told that it is late
abbrev pub ReplyFits : ℕ → (ℕ → Kind) → Place → Reply → Type 0
ReplyFits locks kinds p Late = MayBeLate p
ReplyFits locks kinds p (Value seen) = SeesFit locks kinds p seen
ReplyFits locks kinds p reply = Unit {0}

-- ---------------------------------------------------------------- mutexes

abbrev pub NextFits : Next MutexPlace → Type 0
NextFits (next.At at) = GivesUpTimed at
NextFits (next.End answer) = Unit {0}

lock_fits : (locks : ℕ) (kinds : ℕ → Kind) (l : ℕ) (entry : Entry) (retries : Bool) (at : LockAt)
    (reply : Reply) → GivesUpTimed (Lock entry retries at)
    → ReplyFits locks kinds (Mutex l (Lock entry retries at)) reply
    → NextFits (mutex_next (Lock entry retries at) reply)
lock_fits locks kinds l entry retries lock.First (Value seen) h late = either (seen == 0)
  where
    either : (b : Bool) → NextFits (in_lock entry retries (if b then next.End (entered entry)
        else next.At lock.Load))
    either true = tt
    either false = tt
lock_fits locks kinds l entry retries (lock.Decide s) (Value seen) h late =
    either (not (seen == s)) (is_locked seen)
  where
    either : (a b : Bool) → NextFits (in_lock entry retries
        (if a then next.At (lock.Decide seen) else if b then next.At
        (lock.Decide 3) else next.End (entered entry)))
    either true b = tt
    either false true = tt
    either false false = tt
lock_fits locks kinds l entry retries lock.Load (Value seen) h late = tt
lock_fits locks kinds l entry retries lock.Check (Parked state_after_park) h late = tt
lock_fits locks kinds l entry retries (lock.Leave true) Done h late = tt
lock_fits locks kinds l entry retries (lock.Leave false) Done h late = tt
lock_fits locks kinds l entry retries lock.Asleep Late h late = late
lock_fits locks kinds l entry retries lock.Asleep (Woken note.Normal) h late = tt
lock_fits locks kinds l entry retries lock.Asleep (Woken note.HandOff) h late = tt
lock_fits locks kinds l entry retries lock.Remove (Removed true) h late = h
lock_fits locks kinds l entry retries lock.Remove (Removed false) h late = h
lock_fits locks kinds l entry retries lock.Clear (Value seen) h late = h
lock_fits locks kinds l entry retries (lock.Taken by) (Woken note.Normal) h late = tt
lock_fits locks kinds l entry retries (lock.Taken by) (HandedBy t alone) h late = tt
lock_fits locks kinds l entry retries (lock.Handed by) (Woken note.HandOff) h late =
    tt
lock_fits locks kinds l entry retries lock.Accept Done h late = tt
lock_fits locks kinds l entry retries lock.GiveUp Done h late = tt
lock_fits locks kinds l entry retries at reply h late = h

try_fits : (reply : Reply) → NextFits (try_next reply)
try_fits (Value seen) = either (is_locked seen)
  where
    either : (b : Bool) → NextFits (if b then next.End answer.No
        else next.End answer.Yes)
    either true = tt
    either false = tt
try_fits reply = tt

unlock_fits : (at : UnlockAt) (reply : Reply) → NextFits (in_unlock (next_unlock at reply))
unlock_fits unlock.Subtract (Value seen) = either (is_parked seen)
  where
    either : (b : Bool) → NextFits (in_unlock (if b then next.At unlock.Enter
        else next.End answer.Ok))
    either true = tt
    either false = tt
unlock_fits unlock.Take (Took any none_left) = either none_left
  where
    either : (b : Bool) → NextFits (in_unlock (if b then next.At (unlock.Clear any)
        else next.At (unlock.Leave any)))
    either true = tt
    either false = tt
unlock_fits unlock.Enter Done = tt
unlock_fits (unlock.Clear taken) (Value seen) = tt
unlock_fits (unlock.Leave taken) Done = tt
unlock_fits at reply = tt

looked_fits : (bumps saw_waiters : Bool) → NextFits (looked bumps saw_waiters)
looked_fits bumps true = tt
looked_fits bumps false = tt

unlock_fair_fits : (reply : Reply) → NextFits (unlock_fair_next reply)
unlock_fair_fits (Value seen) = looked_fits false (not (seen == 1))
unlock_fair_fits reply = tt

bump_fits : (reply : Reply) → NextFits (bump_next reply)
bump_fits (Value seen) = looked_fits true (is_parked seen)
bump_fits reply = tt

hand_off_fits : (bumps : Bool) (at : HandOffAt) (reply : Reply)
    → NextFits (in_hand_off bumps (next_hand_off at reply))
hand_off_fits bumps hand_off.Take (Took any none_left) = tt
hand_off_fits bumps hand_off.Enter Done = tt
hand_off_fits bumps (hand_off.Store taken none_left) (Value seen) = tt
hand_off_fits true (hand_off.Leave taken) Done = tt
hand_off_fits false (hand_off.Leave taken) Done = tt
hand_off_fits bumps at reply = tt

mutex_suits : (locks : ℕ) (kinds : ℕ → Kind) (l : ℕ) (at : MutexPlace) (n : Next MutexPlace)
    → Suits locks kinds (Mutex l at) → NextFits n → Suits locks kinds (mutex_goes l n)
mutex_suits locks kinds l at (next.At at2) h fits = ((h.0.0, fits), h.1)
mutex_suits locks kinds l at (next.End answer) h fits = (tt, tt)

rwlock_suits : (locks : ℕ) (kinds : ℕ → Kind) (l : ℕ) (a : Admission) (at : RwLockCallPlace)
    (n : Next RwLockCallPlace) → Suits locks kinds (RwLock l a at) → Suits locks kinds (rwlock_goes l a n)
rwlock_suits locks kinds l a at (next.At at2) h = h
rwlock_suits locks kinds l a at (next.End answer) h = (tt, tt)

once_suits : (locks : ℕ) (kinds : ℕ → Kind) (l : ℕ) (at : OncePlace) (n : Next OncePlace)
    → Suits locks kinds (Once l at) → Suits locks kinds (once_goes l n)
once_suits locks kinds l at (next.At at2) h = h
once_suits locks kinds l at (next.End answer) h = (tt, tt)

semaphore_suits : (locks : ℕ) (kinds : ℕ → Kind) (l : ℕ) (at : SemaphorePlace) (n : Next SemaphorePlace)
    → Suits locks kinds (Semaphore l at) → Suits locks kinds (semaphore_goes l n)
semaphore_suits locks kinds l at (next.At at2) h = h
semaphore_suits locks kinds l at (next.End answer) h = (tt, tt)

-- ---------------------------------------------------------------- condition variables

module _ (locks : ℕ) (kinds : ℕ → Kind) (c : ℕ) where
  module _ (m : ℕ) (timed : Bool) where
    abbrev TimelyNext : Next WaitAt → Type 0
    TimelyNext (next.At at) = GivesUpOnlyTimed (Wait m timed at)
    TimelyNext (next.End answer) = Unit {0}

    -- a thread that has released its mutex is not late
    after_timely : (s : WaiterFate) → GivesUpOnlyTimed (Wait m timed (past_release s))
    after_timely (stands.Noted note.Normal) = tt
    after_timely (stands.Noted note.HandOff) = tt
    after_timely s = tt

    releases_timely : (s : WaiterFate) (at : MutexPlace) (n : Next MutexPlace) (b : Bool)
        → GivesUpOnlyTimed (Wait m timed (if b then wait.Release s at else released s n))
    releases_timely s at n true = tt
    releases_timely s at (next.At at2) false = tt
    releases_timely s at (next.End answer) false = after_timely s

    relocks_timely : (timed_out : Bool) (at : MutexPlace) (n : Next MutexPlace)
        → GivesUpOnlyTimed (Wait m timed (wait.Lock timed_out at)) → TimelyNext (relocked timed timed_out n)
    relocks_timely timed_out at (next.At at2) h = h
    relocks_timely timed_out at (next.End answer) h = tt

    late_timely : (s : WaiterFate) → timed ≡ true → GivesUpOnlyTimed (Wait m timed (late_place s))
    late_timely stands.Listed late = late
    late_timely stands.Moved late = late
    late_timely s late = tt

    wait_timely : (at : WaitAt) (reply : Reply) → GivesUpOnlyTimed (Wait m timed at)
        → ReplyFits locks kinds (Condvar c (Wait m timed at)) reply → TimelyNext (next_wait m timed at reply)
    wait_timely wait.Enter Done h r = tt
    wait_timely wait.Show (Value seen) h r = either ((seen == 0) || is_shown seen m)
      where
        either : (b : Bool) → TimelyNext (if b then next.At wait.Stand else next.At
            wait.Refuse)
        either true = tt
        either false = tt
    wait_timely wait.Stand Done h r = tt
    wait_timely wait.Leave Done h r = tt
    wait_timely wait.Refuse Done h r = tt
    wait_timely (wait.Release s at) reply h r = releases s at reply
      where
        releases : (s : WaiterFate) (at : MutexPlace) (reply : Reply)
            → TimelyNext (next_wait m timed (wait.Release s at) reply)
        releases s at reply = elim (comes_from_another reply) as
            (λ b. GivesUpOnlyTimed (Wait m timed (if b then wait.Release (stands_after s reply) at
            else released s (mutex_next at reply)))) [
              | true ↦ tt
              | false ↦ releases_timely s at (mutex_next at reply) false
            ]
    wait_timely (wait.Asleep s) Late h r = late_timely s r
    wait_timely (wait.Asleep s) reply h r = after_timely (stands_after s reply)
    wait_timely wait.Remove (Removed none_left) h r = either none_left
      where
        either : (b : Bool) → TimelyNext (if b then next.At wait.Hide else next.At
            wait.GiveUp)
        either true = h
        either false = h
    wait_timely wait.Hide (Value seen) h r = h
    wait_timely wait.GiveUp Done h r = h
    wait_timely wait.RemoveMoved (Removed none_left) h r = tt
    wait_timely (wait.GiveUpMoved none_left) Done h r = tt
    wait_timely (wait.Lock timed_out at) reply h r = relocks_timely timed_out at (mutex_next at reply) h
    wait_timely at reply h r = h

    wait_suits : (at : WaitAt) (n : Next WaitAt) → Suits locks kinds (Condvar c (Wait m timed at))
        → TimelyNext n → Suits locks kinds (condvar_goes c (in_wait m timed n))
    wait_suits at (next.At at2) h timely = ((h.0.0, h.0.1, timely), h.1)
    wait_suits at (next.End answer) h timely = (tt, tt)

  notify_suits : (all : Bool) (m : ℕ) (at : NotifyAt) (n : Next NotifyAt) → Suits locks kinds
      (Condvar c (Notify all m at)) → Suits locks kinds (condvar_goes c (in_notify all m n))
  notify_suits all m at (next.At at2) h = h
  notify_suits all m at (next.End answer) h = (tt, tt)

  -- a notification goes on with the mutex that it sees
  looks_suit : (all : Bool) (seen : ℕ) → Suits locks kinds (Condvar c (Look all))
      → ShowsPlainMutex locks kinds seen → Suits locks kinds (condvar_goes c (look_next all seen))
  looks_suit all seen h (inl none) = subst (λ v. Suits locks kinds (condvar_goes c (look_next all v)))
      (sym none) (tt, tt)
  looks_suit all seen h (inr shown) = either (seen == 0)
    where
      either : (b : Bool) → Suits locks kinds (condvar_goes c (if b then next.End (notified all 0)
          else next.At (Notify all (mutex_shown seen) notify.Enter)))
      either true = (tt, tt)
      either false = ((h.0.0, shown.0, tt), (h.1.0, shown.1))

  condvar_suits : (at : CondvarPlace) (reply : Reply) → Suits locks kinds (Condvar c at)
      → ReplyFits locks kinds (Condvar c at) reply
      → Suits locks kinds (condvar_goes c (condvar_next at reply))
  condvar_suits (Wait m timed at) reply h r = wait_suits m timed at (next_wait m timed at reply) h
      (wait_timely m timed at reply h.0.2 r)
  condvar_suits (Notify all m at) reply h r = notify_suits all m at (next_notify all m at reply) h
  condvar_suits (Look all) (Value seen) h r = looks_suit all seen h r
  condvar_suits (Look all) reply h r = h

-- ---------------------------------------------------------------- every place

pub next_suits : (locks : ℕ) (kinds : ℕ → Kind) (p : Place) (reply : Reply) → Suits locks kinds p
    → ReplyFits locks kinds p reply → Suits locks kinds (next_place p reply)
next_suits locks kinds Idle reply h r = (tt, tt)
next_suits locks kinds (Mutex l (Lock entry retries at)) reply h r = mutex_suits locks kinds l
    (Lock entry retries at) (mutex_next (Lock entry retries at) reply) h (lock_fits locks kinds l entry
    retries at reply h.0.1 r)
next_suits locks kinds (Mutex l TryLock) reply h r = mutex_suits locks kinds l TryLock
    (mutex_next TryLock reply) h (try_fits reply)
next_suits locks kinds (Mutex l (Unlock at)) reply h r = mutex_suits locks kinds l (Unlock at)
    (mutex_next (Unlock at) reply) h (unlock_fits at reply)
next_suits locks kinds (Mutex l UnlockFair) reply h r = mutex_suits locks kinds l UnlockFair
    (mutex_next UnlockFair reply) h (unlock_fair_fits reply)
next_suits locks kinds (Mutex l Bump) reply h r = mutex_suits locks kinds l Bump (mutex_next Bump reply) h
    (bump_fits reply)
next_suits locks kinds (Mutex l (HandOff bumps at)) reply h r = mutex_suits locks kinds l (HandOff bumps at)
    (mutex_next (HandOff bumps at) reply) h (hand_off_fits bumps at reply)
next_suits locks kinds (RwLock l a at) reply h r = rwlock_suits locks kinds l a at (call_next a at reply) h
next_suits locks kinds (Once l at) reply h r = once_suits locks kinds l at (once_next at reply) h
next_suits locks kinds (Semaphore l at) reply h r = semaphore_suits locks kinds l at (semaphore_next at reply)
    h
next_suits locks kinds (Condvar l at) reply h r = condvar_suits locks kinds l at reply h r

-- ---------------------------------------------------------------- calls

first_fits : (locks l : ℕ) (fair : Bool) (c : MutexCall) → l < locks
    → PlaceFits locks (Mutex l (mutex_first fair c))
first_fits locks l fair mutex_call.Lock h = (h, tt)
first_fits locks l fair mutex_call.LockTimed h = (h, tt)
first_fits locks l fair mutex_call.TryLock h = (h, tt)
first_fits locks l true mutex_call.Unlock h = (h, tt)
first_fits locks l false mutex_call.Unlock h = (h, tt)
first_fits locks l fair mutex_call.UnlockFair h = (h, tt)
first_fits locks l fair mutex_call.Bump h = (h, tt)

mutex_called : (k : Kind) (l : ℕ) (c : MutexCall) → has_call k (call.Mutex l c) ≡ true
    → (is_plain_mutex k || is_fair k) ≡ true
mutex_called kinds.Mutex l c has = refl
mutex_called kinds.Fair l c has = refl
mutex_called k l c has = absurd cc

rwlock_called : (k : Kind) (l : ℕ) (c : RwLockCall) → has_call k (call.RwLock l c) ≡ true
    → is_rwlock k ≡ true
rwlock_called (kinds.RwLock limit) l c has = refl
rwlock_called (kinds.Recursive limit) l c has = refl
rwlock_called k l c has = absurd cc

once_called : (k : Kind) (l : ℕ) (c : OnceCall) → has_call k (call.Once l c) ≡ true
    → is_once k ≡ true
once_called kinds.Once l c has = refl
once_called k l c has = absurd cc

semaphore_called : (k : Kind) (l : ℕ) (c : SemaphoreCall) → has_call k (call.Semaphore l c) ≡ true
    → is_semaphore k ≡ true
semaphore_called (kinds.Semaphore permits) l c has = refl
semaphore_called k l c has = absurd cc

condvar_called : (k : Kind) (l : ℕ) (c : CondvarCall) → has_call k (call.Condvar l c) ≡ true
    → is_condvar k ≡ true
condvar_called kinds.Condvar l c has = refl
condvar_called k l c has = absurd cc

-- a call that may begin stands at a lock of its own kind, and a wait names a plain mutex
pub call_suits : (w : State) (t : ℕ) (c : Call) → is_open_to w t c ≡ true → Suits (length w.locks) (kind_at w)
    (first_place (kind_at w (lock_in c)) c)
call_suits w t c may =
    let parts = both (nat_lt (lock_in c) (length w.locks)) (has_call (kind_at w (lock_in c)) c &&
    (names_mutex_there w (mutex_in c) && holds_right w t c)) may in
    let has = both (has_call (kind_at w (lock_in c)) c) (names_mutex_there w (mutex_in c) && holds_right w t
    c) parts.1 in
    by_call c (ltb-true (lock_in c) (length w.locks) parts.0) has.0 (both (names_mutex_there w (mutex_in c))
    (holds_right w t c) has.1).0
  where
    by_call : (c : Call) → lock_in c < length w.locks → has_call (kind_at w (lock_in c)) c ≡ true
        → names_mutex_there w (mutex_in c) ≡ true → Suits (length w.locks) (kind_at w)
        (first_place (kind_at w (lock_in c)) c)
    by_call (call.Mutex l c) lt has m =
        (first_fits (length w.locks) l (is_fair (kind_at w l)) c lt, mutex_called (kind_at w l) l c has)
    by_call (call.RwLock l c) lt has m = (lt, rwlock_called (kind_at w l) l c has)
    by_call (call.Once l c) lt has m = (lt, once_called (kind_at w l) l c has)
    by_call (call.Semaphore l c) lt has m = (lt, semaphore_called (kind_at w l) l c has)
    by_call (call.Condvar l (condvar_call.Wait m timed)) lt has there =
        let of = both (nat_lt m (length w.locks)) (is_plain_mutex (kind_at w m)) there in (
          (lt, ltb-true m (length w.locks) of.0, tt),
          (condvar_called (kind_at w l) l (condvar_call.Wait m timed) has, of.1),
        )
    by_call (call.Condvar l (condvar_call.Notify all)) lt has there =
        ((lt, tt, tt), (condvar_called (kind_at w l) l (condvar_call.Notify all) has, tt))
