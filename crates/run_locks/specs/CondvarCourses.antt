-- Places on the straight course of a wait and of a notification.
use Rattle.std.specs.Prelude.{ℕ, Bool, true, false}
use Rattle.steps_condvar.specs.declared.notify.NotifyAt.{NotifyAt}
use Rattle.steps_condvar.specs.declared.places.CondvarPlace.TheVariants.{Wait, Notify}
use Rattle.steps_condvar.specs.declared.wait.WaiterFate.TheVariants.{Listed}
use Rattle.steps_condvar.specs.declared.wait.WaitAt.{WaitAt}
use Rattle.steps_condvar.specs.declared.wait.WaitAt.TheVariants as wait
use Rattle.steps_mutex.specs.declared.lock.Entry.TheVariants as entry
use Rattle.steps_mutex.specs.declared.lock.LockAt.{LockAt}
use Rattle.steps_mutex.specs.declared.places.MutexPlace.TheVariants as mutex
use Rattle.steps_mutex.specs.declared.unlock.UnlockAt.{UnlockAt}
use Rattle.lot_steps.specs.declared.places.Place.{Place}
use Rattle.lot_steps.specs.declared.places.Place.TheVariants.{Condvar}

-- where a thread stands that waits, and one that notifies
abbrev pub wait_at : ℕ → ℕ → Bool → WaitAt → Place
wait_at c m timed at = Condvar c (Wait m timed at)

abbrev pub notify_at : ℕ → ℕ → Bool → NotifyAt → Place
notify_at c m all at = Condvar c (Notify all m at)

-- a thread in the queue of the condition variable releases the mutex
abbrev pub releases_at : UnlockAt → WaitAt
releases_at at = wait.Release Listed (mutex.Unlock at)

-- a thread that was woken locks it again
abbrev pub locks_at : LockAt → WaitAt
locks_at at = wait.Lock false (mutex.Lock entry.Lock true at)

-- a place of a wait, or of a notification that has seen a mutex
abbrev pub IsOfCondvar : Place → Type 0
IsOfCondvar (Condvar c (Wait m timed at)) = Unit {0}
IsOfCondvar (Condvar c (Notify all m at)) = Unit {0}
IsOfCondvar p = ⊥
