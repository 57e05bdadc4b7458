-- Places on the straight courses of a lock that parks, and of a fair unlock that saw a waiter.
use Rattle.std.specs.Prelude.{ℕ, false}
use Rattle.steps_mutex.specs.declared.hand_off.HandOffAt.{HandOffAt}
use Rattle.steps_mutex.specs.declared.lock.Entry.{Entry}
use Rattle.steps_mutex.specs.declared.lock.LockAt.{LockAt}
use Rattle.steps_mutex.specs.declared.places.MutexPlace.TheVariants as mutex
use Rattle.lot_steps.specs.declared.places.Place.{Place}
use Rattle.lot_steps.specs.declared.places.Place.TheVariants.{Mutex}

-- where a thread stands that locks a mutex, and has not been woken yet
abbrev pub locks_at : ℕ → Entry → LockAt → Place
locks_at m e at = Mutex m (mutex.Lock e false at)

-- where one stands that hands it over, and does not bump
abbrev pub hands_at : ℕ → HandOffAt → Place
hands_at m at = Mutex m (mutex.HandOff false at)

-- a place of a mutex's call
abbrev pub IsOfMutex : Place → Type 0
IsOfMutex (Mutex m at) = Unit {0}
IsOfMutex p = ⊥
