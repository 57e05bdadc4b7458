-- The picker of a reader-writer lock's main queue picks the threads that the abstract lock says.
use Rattle.std.specs.Prelude.{ℕ, Option, ◌≡◌, ◌≢◌, List, map}
use Rattle.core_base.specs.declared.wants.Waiter.{Waiter}
use Rattle.core_base.specs.declared.wants.Want.{Want}
use Rattle.core_base.specs.Lines.{line}
use Rattle.core_base.specs.Picks.{lock_picked, without_lock_picked}
use Rattle.spec_locks.specs.Locks.{Sort, Queued, is_recursive, picked, unpicked}

-- a waiter of a lock's queue
abbrev pub queued_of : Waiter → Queued
queued_of x = record { thread = x.thread; want = x.want }

-- the waiters under a key, as a lock's queue
abbrev pub queue_under : ℕ → List Waiter → List Queued
queue_under key waiters = map queued_of (line key waiters)

-- the waiters that a thread picks of the line of a key, by the right that it keeps, if any
pub record PicksAsTheLockSays (sort : Sort) (start : Option Want) (key : ℕ)
    (waiters : List Waiter) : Type 0 where
  -- the picker takes just the waiters that the lock says, in order
  pub taken : map queued_of (lock_picked start (is_recursive sort) (line key waiters))
      ≡ picked sort start (queue_under key waiters)
  -- the picker leaves just the others, in order
  pub left : queue_under key (without_lock_picked start (is_recursive sort) key waiters)
      ≡ unpicked sort start (queue_under key waiters)
  -- Every other line stays as it was.
  pub elsewhere : (k : ℕ) → k ≢ key
      → line k (without_lock_picked start (is_recursive sort) key waiters) ≡ line k waiters

-- for every right that it keeps, and every waiter with any want; a thread may stand there twice
abbrev pub PickersPickAsTheLocksSay : Type 0
PickersPickAsTheLocksSay =
    (sort : Sort) (start : Option Want) (key : ℕ) (waiters : List Waiter)
    → PicksAsTheLockSays sort start key waiters
