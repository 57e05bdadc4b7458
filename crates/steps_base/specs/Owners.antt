-- The owners of a lock.
use Rattle.std.specs.Prelude.{ℕ, Bool, true, false, Option, Some, None, ◌==◌, List, map, slice_set}
use Rattle.core_base.specs.declared.wants.Waiter.{Waiter}
use Rattle.core_base.specs.Lines.{first_of}
use Rattle.steps_base.specs.declared.owners.Owners.{Owners}
use Rattle.steps_base.specs.declared.owners.Pending as owners
use Rattle.steps_base.specs.declared.owners.Fallback.{Fallback}
use Rattle.steps_base.specs.declared.owners.Fallback.TheVariants as fallbacks
use Rattle.steps_base.specs.declared.owners.Phase.{Phase}
use Rattle.steps_base.specs.declared.owners.Phase.TheVariants as phases
use Rattle.spec_locks.specs.Onces as onces
use Rattle.spec_locks.specs.Locks.{LockState, Taken, Pending}
use Rattle.spec_locks.specs.Picks.{queued_of}

abbrev pub is_thread : ℕ → Option ℕ → Bool
is_thread t None = false
is_thread t (Some u) = u == t

abbrev pub with_exclusive : Owners → Option ℕ → Owners
with_exclusive owners thread = record owners { exclusive = thread }

-- the number of shared rights of a thread, where it is another
abbrev pub shares_then : List ℕ → ℕ → Option ℕ → List ℕ
shares_then shares t None = shares
shares_then shares t (Some n) = slice_set shares t n

-- ---------------------------------------------------------------- the abstract lock

abbrev pub is_upgradable : Fallback → Bool
is_upgradable fallbacks.Nothing = false
is_upgradable fallbacks.Upgradable = true

abbrev pub pending_owner : Option owners.Pending → Option Pending
pending_owner None = None
pending_owner (Some p) = Some (record { thread = p.thread; falls_back = is_upgradable p.fallback })

-- the thread that runs the closure of a `Once`
abbrev pub running_thread : Phase → Option ℕ
running_thread (phases.InProgress t) = Some t
running_thread phase = None

abbrev pub phase_seen : Phase → onces.Phase
phase_seen phases.New = onces.New
phase_seen phases.Poisoned = onces.Poisoned
phase_seen (phases.InProgress t) = onces.InProgress t
phase_seen phases.Done = onces.Done

-- by its owners, the waiters of its two lines, and those that are in somebody's hand
abbrev pub lock_seen : List ℕ → Owners → List Waiter → List Waiter → (ℕ → Option Taken) → LockState
lock_seen shared o main second taken = record {
  exclusive = o.exclusive;
  pending = pending_owner o.pending;
  upgradable = o.upgradable;
  shared = shared;
  queue = map queued_of main;
  aside = first_of second;
  taken = taken;
  phase = phase_seen o.phase;
  shown = o.shown;
}
