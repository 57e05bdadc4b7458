-- The guarantees of each state: exclusion, quiescence, no stuck world, what condition variables show, what
-- their sleepers own, which thread runs a `Once`, and that a fair mutex is kept for its waiters.
use Rattle.std.specs.Prelude.{ℕ, Bool, true, false, None, Some, ◌||◌, ◌≡◌, ◌≢◌, ◌≤◌, ◌↔◌, List, length}
use Rattle.std.specs.Prelude.{get_or}
use Rattle.core_base.specs.declared.wants.Want.TheVariants.{Exclusive}
use Rattle.spec_locks.specs.declared.kinds.Kind.{Kind}
use Rattle.spec_locks.specs.declared.kinds.Kind.TheVariants as kind
use Rattle.spec_locks.specs.Trade.{IsOnItsWay, Trades}
use Rattle.spec_locks.specs.Kinds.{is_fair}
use Rattle.spec_locks.specs.Onces.{InProgress}
use Rattle.spec_locks.specs.Owners.{Condvar, OwnersExclude}
use Rattle.spec_locks.specs.Locks.{WaitersStand, owners_of, standing}
use Rattle.spec_locks.specs.Purposes.{CallsOnce, Waits}
use Rattle.spec_locks.specs.Sites.{IsWithinLimit, has_readers, is_full}
use Rattle.spec_locks.specs.Rest.{IsQuiet, WaitersWaitRightly, sort_in}
use Rattle.spec_locks.specs.Runs.{LocksState, Status, IsNotified, IsOpening, LetsGo, MayGo, ShowsWaiters}
use Rattle.spec_locks.specs.Runs.{HeedsItsTime, rules_at}

-- a thread is awake, and runs no closure
abbrev pub IsAwake : Status → Type 0
IsAwake stance = (stance.asleep ≡ false) × (stance.in_closure ≡ false)

-- ---------------------------------------------------------------- each state

-- in a state in which these locks were once at their limit
pub record StateHolds (w : LocksState) (was_full : ℕ → Bool) : Type 0 where
  -- owners exclude each other
  pub exclude : (l : ℕ) → OwnersExclude (rules_at w l) (owners_of (w.locks l))
  -- each thread stands once in a queue at most, for what the lock has
  pub stand : (l : ℕ) → WaitersStand (sort_in w l) (w.locks l)
  -- where no thread has anything to do, nobody waits for a lock that is open
  pub rests : IsQuiet w → WaitersWaitRightly w was_full
  -- While a thread is awake in a call, some thread can go on.
  pub goes : (t : ℕ) → (w.calls t).purpose ≢ None → IsAwake (w.stances t) → (u : ℕ) × MayGo w u
  -- a condition variable shows the mutex with which all wait there
  pub shown : (c : ℕ) → sort_in w c ≡ Condvar → ShowsWaiters w c
  -- A sleeper that waits for a notification has let its mutex go, and owns till then what else it owned.
  pub let_go : (t : ℕ) → LetsGo w t
  pub keeps : (t l m : ℕ) (timed : Bool) → (w.calls t).purpose ≡ Some (Waits l m timed)
      → (w.stances t).asleep ≡ true → (w.calls t).gave_up ≡ None
      → (IsNotified (w.calls t).recalls → ⊥) → Trades w t (w.calls t) m (Some Exclusive) None
  -- a `Once` is in progress exactly while one thread runs its closure
  pub runs : (t l : ℕ) → (w.locks l).phase ≡ InProgress t ↔ ((w.stances t).in_closure ≡ true)
      × ((forced : Bool) × ((w.calls t).purpose ≡ Some (CallsOnce l forced)))
  -- A fair mutex is owned while somebody waits for it, also in a hand.
  pub fair : (t l : ℕ) → is_fair (w.kinds l) ≡ true → 1 ≤ standing t (w.locks l)
      → (w.locks l).exclusive ≢ None
  -- as many share as the limit allows
  pub limited : (l : ℕ) → has_readers (sort_in w l) ≡ true → IsWithinLimit (rules_at w l) (w.locks l)
  -- A thread in a call owns what it owned as the call began, or what the call trades that for.
  pub on_its_way : (t : ℕ) → IsOnItsWay (w.calls t).purpose w t (w.calls t)
  -- a thread whose time was up gives up before it sleeps again
  pub heeds : (t : ℕ) → HeedsItsTime w t

-- ---------------------------------------------------------------- the first state

-- a number of threads are there over locks of these kinds, and nothing has happened yet
pub record Opens (kinds : List Kind) (threads : ℕ) (w : LocksState) : Type 0 where
  pub opening : IsOpening w
  pub threads_there : w.threads ≡ threads
  pub locks_there : w.size ≡ length kinds
  pub kinds_there : (l : ℕ) → w.kinds l ≡ get_or kinds l kind.Mutex

-- the locks that were at their limit by then: those that were so before, and those that are so now
abbrev pub full_by : (ℕ → Bool) → LocksState → ℕ → Bool
full_by before w l = before l || is_full (rules_at w l) (w.locks l)
