-- The property of the queues that each of their calls keeps.
use Rattle.std.specs.Prelude.{ℕ, Bool, Option, ◌<◌, ◌++◌, List, [], ◌∷◌}
use Rattle.core_base.specs.Lines.{IsSeated, waiter, without, without_first, without_key}
use Rattle.core_base.specs.Picks.{without_lock_picked}
use Rattle.core_base.specs.Requeues.{requeued}
use Rattle.core_base.specs.declared.requeues.Requeue.{Requeue}
use Rattle.core_base.specs.declared.wants.Waiter.{Waiter}
use Rattle.core_base.specs.declared.wants.Want.{Want}

-- where each thread stands at most once, it does so after each call
pub record EachStandsOnce (waiters : List Waiter) (capacity : ℕ) : Type 0 where
  pub appended : (key thread : ℕ) (want : Want) → thread < capacity
      → IsSeated (without thread waiters ++ waiter key thread want ∷ []) capacity
  pub first_taken : (key : ℕ) → IsSeated (without_first key waiters) capacity
  pub all_taken : (key : ℕ) → IsSeated (without_key key waiters) capacity
  pub picked : (start : Option Want) (recursive : Bool) (key : ℕ)
      → IsSeated (without_lock_picked start recursive key waiters) capacity
  pub requeued : (op : Requeue) (from to : ℕ) → IsSeated (requeued op from to waiters) capacity
  pub removed : (thread : ℕ) → IsSeated (without thread waiters) capacity
