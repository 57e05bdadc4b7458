-- The waiters that a notification moves leave the list of a condition variable, and what holds of it holds
-- again.
use Rattle.std.proofs.Common.{ℕ, Bool, true, false, ◌≡◌, ◌≤◌, List, [], ◌∷◌, drop, refl, arith, if◌then◌else◌}
use Rattle.spec_locks.specs.Locks.{LockState, Queued, Rules, IsLockState, KnowsAll, left_after, times}

pub left_none : (all : Bool) (q : List Queued) → q ≡ [] → (if all then [] else drop 1 q) ≡ []
left_none true q e = refl
left_none false q e = rw e refl

-- fewer wait
pub left_fewer : (all : Bool) (u : ℕ) (q : List Queued) → times u (if all then [] else drop 1 q) ≤ times u q
left_fewer true u q = omega arith
left_fewer false u [] = grind arith
left_fewer false u (x ∷ q) = grind arith

pub left_keeps : (r : Rules) (all : Bool) (s : LockState) → IsLockState r s
    → IsLockState r (left_after all s)
left_keeps r all s c = record {
  exclusive_alone = c.exclusive_alone;
  pending_alone = c.pending_alone;
  aside_pending = c.aside_pending;
  once = λ u. let a = c.once u in let b = left_fewer all u s.queue in omega arith;
  known_queue = known all s.queue c.known_queue;
  known_taken = c.known_taken;
  unshared = c.unshared;
  unpending = c.unpending;
  unwritten = c.unwritten;
  within = c.within;
}
  where
    known : (all : Bool) (q : List Queued) → KnowsAll r.sort q
        → KnowsAll r.sort (if all then [] else drop 1 q)
    known true q k = tt
    known false [] k = tt
    known false (x ∷ q) k = k.1
