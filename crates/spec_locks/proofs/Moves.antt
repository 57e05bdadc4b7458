-- A notification's move keeps what holds of the condition variable and of the mutex.
use Rattle.std.proofs.Common.{ℕ, Bool, true, ◌≡◌, ◌≤◌, ◌+◌, List, sym, ap, ◌∙◌, arith}
use Rattle.std.proofs.lemmas.Bool.Decides.{nat_tests}
use Rattle.spec_locks.specs.Condvars.{line_of, moved_of, taken_of}
use Rattle.spec_locks.specs.Locks.{LockState, Queued, Rules, Mutex, IsLockState, KnowsAll, left_after}
use Rattle.spec_locks.specs.Locks.{standing, times}
use Rattle.spec_locks.specs.Runs.{LocksState, AreLockStates, MayMove, is_among, joined_by, rules_at}
use Rattle.spec_locks.proofs.CondvarKeeps.{all_known, moved_fewer, parts, times_in_line}
use Rattle.spec_locks.proofs.Left.{left_keeps}
use Rattle.spec_locks.proofs.LockKeeps.{known_append, known_taking, times_append, times_taking}

-- more wait, which stood nowhere
pub joined_keeps : (r : Rules) (owned : Bool) (t : ℕ) (moved : List Queued) (s : LockState) → r.sort ≡ Mutex
    → IsLockState r s
    → ((u : ℕ) → times u moved ≤ 1) → ((u : ℕ) → 1 ≤ times u moved → standing u s ≡ 0)
    → IsLockState r (joined_by owned t moved s)
joined_keeps r owned t moved s mutex c one nowhere = record {
  exclusive_alone = c.exclusive_alone;
  pending_alone = c.pending_alone;
  aside_pending = c.aside_pending;
  once = λ u. let k = stands u in let a = c.once u in let b = one u in let d = nowhere u in grind arith;
  known_queue = rw mutex ((known_append Mutex s.queue (line_of owned moved)).1 (
    rw mutex at c.known_queue,
    known.1,
  ));
  known_taken = λ u a e. rw mutex (known_taking Mutex t (taken_of owned moved) s.taken known.0
      (λ x b f. rw mutex at (c.known_taken x b f)) u a e);
  unshared = c.unshared;
  unpending = c.unpending;
  unwritten = c.unwritten;
  within = c.within;
}
  where
    known : KnowsAll Mutex (taken_of owned moved) × KnowsAll Mutex (line_of owned moved)
    known = (known_append Mutex (taken_of owned moved) (line_of owned moved)).0
        (rw (parts owned moved) (all_known moved))

    both : (u : ℕ) → times u (taken_of owned moved) + times u (line_of owned moved) ≡ times u moved
    both u = sym (times_append u (taken_of owned moved) (line_of owned moved))
        ∙ ap (times u) (parts owned moved) ∙ times_in_line u moved

    stands : (u : ℕ) → standing u (joined_by owned t moved s) ≤ standing u s + times u moved
    stands u =
        let a = times_append u s.queue (line_of owned moved) in
        let b = times_taking u t (taken_of owned moved) s.taken in
        let d = both u in
        omega arith

module _ (w : LocksState) (t c m : ℕ) (all owned : Bool) (n : ℕ) (states : AreLockStates w)
    (may : MayMove w t c m all owned n) where
  pub condvar_keeps : IsLockState (rules_at w c) (left_after all (w.locks c))
  condvar_keeps = left_keeps (rules_at w c) all (w.locks c) (states c)

  pub mutex_keeps : IsLockState (rules_at w m) (joined_by owned t (moved_of all (w.locks c).queue)
      (w.locks m))
  mutex_keeps = joined_keeps (rules_at w m) owned t (moved_of all (w.locks c).queue) (w.locks m) may.sorts.1
      (states m)
      (λ u. let a = moved_fewer all u (w.locks c).queue in let b = (states c).once u in omega arith)
      (λ u e. (may.wait u (listed u e)).1)
    where
      listed : (u : ℕ) → 1 ≤ times u (moved_of all (w.locks c).queue)
          → is_among u (moved_of all (w.locks c).queue) ≡ true
      listed u e = grind (arith, nat_tests)
