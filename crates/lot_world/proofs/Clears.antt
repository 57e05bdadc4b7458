-- A lock whose word is 0 has no owner; and where nobody owns it, its word is 0 or tells of waiters that are
-- gone.
use Rattle.std.proofs.Common.{ℕ, Bool, true, false, Option, Some, None, ◌≡◌, ◌+◌, ◌*◌, ◌≤◌, ◌⊎◌, inl, inr}
use Rattle.std.proofs.Common.{refl, ap, arith}
use Rattle.std.specs.Prelude.{slice_index, sum}
use Rattle.std.proofs.lemmas.Bool.Decides.{nat_tests}
use Rattle.spec_locks.specs.declared.kinds.Kind.{Kind}
use Rattle.spec_locks.specs.declared.kinds.Kind.TheVariants as kind
use Rattle.spec_locks.specs.Codes.{bit, code, packed, writers}
use Rattle.spec_locks.specs.Locks.{IsLockState, LockState, Pending, Rights, count, one_if_pending}
use Rattle.spec_locks.specs.Locks.{one_if_thread, one_if_some, readers, rights_of}
use Rattle.spec_locks.specs.Purposes.{rules_of}
use Rattle.spec_locks.specs.Runs.{no_rights}
use Rattle.spec_locks.specs.Sites.{Site}
use Rattle.lot_world.specs.Drained.{Drains}
use Rattle.lot_world.proofs.Few.{rights_are}
use Rattle.lot_world.proofs.DrainOwners.{index_sum}
use Rattle.lot_world.proofs.Releases.{one_thread}
use Rattle.lot_world.proofs.Quiet.{zero_sum}

-- nobody owns it
pub record IsFree (s : LockState) : Type 0 where
  pub exclusive : s.exclusive ≡ None
  pub pending : s.pending ≡ None
  pub upgradable : s.upgradable ≡ None
  pub readers : readers s ≡ 0

pub one_pending : (p : Pending) → one_if_pending p.thread (Some p) ≡ 1
one_pending p = grind (arith, nat_tests)

no_thread : (o : Option ℕ) → ((t : ℕ) → one_if_thread t o ≡ 0) → o ≡ None
no_thread None h = refl
no_thread (Some u) h = absurd (let a : one_if_thread u (Some u) ≡ 1 = one_thread u
    in let b : one_if_thread u (Some u) ≡ 0 = h u in omega arith)

no_pending : (o : Option Pending) → ((t : ℕ) → one_if_pending t o ≡ 0) → o ≡ None
no_pending None h = refl
no_pending (Some p) h = absurd (let a : one_if_pending p.thread (Some p) ≡ 1 = one_pending p
    in let b : one_if_pending p.thread (Some p) ≡ 0 = h p.thread in omega arith)

pub free_of : (s : LockState) → ((t : ℕ) → rights_of s t ≡ no_rights) → IsFree s
free_of s none = record {
  exclusive = no_thread s.exclusive (λ t. ap (λ (r : Rights). r.exclusive) (none t));
  pending = no_pending s.pending (λ t. ap (λ (r : Rights). r.pending) (none t));
  upgradable = no_thread s.upgradable (λ t. ap (λ (r : Rights). r.upgradable) (none t));
  readers = zero_sum s.shared (λ t. ap (λ (r : Rights). r.shared) (none t));
}

pub free_rights : (s : LockState) → IsFree s → (t : ℕ) → rights_of s t ≡ no_rights
free_rights s free t = rights_are (rights_of s t) no_rights (ap (one_if_thread t) free.exclusive)
    (ap (one_if_pending t) free.pending) (ap (one_if_thread t) free.upgradable)
    (let a : slice_index s.shared t ≤ sum s.shared = index_sum s.shared t in let b : sum s.shared ≡ 0 =
    free.readers in omega arith)

-- ---------------------------------------------------------------- by the word

none_counted : {A : Type 0} (o : Option A) → one_if_some o ≡ 0 → o ≡ None
none_counted None e = refl
none_counted (Some x) e = absurd (let a : 1 ≡ 0 = e in omega arith)

pub free_by_code : (k : Kind) (s : Site) → Drains (rules_of k).sort → IsLockState (rules_of k) s.lock
    → code (rules_of k) s ≡ 0 → IsFree s.lock
free_by_code kind.Mutex s drains state e = record {
  exclusive = none_counted s.lock.exclusive (let a : one_if_some s.lock.exclusive + 2 * bit s.parked ≡ 0 = e
      in omega arith);
  pending = (state.unpending (λ f. f)).0;
  upgradable = (state.unpending (λ f. f)).1;
  readers = state.unshared (λ f. f);
}
free_by_code kind.Fair s drains state e = record {
  exclusive = none_counted s.lock.exclusive (let a : one_if_some s.lock.exclusive + 2 * bit s.parked ≡ 0 = e
      in omega arith);
  pending = (state.unpending (λ f. f)).0;
  upgradable = (state.unpending (λ f. f)).1;
  readers = state.unshared (λ f. f);
}
free_by_code (kind.RwLock limit) s drains state e = shared_free s e
  where
    shared_free : (s : Site) → packed (count s.lock) (writers s.lock) (one_if_some s.lock.upgradable)
        (bit s.aside_parked) (bit s.parked) ≡ 0 → IsFree s.lock
    shared_free s e = record {
      exclusive = none_counted s.lock.exclusive (omega arith);
      pending = none_counted s.lock.pending (omega arith);
      upgradable = none_counted s.lock.upgradable (omega arith);
      readers = omega arith;
    }
free_by_code (kind.Recursive limit) s drains state e = shared_free s e
  where
    shared_free : (s : Site) → packed (count s.lock) (writers s.lock) (one_if_some s.lock.upgradable)
        (bit s.aside_parked) (bit s.parked) ≡ 0 → IsFree s.lock
    shared_free s e = record {
      exclusive = none_counted s.lock.exclusive (omega arith);
      pending = none_counted s.lock.pending (omega arith);
      upgradable = none_counted s.lock.upgradable (omega arith);
      readers = omega arith;
    }
free_by_code kind.Once s drains state e = absurd drains
free_by_code (kind.Semaphore permits) s drains state e = absurd drains
free_by_code kind.Condvar s drains state e = absurd drains

-- ---------------------------------------------------------------- the word left

pub mutex_word : (s : Site) → IsFree s.lock → (one_if_some s.lock.exclusive + 2 * bit s.parked ≡ 0)
    ⊎ (one_if_some s.lock.exclusive + 2 * bit s.parked ≡ 2)
mutex_word s free = by_bit s.parked
  where
    none : one_if_some s.lock.exclusive ≡ 0
    none = ap one_if_some free.exclusive

    by_bit : (b : Bool) → (one_if_some s.lock.exclusive + 2 * bit b ≡ 0)
        ⊎ (one_if_some s.lock.exclusive + 2 * bit b ≡ 2)
    by_bit true = inr (let a = none in omega arith)
    by_bit false = inl (let a = none in omega arith)

abbrev pub IsLeft : ℕ → Type 0
IsLeft v = (v ≡ 0) ⊎ ((v ≡ 1) ⊎ ((v ≡ 2) ⊎ (v ≡ 3)))

pub shared_word : (s : Site) → IsFree s.lock
    → IsLeft (packed (count s.lock) (writers s.lock) (one_if_some s.lock.upgradable) (bit s.aside_parked)
    (bit s.parked))
shared_word s free = by_bits s.aside_parked s.parked
  where
    exclusive : one_if_some s.lock.exclusive ≡ 0
    exclusive = ap one_if_some free.exclusive

    pending : one_if_some s.lock.pending ≡ 0
    pending = ap one_if_some free.pending

    upgradable : one_if_some s.lock.upgradable ≡ 0
    upgradable = ap one_if_some free.upgradable

    none : readers s.lock ≡ 0
    none = free.readers

    by_bits : (a p : Bool) → IsLeft (packed (count s.lock) (writers s.lock) (one_if_some s.lock.upgradable)
        (bit a) (bit p))
    by_bits false false = inl (let a = exclusive in let b = pending in let c = upgradable in let d = none
        in omega arith)
    by_bits false true = inr (inl (let a = exclusive in let b = pending in let c = upgradable in let d = none
        in omega arith))
    by_bits true false = inr (inr (inl (let a = exclusive in let b = pending in let c = upgradable in let d =
        none in omega arith)))
    by_bits true true = inr (inr (inr (let a = exclusive in let b = pending in let c = upgradable in let d =
        none in omega arith)))
