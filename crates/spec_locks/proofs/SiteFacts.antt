-- The facts that the deeds of a lock have in common: the threads that share it, whether it is open, and what
-- a case leaves.
use Rattle.std.proofs.Common.{ℕ, Bool, true, Option, Some, None, ◌≡◌, ◌≢◌, ◌≤◌, ◌<◌, ◌+◌, inl, inr, List, []}
use Rattle.std.proofs.Common.{◌∷◌, ◌++◌, refl, sym, ◌∙◌, arith, get_or-set_same, get_or-set_other}
use Rattle.std.specs.Prelude.{filter, ◌-◌, ◌||◌, slice_index, slice_set, sum, length}
use Rattle.std.proofs.lemmas.Bool.{cases_lt}
use Rattle.std.proofs.lemmas.List.{get_or_past, set_past}
use Rattle.std.proofs.lemmas.List.Sums.{sum_by-set}
use Rattle.std.proofs.lemmas.Bool.Decides.{nat_tests}
use Rattle.spec_locks.specs.Locks.{LockState, Queued, Sort, Rules, LockCase, has_caller, IsLockState, Mutex}
use Rattle.spec_locks.specs.Locks.{Normal, Recursive, Semaphore, Once, putting, Condvar}
use Rattle.spec_locks.specs.Sites.{Site, IsSite, Case, Needed, after_deed, done, case_role, IsOpen}
use Rattle.spec_locks.specs.Locks as locks
use Rattle.spec_locks.proofs.LockKeeps.{case_keeps}
use Rattle.spec_locks.proofs.Turns.{Local, Changed, turn_keeps}

pub put_changed : {A : Type 0} (f : ℕ → A) (t : ℕ) (x : A) → Changed f (putting f t x) t x
put_changed f t x = record { here = grind (arith, nat_tests); other = λ j ne. grind (arith, nat_tests) }

-- each thread that shares a lock does so whatever another does
pub share_other : (xs : List ℕ) (t u n : ℕ) → u ≢ t → slice_index (slice_set xs t n) u ≡ slice_index xs u
share_other xs t u n ne = get_or-set_other xs t u n 0 ne

pub more_share : (xs : List ℕ) (t : ℕ) → sum xs ≤ sum (slice_set xs t (slice_index xs t + 1))
more_share xs t = elim (cases_lt t (length xs)) [
  | inl lt ↦ let e = sum_by-set (λ (n : ℕ). n) xs t (slice_index xs t + 1) 0 lt in omega arith
  | inr past ↦ rw (set_past xs t (slice_index xs t + 1) past) (omega arith)
]

-- each thread that is there has a share that it is given
pub share_own : (xs : List ℕ) (t : ℕ) → t < length xs → 1
    ≤ slice_index (slice_set xs t (slice_index xs t + 1)) t
share_own xs t there = let e : slice_index (slice_set xs t (slice_index xs t + 1)) t ≡ slice_index xs t + 1 =
    get_or-set_same xs t (slice_index xs t + 1) 0 there in omega arith

pub fewer_share : (xs : List ℕ) (t : ℕ) → 1 ≤ slice_index xs t → sum (slice_set xs t (slice_index xs t - 1))
    + 1 ≡ sum xs
fewer_share xs t h = elim (cases_lt t (length xs)) [
  | inl lt ↦ let e = sum_by-set (λ (n : ℕ). n) xs t (slice_index xs t - 1) 0 lt in omega arith
  | inr past ↦ let e = get_or_past xs t 0 past in absurd (omega arith)
]

-- the exclusive, pending and upgradable owners alone decide whether a lock is open, and of a `Once` its phase
-- and its waiters that want to run it
pub same_open : (sort : Sort) (a b : LockState) → a.exclusive ≡ b.exclusive → a.pending ≡ b.pending
    → a.upgradable ≡ b.upgradable → a.phase ≡ b.phase → (has_caller a.queue ≡ true → has_caller b.queue
    ≡ true) → IsOpen sort a → IsOpen sort b
same_open Mutex a b e f g p q free = sym e ∙ free
same_open Normal a b e f g p q free = (sym e ∙ free.0, sym f ∙ free.1, sym g ∙ free.2)
same_open Recursive a b e f g p q free = (sym e ∙ free.0, sym f ∙ free.1, sym g ∙ free.2)
same_open Semaphore a b e f g p q free = absurd free
same_open Condvar a b e f g p q free = absurd free
same_open Once a b e f g p q free = (q free.0, rw (← p) free.1)

-- a thread that waits to run a `Once` among those that are left waited before
pub callers_filter : (p : Queued → Bool) (xs : List Queued) → has_caller (filter p xs) ≡ true
    → has_caller xs ≡ true
callers_filter p [] e = e
callers_filter p (x ∷ xs) e = grind (arith, callers_filter p xs)

pub callers_append : (xs ys : List Queued) → has_caller (xs ++ ys) ≡ has_caller xs || has_caller ys
callers_append [] ys = refl
callers_append (x ∷ xs) ys = grind (arith, callers_append xs ys)

pub callers_stand : (xs : List Queued) → has_caller xs ≡ true → xs ≢ []
callers_stand [] e = absurd cc
callers_stand (x ∷ xs) e = λ k. cc

-- beside a writer that sleeps aside nobody has the upgradable right
pub alone_aside : (r : Rules) (s : LockState) → IsLockState r s → s.aside ≢ None → s.upgradable ≡ None
alone_aside r s c stands = by_aside s.aside refl
  where
    by_aside : (o : Option ℕ) → s.aside ≡ o → s.upgradable ≡ None
    by_aside None e = absurd (stands e)
    by_aside (Some u) e = grind (arith, c.aside_pending u e, c.pending_alone)

module _ (r : Rules) (s : Site) (t : ℕ) (h : IsSite r s) where
  -- a case of the lock
  pub acts : (c : LockCase) → Local r s (done r c s t (locks.after_case r c s.lock t)) t (s.role t)
      (case_role r.sort s (locks.after_case r c s.lock t) c (s.role t)) → IsSite r (after_deed r (Case c) s t)
  acts c local = turn_keeps r s (done r c s t (locks.after_case r c s.lock t)) t (s.role t) _ h refl
      (put_changed s.role t _) local

  pub state : (c : LockCase) → Needed r (Case c) s t → IsLockState r (locks.after_case r c s.lock t)
  state c n = case_keeps r c s.lock t h.state n.0
