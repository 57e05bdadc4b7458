-- The changes of a line, and its counts.
use Rattle.lot_laws.proofs.Imports
use Imports.{ℕ, Bool, true, false, Option, Some, None, if◌then◌else◌, ◌≡◌, ◌≤◌, List, [], ◌∷◌, ◌==◌, refl}
use Imports.{arith, nat_tests, Waiter, without, times, first_of}
use Rattle.spec_locks.specs.Locks as locks

pub without_absent : (t : ℕ) (q : List Waiter) → times t q ≡ 0 → without t q ≡ q
without_absent t [] h = refl
without_absent t (x ∷ q) h = grind (arith, nat_tests, without_absent t q)

pub first_times : (u : ℕ) (q : List Waiter) → first_of q ≡ Some u → 1 ≤ times u q
first_times u [] h = absurd cc
first_times u (y ∷ q) h = grind (arith, nat_tests)

pub none_first : (q : List Waiter) → first_of q ≡ None → q ≡ []
none_first [] h = refl
none_first (y ∷ q) h = absurd cc

-- a thread that stands in no line is no first
pub first_out : (t : ℕ) (q : List Waiter) → times t q ≡ 0 → locks.one_if_thread t (first_of q) ≡ 0
first_out t [] h = refl
first_out t (y ∷ q) h = omega arith

pub aside_kept : (t : ℕ) (o : Option ℕ) → locks.one_if_thread t o ≡ 0 → locks.aside_without t o ≡ o
aside_kept t None h = refl
aside_kept t (Some u) h = either (u == t) h
  where
    either : (b : Bool) → ◌≡◌ {A = ℕ} (if b then 1 else 0) 0 → (if b then None else Some u) ≡ Some u
    either false e = refl
    either true e = absurd (omega arith)
