-- How often a thread stands in a list, after a change of it.
use Rattle.std.proofs.Common.{ℕ, cond, ◌≡◌, ◌≢◌, ◌+◌, ◌≤◌, List, [], ◌∷◌, ◌++◌, ◌==◌, map, take, drop, refl}
use Rattle.std.proofs.Common.{arith}
use Rattle.std.proofs.lemmas.Bool.Decides.{nat_tests}
use Rattle.core_base.specs.declared.wants.Waiter.{Waiter}
use Rattle.core_base.specs.declared.wants.Want.{Want}
use Rattle.core_base.specs.declared.wants.Want.TheVariants.{Exclusive}
use Rattle.core_base.specs.declared.requeues.Requeue.{Requeue}
use Rattle.core_base.specs.declared.requeues.Requeue.TheVariants.{One, All, TakeOneMoveRest}
use Rattle.core_base.specs.Lines.{waiter, line, without, without_first, without_key, times}
use Rattle.core_base.specs.Requeues.{requeued}

pub times_append : (other key thread : ℕ) (want : Want) (waiters : List Waiter)
    → times other (waiters ++ waiter key thread want ∷ []) ≡ times other waiters + cond (thread == other) 1 0
times_append other key thread want [] = grind arith
times_append other key thread want (x ∷ xs) = grind (arith, times_append other key thread want xs)

pub times_without : (other thread : ℕ) (waiters : List Waiter) → other ≢ thread
    → times other (without thread waiters) ≡ times other waiters
times_without other thread [] differ = refl
times_without other thread (x ∷ xs) differ = grind (arith, nat_tests, times_without other thread xs differ)

pub times_gone : (thread : ℕ) (waiters : List Waiter) → times thread (without thread waiters) ≡ 0
times_gone thread [] = refl
times_gone thread (x ∷ xs) = grind (arith, nat_tests, times_gone thread xs)

times_both : (thread : ℕ) (xs ys : List Waiter) → times thread (xs ++ ys) ≡ times thread xs + times thread ys
times_both thread [] ys = omega arith
times_both thread (x ∷ xs) ys = omega (arith, times_both thread xs ys)

-- a thread that moves stands as often as before
times_moved : (thread to : ℕ) (waiters : List Waiter)
    → times thread (map (λ (x : Waiter). waiter to x.thread Exclusive) waiters) ≡ times thread waiters
times_moved thread to [] = refl
times_moved thread to (x ∷ xs) = omega (arith, times_moved thread to xs)

times_by_key : (thread key : ℕ) (waiters : List Waiter) → times thread (without_key key waiters)
    + times thread (line key waiters) ≡ times thread waiters
times_by_key thread key [] = omega arith
times_by_key thread key (x ∷ xs) = grind (arith, nat_tests, times_by_key thread key xs)

-- once those of a line have come to another list
pub times_passed : (thread from to : ℕ) (xs ys : List Waiter)
    → (times thread (ys ++ map (λ (x : Waiter). waiter to x.thread Exclusive) (line from xs))
    ≡ times thread ys + times thread (line from xs)) × (times thread (line from xs) ≤ times thread xs)
times_passed thread from to xs ys = (
  omega (
    arith,
    times_both thread ys (map (λ (x : Waiter). waiter to x.thread Exclusive) (line from xs)),
    times_moved thread to (line from xs),
  ),
  omega (arith, times_by_key thread from xs),
)

times_by_first : (thread key : ℕ) (waiters : List Waiter) → times thread (without_first key waiters)
    + times thread (take 1 (line key waiters)) ≡ times thread waiters
times_by_first thread key [] = omega arith
times_by_first thread key (x ∷ xs) = grind (arith, nat_tests, times_by_first thread key xs)

times_rest : (thread : ℕ) (waiters : List Waiter) → times thread (drop 1 waiters) ≤ times thread waiters
times_rest thread [] = omega arith
times_rest thread (x ∷ xs) = omega arith

-- no thread stands more often after a requeue
pub no_more_requeued : (thread from to : ℕ) (op : Requeue) (waiters : List Waiter)
    → times thread (requeued op from to waiters) ≤ times thread waiters
no_more_requeued thread from to One waiters =
    omega (
      arith,
      times_both thread (without_first from waiters)
          (map (λ (x : Waiter). waiter to x.thread Exclusive) (take 1 (line from waiters))),
      times_moved thread to (take 1 (line from waiters)),
      times_by_first thread from waiters,
    )
no_more_requeued thread from to All waiters =
    omega (
      arith,
      times_both thread (without_key from waiters)
          (map (λ (x : Waiter). waiter to x.thread Exclusive) (line from waiters)),
      times_moved thread to (line from waiters),
      times_by_key thread from waiters,
    )
no_more_requeued thread from to TakeOneMoveRest waiters =
    omega (
      arith,
      times_both thread (without_key from waiters)
          (map (λ (x : Waiter). waiter to x.thread Exclusive) (drop 1 (line from waiters))),
      times_moved thread to (drop 1 (line from waiters)),
      times_rest thread (line from waiters),
      times_by_key thread from waiters,
    )
