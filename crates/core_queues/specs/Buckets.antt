-- The waiters of one bucket, and of two.
use Rattle.std.specs.Prelude.{ℕ, ◌≡◌, ◌≢◌, ◌≤◌, List, [], ◌++◌, Option, Some, None, IfSome}
use Rattle.core_queues.specs.Chains.{bucket_of}
use Rattle.core_base.specs.Lines.{IsSeated, line, times}
use Rattle.core_base.specs.declared.wants.Waiter.{Waiter}

-- each stands under a key of this bucket, of 2 ^ bits, and each thread stands at most once
pub record IsOfBucket (bits number seats : ℕ) (waiters : List Waiter) : Type 0 where
  pub hashed : (key : ℕ) → bucket_of bits key ≢ number → line key waiters ≡ []
  pub seated : IsSeated waiters seats

-- no thread under a key of one list stands in another
abbrev pub AreApart : ℕ → List Waiter → List Waiter → Type 0
AreApart key xs ys = (thread : ℕ) → 1 ≤ times thread (line key xs) → times thread ys ≡ 0

-- the waiters of one bucket, and, where there is another, of this one as well
abbrev pub both : List Waiter → Option (List Waiter) → List Waiter
both xs None = xs
both xs (Some ys) = xs ++ ys

-- nobody of the other bucket stands under a key
abbrev pub HasNone : ℕ → Option (List Waiter) → Type 0
HasNone key others = IfSome others (λ ys. line key ys ≡ [])
