-- Sums of a number of each thread, or of each lock, and the number that falls with each step.
use Rattle.std.proofs.Common.{ℕ, zero, suc, ◌≢◌, ◌+◌, ◌*◌, ◌≤◌, ◌<◌, inl, inr, subst, sym, arith}
use Rattle.std.proofs.lemmas.Bool.{cases_eq}

-- a number of each of so many, in all
abbrev pub sum_below : ℕ → (ℕ → ℕ) → ℕ
sum_below zero f = 0
sum_below (suc n) f = f n + sum_below n f

pub sum_at_most : (n : ℕ) (f g : ℕ → ℕ) → ((u : ℕ) → u < n → g u ≤ f u) → sum_below n g ≤ sum_below n f
sum_at_most zero f g h = omega arith
sum_at_most (suc n) f g h =
    let a : g n ≤ f n = h n (omega arith) in
    let b : sum_below n g ≤ sum_below n f = sum_at_most n f g (λ u lt. h u (omega arith)) in
    omega arith

-- one is less, and none is more
pub sum_less : (n t : ℕ) (f g : ℕ → ℕ) → t < n → ((u : ℕ) → g u ≤ f u) → g t + 1 ≤ f t → sum_below n g + 1
    ≤ sum_below n f
sum_less zero t f g there h less = absurd (omega arith)
sum_less (suc n) t f g there h less = elim (cases_eq t n) [
  | inl e ↦
      let a : g n + 1 ≤ f n = subst (λ u. g u + 1 ≤ f u) e less in
      let b : sum_below n g ≤ sum_below n f = sum_at_most n f g (λ u lt. h u) in
      omega arith
  | inr ne ↦
      let a : g n ≤ f n = h n in
      let b : sum_below n g + 1 ≤ sum_below n f = sum_less n t f g (omega arith) h less in
      omega arith
]

-- one alone may be more
pub sum_but_one : (n l k : ℕ) (f g : ℕ → ℕ) → ((u : ℕ) → u ≢ l → g u ≤ f u) → g l ≤ k → sum_below n g
    ≤ sum_below n f + k
sum_but_one zero l k f g h most = omega arith
sum_but_one (suc n) l k f g h most = elim (cases_eq n l) [
  | inl e ↦
      let a : g n ≤ k = subst (λ u. g u ≤ k) (sym e) most in
      let b : sum_below n g ≤ sum_below n f = sum_at_most n f g (λ u lt. h u (λ same. omega arith)) in
      omega arith
  | inr ne ↦
      let a : g n ≤ f n = h n ne in
      let b : sum_below n g ≤ sum_below n f + k = sum_but_one n l k f g h most in
      omega arith
]

pub sum_most : (n k : ℕ) (f : ℕ → ℕ) → ((u : ℕ) → f u ≤ k) → sum_below n f ≤ k * n
sum_most zero k f h = omega arith
sum_most (suc n) k f h = let a : f n ≤ k = h n in let b : sum_below n f ≤ k * n = sum_most n k f h
    in grind arith

-- ---------------------------------------------------------------- before so many threads

-- each event is worth more than all steps of all threads to their own next event
abbrev pub potential : ℕ → ℕ → ℕ → ℕ
potential n events ways = (5 * n + 1) * events + ways

less_times : (k a b : ℕ) → a + 1 ≤ b → k * a + k ≤ k * b
less_times k a b le = grind arith

same_times : (k a b : ℕ) → a ≤ b → k * a ≤ k * b
same_times k a b le = grind arith

pub event_lowers : (n e e2 s s2 : ℕ) → e2 + 1 ≤ e → s2 ≤ 5 * n → potential n e2 s2 + 1 ≤ potential n e s
event_lowers n e e2 s s2 less most = let times = less_times (5 * n + 1) e2 e less in omega arith

pub way_lowers : (n e e2 s s2 : ℕ) → e2 ≤ e → s2 + 1 ≤ s → potential n e2 s2 + 1 ≤ potential n e s
way_lowers n e e2 s s2 most less = let times = same_times (5 * n + 1) e2 e most in omega arith

pub potential_most : (n l e s : ℕ) → e ≤ 63 * n + 2 * l → s ≤ 5 * n
    → potential n e s ≤ (5 * n + 1) * (63 * n + 2 * l) + 5 * n
potential_most n l e s few short = let times = same_times (5 * n + 1) e (63 * n + 2 * l) few in omega arith
