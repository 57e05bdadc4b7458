-- A chain, up to a thread and after it.
use Rattle.std.proofs.Common.{ℕ, ◌≡◌, ◌≢◌, ◌≤◌, inl, inr, List, [], ◌∷◌, ◌++◌, Option, Some, None}
use Rattle.std.proofs.Common.{if◌then◌else◌, refl, sym, ap, subst, ◌∙◌, arith}
use Rattle.std.specs.Prelude.{◌==◌}
use Rattle.std.proofs.lemmas.Bool.{cases_eq}
use Rattle.std.proofs.lemmas.Bool.Decides.{nat_tests}
use Rattle.core_base.specs.declared.wants.Waiter.{Waiter}
use Rattle.core_base.specs.Lines.{times, without}
use Rattle.core_queues.specs.Chains.{rest_after}
use Rattle.core_queues.proofs.Joined.{without_none}

-- the waiters up to a thread
abbrev pub upto : Option ℕ → List Waiter → List Waiter
upto None xs = []
upto (Some thread) [] = []
upto (Some thread) (x ∷ xs) = if x.thread == thread then x ∷ [] else (x ∷ upto (Some thread) xs)

pub both_parts : (before : Option ℕ) (xs : List Waiter) → upto before xs ++ rest_after before xs ≡ xs
both_parts None xs = refl
both_parts (Some thread) [] = refl
both_parts (Some thread) (x ∷ xs) = grind (arith, nat_tests, both_parts (Some thread) xs)

times_after : (other thread : ℕ) (xs : List Waiter) → times other (rest_after (Some thread) xs)
    ≤ times other xs
times_after other thread [] = omega arith
times_after other thread (x ∷ xs) = grind (arith, nat_tests, times_after other thread xs)

-- one more
pub upto_more : (before : Option ℕ) (xs : List Waiter) (y : Waiter) (ys : List Waiter)
    → ((t : ℕ) → times t xs ≤ 1) → rest_after before xs ≡ y ∷ ys → upto (Some y.thread) xs ≡ upto before xs
    ++ y
    ∷ []
upto_more None xs y ys once is = rw is (head y ys) where
  head : (y : Waiter) (ys : List Waiter) → upto (Some y.thread) (y ∷ ys) ≡ y ∷ []
  head y ys = grind (arith, nat_tests)
upto_more (Some b) [] y ys once is = absurd cc
upto_more (Some b) (x ∷ xs) y ys once is = elim (cases_eq x.thread b) [
  | inl same ↦
      let rest : xs ≡ y ∷ ys = sym (here b x xs same) ∙ is in
      let there : 1 ≤ times y.thread xs = subst (λ (l : List Waiter). 1 ≤ times y.thread l) (sym rest)
      (stands y ys) in
      let apart : x.thread ≢ y.thread = not_head x xs y.thread there (once y.thread) in
      later y.thread x xs apart ∙ ap (λ (l : List Waiter). x ∷ upto (Some y.thread) l) rest
      ∙ ap (λ (l : List Waiter). x ∷ l) (head y ys)
      ∙ sym (ap (λ (l : List Waiter). l ++ y ∷ []) (only b x xs same))
  | inr differ ↦
      let is_later : rest_after (Some b) xs ≡ y ∷ ys = sym (else_ b x xs differ) ∙ is in
      let there : 1 ≤ times y.thread xs = from b xs y ys is_later in
      let apart : x.thread ≢ y.thread = not_head x xs y.thread there (once y.thread) in
      later y.thread x xs apart ∙ ap (λ (l : List Waiter). x ∷ l) (upto_more (Some b) xs y ys
      (λ t. omega (arith, once t)) is_later)
      ∙ sym (ap (λ (l : List Waiter). l ++ y ∷ []) (later b x xs differ))
] where
  head : (y : Waiter) (ys : List Waiter) → upto (Some y.thread) (y ∷ ys) ≡ y ∷ []
  head y ys = grind (arith, nat_tests)

  here : (b : ℕ) (x : Waiter) (xs : List Waiter) → x.thread ≡ b → rest_after (Some b) (x ∷ xs) ≡ xs
  here b x xs same = grind (arith, nat_tests)

  else_ : (b : ℕ) (x : Waiter) (xs : List Waiter) → x.thread ≢ b → rest_after (Some b) (x ∷ xs)
      ≡ rest_after (Some b)
      xs
  else_ b x xs differ = grind (arith, nat_tests)

  only : (b : ℕ) (x : Waiter) (xs : List Waiter) → x.thread ≡ b → upto (Some b) (x ∷ xs) ≡ x ∷ []
  only b x xs same = grind (arith, nat_tests)

  later : (b : ℕ) (x : Waiter) (xs : List Waiter) → x.thread ≢ b → upto (Some b) (x ∷ xs) ≡ x
      ∷ upto (Some b) xs
  later b x xs differ = grind (arith, nat_tests)

  stands : (y : Waiter) (ys : List Waiter) → 1 ≤ times y.thread (y ∷ ys)
  stands y ys = grind (arith, nat_tests)

  not_head : (x : Waiter) (xs : List Waiter) (thread : ℕ) → 1 ≤ times thread xs → times thread (x ∷ xs) ≤ 1
      → x.thread ≢ thread
  not_head x xs thread there once = λ (k : x.thread ≡ thread). grind (arith, nat_tests)

  from : (b : ℕ) (xs : List Waiter) (y : Waiter) (ys : List Waiter) → rest_after (Some b) xs ≡ y ∷ ys
      → 1 ≤ times y.thread xs
  from b xs y ys is = omega (
    arith,
    times_after y.thread b xs,
    subst (λ (l : List Waiter). 1 ≤ times y.thread l) (sym is) (stands y ys),
  )

without_both : (thread : ℕ) (xs ys : List Waiter) → without thread (xs ++ ys) ≡ without thread xs
    ++ without thread ys
without_both thread [] ys = refl
without_both thread (x ∷ xs) ys = grind (arith, nat_tests, without_both thread xs ys)

-- the next one leaves
pub upto_left : (before : Option ℕ) (xs : List Waiter) (y : Waiter) (ys : List Waiter)
    → ((t : ℕ) → times t xs ≤ 1) → rest_after before xs ≡ y ∷ ys
    → (upto before (without y.thread xs) ≡ upto before xs) × (rest_after before (without y.thread xs) ≡ ys)
upto_left None xs y ys once is =
    let few : times y.thread (y ∷ ys) ≤ 1 = subst (λ (l : List Waiter). times y.thread l ≤ 1) is
    (once y.thread) in
    (refl, rw is (first y ys few)) where
      first : (y : Waiter) (ys : List Waiter) → times y.thread (y ∷ ys) ≤ 1 → without y.thread (y ∷ ys) ≡ ys
      first y ys few =
          let none : times y.thread ys ≡ 0 = grind (arith, nat_tests) in
          let rest : without y.thread (y ∷ ys) ≡ without y.thread ys = grind (arith, nat_tests) in
          rest ∙ without_none y.thread ys none
upto_left (Some b) [] y ys once is = absurd cc
upto_left (Some b) (x ∷ xs) y ys once is = elim (cases_eq x.thread b) [
  | inl same ↦
      let rest : xs ≡ y ∷ ys = sym (here b x xs same) ∙ is in
      let there : 1 ≤ times y.thread xs = subst (λ (l : List Waiter). 1 ≤ times y.thread l) (sym rest)
      (stands y ys) in
      let apart : x.thread ≢ y.thread = not_head x xs y.thread there (once y.thread) in
      let few : times y.thread (y ∷ ys) ≤ 1 = subst (λ (l : List Waiter). times y.thread l ≤ 1) rest
      (tail_once x xs y.thread (once y.thread)) in
      let left : without y.thread (x ∷ xs) ≡ x ∷ ys = keeps y.thread x xs apart
      ∙ ap (λ (l : List Waiter). x ∷ without y.thread l) rest ∙ ap (λ (l : List Waiter). x ∷ l)
      (first y ys few) in (
        ap (upto (Some b)) left ∙ only b x ys same ∙ sym (only b x xs same),
        ap (rest_after (Some b)) left
            ∙ here b x ys same,
      )
  | inr differ ↦
      let is_later : rest_after (Some b) xs ≡ y ∷ ys = sym (else_ b x xs differ) ∙ is in
      let there : 1 ≤ times y.thread xs = omega (
        arith,
        times_after y.thread b xs,
        subst (λ (l : List Waiter). 1 ≤ times y.thread l) (sym is_later) (stands y ys),
      ) in
      let apart : x.thread ≢ y.thread = not_head x xs y.thread there (once y.thread) in
      let more = upto_left (Some b) xs y ys (λ t. omega (arith, once t)) is_later in (
        ap (upto (Some b)) (keeps y.thread x xs apart) ∙ later b x (without y.thread xs) differ
            ∙ ap (λ (l : List Waiter). x ∷ l) more.0 ∙ sym (later b x xs differ),
        ap (rest_after (Some b)) (keeps y.thread x xs apart) ∙ else_ b x (without y.thread xs) differ
            ∙ more.1,
      )
] where
  first : (y : Waiter) (ys : List Waiter) → times y.thread (y ∷ ys) ≤ 1 → without y.thread (y ∷ ys) ≡ ys
  first y ys few =
      let none : times y.thread ys ≡ 0 = grind (arith, nat_tests) in
      let rest : without y.thread (y ∷ ys) ≡ without y.thread ys = grind (arith, nat_tests) in
      rest ∙ without_none y.thread ys none

  here : (b : ℕ) (x : Waiter) (xs : List Waiter) → x.thread ≡ b → rest_after (Some b) (x ∷ xs) ≡ xs
  here b x xs same = grind (arith, nat_tests)

  else_ : (b : ℕ) (x : Waiter) (xs : List Waiter) → x.thread ≢ b → rest_after (Some b) (x ∷ xs)
      ≡ rest_after (Some b)
      xs
  else_ b x xs differ = grind (arith, nat_tests)

  only : (b : ℕ) (x : Waiter) (xs : List Waiter) → x.thread ≡ b → upto (Some b) (x ∷ xs) ≡ x ∷ []
  only b x xs same = grind (arith, nat_tests)

  later : (b : ℕ) (x : Waiter) (xs : List Waiter) → x.thread ≢ b → upto (Some b) (x ∷ xs) ≡ x
      ∷ upto (Some b) xs
  later b x xs differ = grind (arith, nat_tests)

  keeps : (thread : ℕ) (x : Waiter) (xs : List Waiter) → x.thread ≢ thread → without thread (x ∷ xs) ≡ x
      ∷ without thread xs
  keeps thread x xs differ = grind (arith, nat_tests)

  stands : (y : Waiter) (ys : List Waiter) → 1 ≤ times y.thread (y ∷ ys)
  stands y ys = grind (arith, nat_tests)

  not_head : (x : Waiter) (xs : List Waiter) (thread : ℕ) → 1 ≤ times thread xs → times thread (x ∷ xs) ≤ 1
      → x.thread ≢ thread
  not_head x xs thread there once = λ (k : x.thread ≡ thread). grind (arith, nat_tests)

  tail_once : (x : Waiter) (xs : List Waiter) (thread : ℕ) → times thread (x ∷ xs) ≤ 1 → times thread xs ≤ 1
  tail_once x xs thread once = omega arith
