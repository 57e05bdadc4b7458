-- Sums over lists that change at one place.
use Rattle.std.proofs.Common.{◌≡◌, ℕ, zero, suc, ◌+◌, ◌≤◌, ◌≢◌, List, [], ◌∷◌, ◌++◌, set, map, refl, sym, ap}
use Rattle.std.proofs.Common.{arith, cond, eqb, eq-eqb, ne_eqb}
use mathlib.Core.Option.{some, some-injective, some-ne-none}
use lib.ListN.{get_elem?}
use Rattle.core_words.specs.Views.{total, total_below}

module _ {A : Type 0} (weight : A → ℕ) where
  pub total-append : (xs ys : List A) → total weight (xs ++ ys) ≡ total weight xs + total weight ys
  total-append [] ys = omega arith
  total-append (x ∷ xs) ys = omega (arith, total-append xs ys)

  pub total-set : (xs : List A) (j : ℕ) (v w : A) → get_elem? xs j ≡ some v → total weight (set xs j w)
      + weight v ≡ total weight xs + weight w
  total-set [] j v w e = absurd (some-ne-none v (sym e))
  total-set (x ∷ xs) zero v w e = omega (arith, ap weight (some-injective x v e))
  total-set (x ∷ xs) (suc j) v w e = omega (arith, total-set xs j v w e)

  pub term_le : (xs : List A) (j : ℕ) (v : A) → get_elem? xs j ≡ some v → weight v ≤ total weight xs
  term_le [] j v e = absurd (some-ne-none v (sym e))
  term_le (x ∷ xs) zero v e = omega (arith, ap weight (some-injective x v e))
  term_le (x ∷ xs) (suc j) v e = omega (arith, term_le xs j v e)

pub total-le : {A : Type 0} (f g : A → ℕ) (xs : List A) → ((q : ℕ) (x : A) → get_elem? xs q ≡ some x
    → f x ≤ g x) → total f xs ≤ total g xs
total-le f g [] each = omega arith
total-le f g (x ∷ xs) each = omega (arith, each zero x refl, total-le f g xs (λ q y e. each (suc q) y e))

pub total_below-suc : (weight : ℕ → ℕ) (n : ℕ) → total_below weight (n + 1) ≡ total_below weight n + weight n
total_below-suc weight n = let e : n + 1 ≡ suc n = omega arith in ap (total_below weight) e

pub cond_same : (x y a : ℕ) → x ≡ y → cond (eqb x y) a 0 ≡ a
cond_same x y a e = ap (λ b. cond b a 0) (eq-eqb x y e)

pub cond_other : (x y a : ℕ) → x ≢ y → cond (eqb x y) a 0 ≡ 0
cond_other x y a ne = ap (λ b. cond b a 0) (ne_eqb x y ne)

pub total-map : {A B : Type 0} (weight : B → ℕ) (f : A → B) (xs : List A) → total weight (map f xs)
    ≡ total (λ x. weight (f x)) xs
total-map weight f [] = refl
total-map weight f (x ∷ xs) = omega (arith, total-map weight f xs)

pub total-same : {A : Type 0} (f g : A → ℕ) (xs : List A) → ((x : A) → f x ≡ g x) → total f xs ≡ total g xs
total-same f g [] same = refl
total-same f g (x ∷ xs) same = omega (arith, same x, total-same f g xs same)

pub total-none : {A : Type 0} (f : A → ℕ) (xs : List A) → ((x : A) → f x ≡ 0) → total f xs ≡ 0
total-none f [] none = refl
total-none f (x ∷ xs) none = omega (arith, none x, total-none f xs none)
