-- Lists that grow by one.
use Rattle.std.proofs.Common.{◌≡◌, Option, None, IfSome, ℕ, zero, suc, List, [], ◌∷◌, ◌++◌, ◌+◌, map, All}
use Rattle.std.proofs.Common.{sym, ap, ◌∙◌, subst, arith}
use Rattle.std.proofs.lemmas.List.{map-append}
use Rattle.std.proofs.lemmas.List.Elements.{All-append}
use Rattle.core_parts.specs.Guards.{HasValue}
use Rattle.std.specs.List.{range_with_len}

one : {A : Type 0} (P : A → Type 0) (x : A) → P x → All P (x ∷ [])
one P x h zero d near = h
one P x h (suc k) d near = absurd (omega arith)

pub all_more : {A : Type 0} (P : A → Type 0) (xs ys : List A) (x : A) → ys ≡ xs ++ x ∷ [] → All P xs → P x
    → All P ys
all_more P xs ys x e all h = subst (All P) (sym e) (All-append P xs (x ∷ []) all (one P x h))

range_more : (a n : ℕ) → range_with_len a n ++ (a + n) ∷ [] ≡ range_with_len a (suc n)
range_more a zero = let e : a + 0 ≡ a = omega arith in ap (λ x. x ∷ []) e
range_more a (suc n) = let e : a + suc n ≡ a + 1 + n = omega arith
    in ap (λ x. a ∷ (range_with_len (a + 1) n ++ x ∷ [])) e ∙ ap (λ xs. a ∷ xs) (range_more (a + 1) n)

pub numbers_more : {A : Type 0} (f : A → ℕ) (xs ys : List A) (x : A) (n : ℕ) → ys ≡ xs ++ x ∷ [] → f x ≡ n
    → map f xs ≡ range_with_len 0 n → map f ys ≡ range_with_len 0 (n + 1)
numbers_more f xs ys x n e h all = let z : n ≡ 0 + n = omega arith in let one : suc n ≡ n + 1 = omega arith in
    ap (map f) e ∙ map-append f xs (x ∷ []) ∙ ap (λ zs. zs ++ f x ∷ []) all
    ∙ ap (λ k. range_with_len 0 n ++ k ∷ []) (h ∙ z) ∙ range_more 0 n ∙ ap (range_with_len 0) one

-- records that have no right fit each key
pub all_empty : {A B : Type 0} (right : A → Option B) (fits : B → Type 0) (xs : List (Option A))
    → All (HasValue (λ (a : A). right a ≡ None)) xs → All (HasValue (λ (a : A). IfSome (right a) fits)) xs
all_empty right fits xs all k d h = let t = all k d h in (t.0, t.1, subst (λ o. IfSome o fits) (sym t.2) tt)
