-- A list that grows by one.
use Rattle.std.proofs.Common.{◌≡◌, zero, suc, List, [], ◌∷◌, ◌++◌, All, sym, subst, arith}
use Rattle.std.proofs.lemmas.List.Elements.{All-append}

one : {A : Type 0} (P : A → Type 0) (x : A) → P x → All P (x ∷ [])
one P x h zero d near = h
one P x h (suc k) d near = absurd (omega arith)

pub all_more : {A : Type 0} (P : A → Type 0) (xs ys : List A) (x : A) → ys ≡ xs ++ x ∷ [] → All P xs → P x
    → All P ys
all_more P xs ys x e all h = subst (All P) (sym e) (All-append P xs (x ∷ []) all (one P x h))
