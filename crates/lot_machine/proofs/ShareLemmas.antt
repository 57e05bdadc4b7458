-- Shared rights that are given one after another.
use Rattle.std.proofs.Common.{ℕ, zero, suc, ◌≡◌, ◌<◌, ◌≤◌, ◌⊎◌, inl, inr, List, [], ◌∷◌, length, get_or, drop}
use Rattle.std.proofs.Common.{refl, ap, arith}
use Rattle.lot_steps.specs.declared.places.Place.{Place}
use Rattle.lot_machine.specs.Machine.{shares_given}

-- as many numbers as before
pub given_count : (t : ℕ) (ps : List Place) (ns : List ℕ) → length (shares_given t ps ns) ≡ length ns
given_count t [] ns = refl
given_count t (p ∷ ps) [] = refl
given_count t (p ∷ ps) (n ∷ ns) = ap suc (given_count t ps ns)

-- nobody shares of no numbers
given_none : (t : ℕ) (ps : List Place) → shares_given t ps [] ≡ []
given_none t [] = refl
given_none t (p ∷ ps) = refl

-- nobody is left
pub given_all : (t i : ℕ) (ps : List Place) (ns : List ℕ) → (length ps ≤ i) ⊎ (length ns ≤ i)
    → shares_given t (drop i ps) (drop i ns) ≡ drop i ns
given_all t zero [] ns h = refl
given_all t (suc i) [] ns h = refl
given_all t zero (p ∷ ps) [] h = refl
given_all t (suc i) (p ∷ ps) [] h = given_none t (drop i ps)
given_all t zero (p ∷ ps) (n ∷ ns) (inl h) = absurd (omega arith)
given_all t zero (p ∷ ps) (n ∷ ns) (inr h) = absurd (omega arith)
given_all t (suc i) (p ∷ ps) (n ∷ ns) (inl h) = given_all t i ps ns (inl (omega arith))
given_all t (suc i) (p ∷ ps) (n ∷ ns) (inr h) = given_all t i ps ns (inr (omega arith))

-- an element that is there needs no default
pub get_any : {A : Type 0} (xs : List A) (i : ℕ) (d e : A) → i < length xs → get_or xs i d ≡ get_or xs i e
get_any [] i d e h = absurd (omega arith)
get_any (x ∷ xs) zero d e h = refl
get_any (x ∷ xs) (suc i) d e h = get_any xs i d e (omega arith)
