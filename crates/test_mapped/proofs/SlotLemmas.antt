-- Slots of lists, by their numbers.
use Rattle.std.proofs.Common.{◌≡◌, ℕ, zero, suc, ◌<◌, ◌≤◌, List, [], ◌∷◌, length, get_or, Ok, Err, IsOk, ap}
use Rattle.std.proofs.Common.{sym, ◌∙◌, refl, arith}
use Rattle.lock_values.specs.Finds.{checked}
use Rattle.test_mapped.specs.Slots.{slot_found}

pub slot_there : {A E : Type 0} (xs : List A) (at : ℕ) (missing : E) (d : A) → at < length xs
    → slot_found xs at missing ≡ Ok (get_or xs at d)
slot_there [] at missing d below = absurd (omega (arith, below))
slot_there (x ∷ xs) zero missing d below = refl
slot_there (x ∷ xs) (suc at) missing d below = slot_there xs at missing d (omega (arith, below))

pub slot_not_there : {A E : Type 0} (xs : List A) (at : ℕ) (missing : E) → (at < length xs → ⊥)
    → slot_found xs at missing ≡ Err missing
slot_not_there [] at missing above = refl
slot_not_there (x ∷ xs) zero missing above = absurd (above (omega arith))
slot_not_there (x ∷ xs) (suc at) missing above = slot_not_there xs at missing
    (λ below. above (omega (arith, below)))

pub slot_bound : {A E : Type 0} (xs : List A) (at : ℕ) (missing : E) → IsOk (slot_found xs at missing)
    → at < length xs
slot_bound [] at missing ok = cc
slot_bound (x ∷ xs) zero missing ok = omega arith
slot_bound (x ∷ xs) (suc at) missing ok = let below : at < length xs = slot_bound xs at missing ok
    in omega (arith, below)

-- by the number of slots that a vector keeps
pub check_there : {A E : Type 0} (xs : List A) (n m at : ℕ) (missing : E) → n ≡ length xs → m ≡ n → at < m
    → Ok tt ≡ checked (slot_found xs at missing)
check_there [] n m at missing is so below = absurd (omega (arith, is, so, below))
check_there (x ∷ xs) n m at missing is so below =
    let inside : at < length (x ∷ xs) = rw (← is, ← so) below in
    ap checked (sym (slot_there (x ∷ xs) at missing x inside))

pub check_missing : {A E : Type 0} (xs : List A) (n m at : ℕ) (missing : E) → n ≡ length xs → m ≡ n → m ≤ at
    → Err missing ≡ checked (slot_found xs at missing)
check_missing xs n m at missing is so above =
    ap checked (sym (slot_not_there xs at missing (λ below. omega (arith, is, so, above, below))))

pub vec_bound : {A E : Type 0} (xs : List A) (n at : ℕ) (missing : E) → n ≡ length xs
    → IsOk (slot_found xs at missing) → at < n
vec_bound xs n at missing is ok = let below : at < length xs = slot_bound xs at missing ok
    in omega (arith, is, below)

pub found_there : {A E : Type 0} (xs : List A) (at : ℕ) (missing : E) (d : A)
    → IsOk (slot_found xs at missing) → d ≡ get_or xs at d → slot_found xs at missing ≡ Ok d
found_there xs at missing d ok is = slot_there xs at missing d (slot_bound xs at missing ok) ∙ ap Ok (sym is)
