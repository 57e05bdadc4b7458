-- A lock that is full leaves nobody out, where each thread has one right at most.
use Rattle.std.proofs.Common.{ℕ, zero, suc, Option, Some, None, ◌≡◌, ◌+◌, ◌≤◌, ◌<◌, List, [], ◌∷◌, length}
use Rattle.std.proofs.Common.{length-set, inl, inr, refl, ◌∙◌, ap, arith, get_or-set_same, get_or-set_other}
use Rattle.std.specs.Prelude.{sum, slice_index, slice_set}
use Rattle.std.proofs.lemmas.Bool.{cases_eq}
use Rattle.std.proofs.lemmas.Bool.Decides.{nat_tests}
use Rattle.std.proofs.lemmas.List.Sums.{sum_by-set}
use Rattle.spec_locks.proofs.HandLimits.{sum_cons}
use Rattle.spec_locks.specs.Locks.{LockState, count, one_if_some}
use Rattle.lot_world.specs.Drained.{NobodyIsLeftOut, OneEach, counting_rights}

few_sum : (xs : List ℕ) → ((t : ℕ) → slice_index xs t ≤ 1) → sum xs ≤ length xs
few_sum [] h = omega arith
few_sum (x ∷ xs) h = let all : sum (x ∷ xs) ≡ x + sum xs = sum_cons x xs in let long : length (x ∷ xs)
    ≡ length xs + 1 = omega arith in let first : x ≤ 1 = h 0 in let rest : sum xs ≤ length xs =
    few_sum xs (λ t. h (suc t)) in omega arith

-- one of them has none
spare_sum : (xs : List ℕ) (q : ℕ) → ((t : ℕ) → slice_index xs t ≤ 1) → q < length xs → slice_index xs q ≡ 0
    → sum xs + 1 ≤ length xs
spare_sum [] q h lt e = absurd (omega arith)
spare_sum (x ∷ xs) zero h lt e = let all : sum (x ∷ xs) ≡ x + sum xs = sum_cons x xs in let first : x ≡ 0 = e
    in let rest : sum xs ≤ length xs = few_sum xs (λ t. h (suc t)) in omega arith
spare_sum (x ∷ xs) (suc q) h lt e = let all : sum (x ∷ xs) ≡ x + sum xs = sum_cons x xs in let first : x ≤ 1 =
    h 0 in let rest : sum xs + 1 ≤ length xs = spare_sum xs q (λ t. h (suc t)) (omega arith) e in omega arith

-- the upgradable owner is counted with those that share
counted_too : (s : LockState) (q : ℕ) → OneEach s → (o : Option ℕ) → s.upgradable ≡ o → q < length s.shared
    → counting_rights s q ≡ 0
    → count s + 1 ≤ length s.shared
counted_too s q each None e lt none = grind (
  arith,
  spare_sum s.shared q (λ t. let h = each.one t
      in omega arith) lt (omega arith),
)
counted_too s q each (Some u) e lt none =
    let there : u < length s.shared = each.there u e in
    let more : sum with_owner + slice_index s.shared u ≡ sum s.shared + (slice_index s.shared u + 1) =
    sum_by-set (λ (n : ℕ). n) s.shared u (slice_index s.shared u + 1) 0 there in
    let long : length with_owner ≡ length s.shared = length-set s.shared u (slice_index s.shared u + 1) in
    let spare : sum with_owner + 1 ≤ length with_owner = spare_sum with_owner q few (rw long lt) none_there in
    let all : count s ≡ sum s.shared + 1 = ap (λ (o : Option ℕ). sum s.shared + one_if_some o) e in
    omega arith
  where
    with_owner : List ℕ
    with_owner = slice_set s.shared u (slice_index s.shared u + 1)

    at : (t : ℕ) → slice_index with_owner t ≡ counting_rights s t
    at t = elim (cases_eq t u) [
      | inl same ↦ grind (
        arith,
        nat_tests,
        get_or-set_same s.shared u (slice_index s.shared u + 1) 0
            (each.there u e),
      )
      | inr other ↦ grind (
        arith,
        nat_tests,
        get_or-set_other s.shared u t (slice_index s.shared u + 1) 0
            other,
      )
    ]

    few : (t : ℕ) → slice_index with_owner t ≤ 1
    few t = let a = at t in let h = each.one t in omega arith

    none_there : slice_index with_owner q ≡ 0
    none_there = at q ∙ none

pub nobody_is_left_out : NobodyIsLeftOut
nobody_is_left_out r s t room each full there = by_number (counting_rights s t) refl (each.one t)
  where
    by_number : (n : ℕ) → counting_rights s t ≡ n → n ≤ 1 → counting_rights s t ≡ 1
    by_number zero e le = absurd (let spare = counted_too s t each s.upgradable refl there e
        in grind (arith, nat_tests))
    by_number (suc zero) e le = e
    by_number (suc (suc n)) e le = absurd (omega arith)
