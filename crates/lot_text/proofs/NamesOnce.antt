-- Names that stand once each.
use Rattle.std.proofs.Common.{◌≡◌, ℕ, ◌<◌, ◌≤◌, Bool, true, List, [], ◌∷◌, ◌++◌, Some, None, length, refl}
use Rattle.std.proofs.Common.{sym, ap, subst, ◌∙◌, arith, inl, inr, length-append}
use Rattle.std.specs.Prelude.{slice_index_or}
use Rattle.std.specs.List.{position, position_or_len}
use Rattle.std.specs.Str.{bytes_eq}
use Rattle.std.proofs.lemmas.Bool.{cases_lt}
use Rattle.std.proofs.lemmas.Bool.Decides.{nat_tests}
use Rattle.std.proofs.lemmas.List.{get_or_append_left, get_or_push}
use Rattle.std.proofs.lemmas.List.Folds.{position_or_len_push}
use Rattle.std.proofs.lemmas.Slice.Eq.{bytes_eq-Decides}
use Rattle.lot_text.specs.LockNames.{lock_named, NamesAreDistinct}

-- the place of a name, where it is found
placed : (p : List ℕ → Bool) (xs : List (List ℕ)) (k : ℕ) → position p xs ≡ Some k → position_or_len p xs ≡ k
placed p xs k e = grind (arith, nat_tests)

bytes_eq-refl : (x : List ℕ) → bytes_eq x x ≡ true
bytes_eq-refl x = (bytes_eq-Decides x x).1 refl

-- Where the name isn't there, no place is its.
unplaced : (p : List ℕ → Bool) (xs : List (List ℕ)) → position p xs ≡ None → length xs ≤ position_or_len p xs
unplaced p xs e = grind (arith, nat_tests)

found_at : (p : List ℕ → Bool) (xs : List (List ℕ)) (k : ℕ) → position_or_len p xs ≡ k → k < length xs
    → position p xs ≡ Some k
found_at p xs k e h = grind (arith, nat_tests)

-- one that stood there before
stands_still : (names : List (List ℕ)) (name x : List ℕ) (k : ℕ) → lock_named names x ≡ Some k
    → k < length names → lock_named (names ++ name ∷ []) x ≡ Some k
stands_still names name x k e h =
    found_at (λ other. bytes_eq other x) (names ++ name ∷ []) k
    (grind (
      arith,
      nat_tests,
      position_or_len_push (λ other. bytes_eq other x) names name,
      placed (λ other. bytes_eq other x) names k e,
    ))
    (omega (arith, length-append names (name ∷ []), h))

within_all : (p : List ℕ → Bool) (xs : List (List ℕ)) → position_or_len p xs ≤ length xs
within_all p [] = omega arith
within_all p (x ∷ xs) = grind (arith, within_all p xs)

-- The new name has the last place.
last_of : (p : List ℕ → Bool) (names : List (List ℕ)) (name : List ℕ) → p name ≡ true → position p names
    ≡ None → position_or_len p (names ++ name ∷ []) ≡ length names
last_of p names name is e = grind (
  arith,
  nat_tests,
  position_or_len_push p names name,
  unplaced p names e,
  within_all p names,
)

stands_last : (names : List (List ℕ)) (name : List ℕ) → lock_named names name ≡ None
    → lock_named (names ++ name ∷ []) name ≡ Some (length names)
stands_last names name e =
    found_at (λ other. bytes_eq other name) (names ++ name ∷ []) (length names)
    (last_of (λ other. bytes_eq other name) names name (bytes_eq-refl name) e)
    (omega (arith, length-append names (name ∷ [])))

pub one_more : (names : List (List ℕ)) (name : List ℕ) → NamesAreDistinct names → lock_named names name ≡ None
    → NamesAreDistinct (names ++ name ∷ [])
one_more names name once new k within = elim (cases_lt k (length names)) [
  | inl lt ↦ subst (λ x. lock_named (names ++ name ∷ []) x ≡ Some k)
      (sym (get_or_append_left names (name ∷ []) [] k lt))
      (stands_still names name (slice_index_or names k []) k (once k lt) lt)
  | inr le ↦
      let at : length names ≡ k = omega (arith, le, within, length-append names (name ∷ [])) in
      subst (λ x. lock_named (names ++ name ∷ []) x ≡ Some k) (sym (get_or_push names name [] k at))
      (stands_last names name new ∙ ap Some at)
]
