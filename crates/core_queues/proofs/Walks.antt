-- A walk of waiters, one after another.
use Rattle.std.proofs.Common.{ℕ, zero, suc, Bool, true, false, ◌≡◌, ◌≢◌, ◌+◌, ◌≤◌, ◌<◌, inl, inr, List, [], ◌∷◌}
use Rattle.std.proofs.Common.{take, length, cond, sym, subst, ◌∙◌, arith}
use Rattle.std.proofs.Common.{get_or-set_other, get_or-set_same}
use Rattle.std.specs.Prelude.{◌==◌, slice_index_or, slice_set}
use Rattle.std.proofs.lemmas.Bool.{cases_eq, cases_lt}
use Rattle.std.proofs.lemmas.Bool.Decides.{nat_tests}
use Rattle.core_base.specs.declared.wants.Waiter.{Waiter}
use Rattle.core_base.specs.declared.wants.Want.TheVariants.{Exclusive}
use Rattle.core_base.specs.Lines.{waiter, IsSeated, line, times}

-- the waiter at a place
abbrev pub at : List Waiter → ℕ → Waiter
at xs i = slice_index_or xs i (waiter 0 0 Exclusive)

times_more : (thread : ℕ) (xs : List Waiter) (i : ℕ) → i < length xs
    → times thread (take (suc i) xs) ≡ times thread (take i xs) + cond ((at xs i).thread == thread) 1 0
times_more thread [] i within = absurd (omega arith)
times_more thread (x ∷ xs) zero within = grind (arith, nat_tests)
times_more thread (x ∷ xs) (suc i) within = grind (arith, nat_tests, times_more thread xs i (omega arith))

line_more : (thread key : ℕ) (xs : List Waiter) (i : ℕ) → i < length xs
    → times thread (line key (take (suc i) xs)) ≡ times thread (line key (take i xs))
    + cond ((at xs i).key == key) (cond ((at xs i).thread == thread) 1 0) 0
line_more thread key [] i within = absurd (omega arith)
line_more thread key (x ∷ xs) zero within = grind (arith, nat_tests)
line_more thread key (x ∷ xs) (suc i) within =
    grind (arith, nat_tests, line_more thread key xs i (omega arith))

stands_at : (xs : List Waiter) (i : ℕ) → i < length xs → 1 ≤ times (at xs i).thread xs
stands_at [] i within = absurd (omega arith)
stands_at (x ∷ xs) zero within = grind (arith, nat_tests)
stands_at (x ∷ xs) (suc i) within = omega (arith, stands_at xs i (omega arith))

-- there is a mark of each
pub has_mark : (xs : List Waiter) (seats i : ℕ) → IsSeated xs seats → i < length xs
    → (at xs i).thread < seats
has_mark xs seats i seated within = elim (cases_lt (at xs i).thread seats) [
  | inl fits ↦ fits
  | inr past ↦ absurd (omega (arith, stands_at xs i within, seated.below (at xs i).thread past))
]

plus_one : (i : ℕ) → i + 1 ≡ suc i
plus_one i = omega arith

before : (xs : List Waiter) (i thread : ℕ) → i < length xs → thread ≢ (at xs i).thread
    → 1 ≤ times thread (take (i + 1) xs) → 1 ≤ times thread (take i xs)
before xs i thread within differ stands =
    let apart : (at xs i).thread ≢ thread = λ (e : (at xs i).thread ≡ thread). differ (sym e) in
    let more = times_more thread xs i within in
    let there : 1 ≤ times thread (take (suc i) xs) = subst (λ (n : ℕ). 1 ≤ times thread (take n xs))
    (plus_one i) stands in
    grind (arith, nat_tests, more, there)

-- one more is marked
pub one_marked : (xs : List Waiter) (marks : List Bool) (i : ℕ) (mark : Bool) → i < length xs
    → ((thread : ℕ) → 1 ≤ times thread (take i xs) → thread < length marks
    → slice_index_or marks thread false ≡ mark)
    → (thread : ℕ) → 1 ≤ times thread (take (i + 1) xs) → thread < length marks
    → slice_index_or (slice_set marks (at xs i).thread mark) thread false ≡ mark
one_marked xs marks i mark within marked thread stands fits = elim (cases_eq thread (at xs i).thread) [
  | inl same ↦ rw same (get_or-set_same marks (at xs i).thread mark false (subst (λ (t : ℕ). t < length marks)
      same fits))
  | inr differ ↦ get_or-set_other marks (at xs i).thread thread mark false differ
      ∙ marked thread (before xs i thread within differ stands) fits
]

-- one more has no mark
pub none_to_mark : (xs : List Waiter) (marks : List Bool) (i : ℕ) (mark : Bool) → i < length xs
    → length marks ≤ (at xs i).thread
    → ((thread : ℕ) → 1 ≤ times thread (take i xs) → thread < length marks
    → slice_index_or marks thread false ≡ mark)
    → (thread : ℕ) → 1 ≤ times thread (take (i + 1) xs) → thread < length marks
    → slice_index_or marks thread false ≡ mark
none_to_mark xs marks i mark within past marked thread stands fits =
    let differ : thread ≢ (at xs i).thread = λ (same : thread ≡ (at xs i).thread). omega (arith, same, fits, past)
    in marked thread (before xs i thread within differ stands) fits

-- one more isn't of the key
pub other_key : (key : ℕ) (xs : List Waiter) (marks : List Bool) (i : ℕ) → i < length xs
    → (at xs i).key ≢ key
    → ((thread : ℕ) → 1 ≤ times thread (line key (take i xs)) → slice_index_or marks thread false ≡ false)
    → (thread : ℕ) → 1 ≤ times thread (line key (take (i + 1) xs))
    → slice_index_or marks thread false ≡ false
other_key key xs marks i within differ unmarked thread stands =
    unmarked thread (before thread stands) where
      before : (thread : ℕ) → 1 ≤ times thread (line key (take (i + 1) xs))
          → 1 ≤ times thread (line key (take i xs))
      before thread stands =
          let more = line_more thread key xs i within in
          let there : 1 ≤ times thread (line key (take (suc i) xs)) =
          subst (λ (n : ℕ). 1 ≤ times thread (line key (take n xs))) (plus_one i) stands in
          grind (arith, nat_tests, more, there)

-- one more isn't marked
pub no_mark : (key : ℕ) (xs : List Waiter) (marks : List Bool) (i : ℕ) → i < length xs
    → slice_index_or marks (at xs i).thread false ≡ false
    → ((thread : ℕ) → 1 ≤ times thread (line key (take i xs)) → slice_index_or marks thread false ≡ false)
    → (thread : ℕ) → 1 ≤ times thread (line key (take (i + 1) xs))
    → slice_index_or marks thread false ≡ false
no_mark key xs marks i within none unmarked thread stands = elim (cases_eq thread (at xs i).thread) [
  | inl same ↦ rw same none
  | inr differ ↦ unmarked thread (before thread differ stands)
] where
  before : (thread : ℕ) → thread ≢ (at xs i).thread → 1 ≤ times thread (line key (take (i + 1) xs))
      → 1 ≤ times thread (line key (take i xs))
  before thread differ stands =
      let apart : (at xs i).thread ≢ thread = λ (e : (at xs i).thread ≡ thread). differ (sym e) in
      let more = line_more thread key xs i within in
      let there : 1 ≤ times thread (line key (take (suc i) xs)) =
      subst (λ (n : ℕ). 1 ≤ times thread (line key (take n xs))) (plus_one i) stands in
      grind (arith, nat_tests, more, there)

times_line : (thread key : ℕ) (xs : List Waiter) → times thread (line key xs) ≤ times thread xs
times_line thread key [] = omega arith
times_line thread key (x ∷ xs) = grind (arith, nat_tests, times_line thread key xs)

-- threads that are marked, and threads of a key that are not
pub none_marked : (key : ℕ) (xs ys : List Waiter) (marks : List Bool) → IsSeated xs (length marks)
    → ((thread : ℕ) → 1 ≤ times thread ys → thread < length marks
    → slice_index_or marks thread false ≡ true)
    → ((thread : ℕ) → 1 ≤ times thread (line key xs) → slice_index_or marks thread false ≡ false)
    → (thread : ℕ) → 1 ≤ times thread (line key xs) → times thread ys ≡ 0
none_marked key xs ys marks seated marked unmarked thread stands = elim (cases_lt 0 (times thread ys)) [
  | inl there ↦ let e : true ≡ false = sym (marked thread (omega arith) fits) ∙ unmarked thread stands in
      absurd cc
  | inr none ↦ omega arith
] where
  fits : thread < length marks
  fits = elim (cases_lt thread (length marks)) [
    | inl h ↦ h
    | inr past ↦ absurd (omega (arith, times_line thread key xs, seated.below thread past, stands))
  ]
