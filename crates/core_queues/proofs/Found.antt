-- The waiter that is found after a thread.
use Rattle.std.proofs.Common.{ℕ, ◌≡◌, ◌≢◌, ◌≤◌, inl, inr, List, [], ◌∷◌, Option, Some, None, IfSome}
use Rattle.std.proofs.Common.{MatchOption, refl, sym, ap, subst, ◌∙◌, arith}
use Rattle.std.proofs.lemmas.Bool.{cases_eq}
use Rattle.std.proofs.lemmas.Bool.Decides.{nat_tests}
use Rattle.core_base.specs.declared.wants.Waiter.{Waiter}
use Rattle.core_base.specs.Lines.{times}
use Rattle.core_queues.specs.Chains.{rest_after}
use Rattle.core_queues.specs.Links.{next_after, waiter_of_record, waiter_at, first_in, Leads}
use Rattle.core_queues.specs.declared.records.Record.{Record}
use Rattle.core_queues.specs.declared.records.Ends.{Ends}
use Rattle.core_queues.proofs.Leads.{times_here, times_more, after_here, after_later, leads_afterwards}
use Rattle.core_queues.proofs.Leads.{seated}

abbrev head_of : List Waiter → Option Waiter
head_of [] = None
head_of (x ∷ xs) = Some x

waiter_is_head : (records : List (Option Record)) (from : Option ℕ) (xs : List Waiter) → Leads records from xs
    → waiter_at records from ≡ head_of xs
waiter_is_head records from [] a = rw a refl
waiter_is_head records from (x ∷ xs) a = ap (waiter_at records) a.0 ∙ ap (waiter_of_record x.thread) a.1

leads_from : (records : List (Option Record)) (ends : Option Ends) (xs : List Waiter) (before : Option ℕ)
    → Leads records (first_in ends) xs → IfSome before (λ b. 1 ≤ times b xs)
    → Leads records (next_after records ends before) (rest_after before xs)
leads_from records ends xs None a h = a
leads_from records ends xs (Some b) a h = leads_afterwards records (first_in ends) xs b a h

-- a thread that is first after a thread stands there
pub first_stands : (before : Option ℕ) (xs : List Waiter) (y : Waiter) (ys : List Waiter)
    → rest_after before xs
    ≡ y ∷ ys → 1 ≤ times y.thread xs
first_stands None xs y ys is = rw is (times_here y ys)
first_stands (Some b) [] y ys is = absurd cc
first_stands (Some b) (x ∷ xs) y ys is = elim (cases_eq x.thread b) [
  | inl same ↦ let rest : xs ≡ y ∷ ys = sym (after_here b x xs same) ∙ is
      in rw rest (omega (arith, times_here y ys, times_more y.thread x (y ∷ ys)))
  | inr differ ↦ omega (
    arith,
    times_more y.thread x xs,
    first_stands (Some b) xs y ys (sym (after_later b x xs differ) ∙ is),
  )
]

-- The others stay after the one that is found.
pub rest_slow : (before : Option ℕ) (xs : List Waiter) (y : Waiter) (ys : List Waiter)
    → ((thread : ℕ) → times thread xs ≤ 1) → rest_after before xs ≡ y ∷ ys → rest_after (Some y.thread) xs
    ≡ ys
rest_slow None xs y ys once is = ap (rest_after (Some y.thread)) is ∙ after_here y.thread y ys refl
rest_slow (Some b) [] y ys once is = absurd cc
rest_slow (Some b) (x ∷ xs) y ys once is = elim (cases_eq x.thread b) [
  | inl same ↦
      let rest : xs ≡ y ∷ ys = sym (after_here b x xs same) ∙ is in
      let there : 1 ≤ times y.thread xs = subst (λ (l : List Waiter). 1 ≤ times y.thread l) (sym rest)
      (times_here y ys) in
      let differ = not_first x xs y.thread (once y.thread) there in
      after_later y.thread x xs differ ∙ ap (rest_after (Some y.thread)) rest ∙ after_here y.thread y ys refl
  | inr differ ↦
      let is_later : rest_after (Some b) xs ≡ y ∷ ys = sym (after_later b x xs differ) ∙ is in
      let there : 1 ≤ times y.thread xs = first_stands (Some b) xs y ys is_later in
      after_later y.thread x xs (not_first x xs y.thread (once y.thread) there)
      ∙ rest_slow (Some b) xs y ys (λ thread. omega (arith, once thread, times_more thread x xs)) is_later
] where
  not_first : (x : Waiter) (xs : List Waiter) (thread : ℕ) → times thread (x ∷ xs) ≤ 1 → 1 ≤ times thread xs
      → x.thread ≢ thread
  not_first x xs thread once there = λ (k : x.thread ≡ thread). grind (arith, nat_tests)

match_head : (before : Option ℕ) (xs zs : List Waiter) → ((thread : ℕ) → times thread xs ≤ 1)
    → rest_after before xs ≡ zs → MatchOption (head_of zs) (rest_after before xs ≡ [])
    (λ w. rest_after before xs ≡ w
    ∷ rest_after (Some w.thread) xs)
match_head before xs [] once is = is
match_head before xs (y ∷ ys) once is = is ∙ ap (λ (l : List Waiter). y ∷ l)
    (sym (rest_slow before xs y ys once is))

head_stands : (before : Option ℕ) (xs zs : List Waiter) → rest_after before xs ≡ zs
    → IfSome (head_of zs) (λ w. 1 ≤ times w.thread xs)
head_stands before xs [] is = tt
head_stands before xs (y ∷ ys) is = first_stands before xs y ys is

pub found : (records : List (Option Record)) (ends : Option Ends) (xs : List Waiter) (before : Option ℕ)
    (seen : Option Waiter) → Leads records (first_in ends) xs → IfSome before (λ b. 1 ≤ times b xs)
    → seen ≡ waiter_at records (next_after records ends before) → MatchOption seen (rest_after before xs ≡ [])
    (λ w. rest_after before xs ≡ w ∷ rest_after (Some w.thread) xs)
found records ends xs before seen a h is =
    let head : seen ≡ head_of (rest_after before xs) = is ∙ waiter_is_head records
    (next_after records ends before) (rest_after before xs) (leads_from records ends xs before a h) in
    rw head (match_head before xs (rest_after before xs) (seated records (first_in ends) xs a).once refl)

pub found_stands : (records : List (Option Record)) (ends : Option Ends) (xs : List Waiter)
    (before : Option ℕ) (seen : Option Waiter) → Leads records (first_in ends) xs
    → IfSome before (λ b. 1 ≤ times b xs) → seen ≡ waiter_at records (next_after records ends before)
    → IfSome seen (λ w. 1 ≤ times w.thread xs)
found_stands records ends xs before seen a h is =
    let head : seen ≡ head_of (rest_after before xs) = is ∙ waiter_is_head records
    (next_after records ends before) (rest_after before xs) (leads_from records ends xs before a h) in
    rw head (head_stands before xs (rest_after before xs) refl)
