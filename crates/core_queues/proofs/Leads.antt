-- Where records lead.
use Rattle.std.proofs.Common.{ℕ, zero, suc, ◌≡◌, ◌≢◌, ◌≤◌, inl, inr, List, [], ◌∷◌, Option, Some, None}
use Rattle.std.proofs.Common.{length, refl, sym, ap, subst, ◌∙◌, cond, arith}
use Rattle.std.specs.Prelude.{◌==◌}
use Rattle.std.proofs.lemmas.Bool.{cases_eq, cases_lt}
use Rattle.std.proofs.lemmas.Bool.Decides.{nat_tests}
use Rattle.std.proofs.lemmas.List.{get_or_past}
use Rattle.core_base.specs.declared.wants.Waiter.{Waiter}
use Rattle.core_base.specs.Lines.{times, IsSeated}
use Rattle.core_queues.specs.Chains.{rest_after}
use Rattle.core_queues.specs.Links.{standing_record, record_of, next_in, next_of, waiters_of_record}
use Rattle.core_queues.specs.Links.{chain_from, Leads}
use Rattle.core_queues.specs.declared.records.Record.{Record}

-- both lead to one end
one_end : (records : List (Option Record)) (from : Option ℕ) (xs ys : List Waiter) → Leads records from xs
    → Leads records from ys → length xs ≡ length ys
one_end records from [] [] a b = refl
one_end records from [] (y ∷ ys) a b = let e : None ≡ Some y.thread = sym a ∙ b.0 in absurd cc
one_end records from (x ∷ xs) [] a b = let e : None ≡ Some x.thread = sym b ∙ a.0 in absurd cc
one_end records from (x ∷ xs) (y ∷ ys) a b =
    let here : Some y.thread ≡ Some x.thread = sym b.0 ∙ a.0 in
    let same : y.thread ≡ x.thread = cc in
    let more : Leads records (next_of records x.thread) ys =
    subst (λ (t : ℕ). Leads records (next_of records t) ys) same b.2 in
    ap suc (one_end records (next_of records x.thread) xs ys a.2 more)

-- the waiters from a thread on
abbrev since : ℕ → List Waiter → List Waiter
since thread [] = []
since thread (x ∷ xs) = cond (x.thread == thread) (x ∷ xs) (since thread xs)

-- by the first of a list
pub times_here : (x : Waiter) (xs : List Waiter) → 1 ≤ times x.thread (x ∷ xs)
times_here x xs = grind (arith, nat_tests)

pub times_more : (thread : ℕ) (x : Waiter) (xs : List Waiter) → times thread xs ≤ times thread (x ∷ xs)
times_more thread x xs = omega arith

pub times_later : (thread : ℕ) (x : Waiter) (xs : List Waiter) → x.thread ≢ thread → 1 ≤ times thread (x ∷ xs)
    → 1 ≤ times thread xs
times_later thread x xs differ h = grind (arith, nat_tests)

since_here : (thread : ℕ) (x : Waiter) (xs : List Waiter) → x.thread ≡ thread → since thread (x ∷ xs) ≡ x ∷ xs
since_here thread x xs same = grind (arith, nat_tests)

since_later : (thread : ℕ) (x : Waiter) (xs : List Waiter) → x.thread ≢ thread → since thread (x ∷ xs)
    ≡ since thread xs
since_later thread x xs differ = grind (arith, nat_tests)

pub after_here : (thread : ℕ) (x : Waiter) (xs : List Waiter) → x.thread ≡ thread
    → rest_after (Some thread) (x ∷ xs) ≡ xs
after_here thread x xs same = grind (arith, nat_tests)

pub after_later : (thread : ℕ) (x : Waiter) (xs : List Waiter) → x.thread ≢ thread
    → rest_after (Some thread) (x ∷ xs) ≡ rest_after (Some thread) xs
after_later thread x xs differ = grind (arith, nat_tests)

length-since : (thread : ℕ) (xs : List Waiter) → length (since thread xs) ≤ length xs
length-since thread [] = omega arith
length-since thread (x ∷ xs) = grind (arith, nat_tests, length-since thread xs)

leads_since : (records : List (Option Record)) (thread : ℕ) (from : Option ℕ) (xs : List Waiter)
    → Leads records from xs → 1 ≤ times thread xs → Leads records (Some thread) (since thread xs)
leads_since records thread from [] a h = absurd (omega arith)
leads_since records thread from (x ∷ xs) a h = elim (cases_eq x.thread thread) [
  | inl same ↦ rw (since_here thread x xs same) (subst (λ (f : Option ℕ). Leads records f (x ∷ xs)) (a.0
      ∙ ap Some same) a)
  | inr differ ↦ rw (since_later thread x xs differ) (leads_since records thread (next_of records x.thread) xs
      a.2 (times_later thread x xs differ h))
]

-- nobody stands twice
pub once : (records : List (Option Record)) (from : Option ℕ) (xs : List Waiter) (thread : ℕ)
    → Leads records from xs → times thread xs ≤ 1
once records from [] thread a = omega arith
once records from (x ∷ xs) thread a = elim (cases_eq x.thread thread) [
  | inl same ↦ elim (cases_lt 0 (times thread xs)) [
    | inl again ↦
        let more : Leads records (Some thread) (since thread xs) = leads_since records thread
        (next_of records x.thread) xs a.2 again in
        let all : Leads records (Some thread) (x ∷ xs) = subst (λ (f : Option ℕ). Leads records f (x ∷ xs))
        (a.0 ∙ ap Some same) a in
        absurd (omega (
          arith,
          one_end records (Some thread) (since thread xs) (x ∷ xs) more all,
          length-since thread xs,
        ))
    | inr none ↦ grind (arith, nat_tests)
  ]
  | inr differ ↦ grind (arith, nat_tests, once records (next_of records x.thread) xs thread a.2)
]

-- each thread that stands has a record
pub nobody_without : (records : List (Option Record)) (from : Option ℕ) (xs : List Waiter) (thread : ℕ)
    → record_of records thread ≡ None → Leads records from xs → times thread xs ≡ 0
nobody_without records from [] thread none a = refl
nobody_without records from (x ∷ xs) thread none a =
    let differ : x.thread ≢ thread = λ same. let e : None
    ≡ Some (standing_record x.key x.want (next_of records x.thread)) = sym none
    ∙ ap (record_of records) (sym same) ∙ a.1 in cc in
    grind (arith, nat_tests, nobody_without records (next_of records x.thread) xs thread none a.2)

-- records are shown as they lead
pub chain_is : (records : List (Option Record)) (n : ℕ) (from : Option ℕ) (xs : List Waiter) → length xs ≤ n
    → Leads records from xs → chain_from records n from ≡ xs
chain_is records zero from [] h a = refl
chain_is records zero from (x ∷ xs) h a = absurd (omega arith)
chain_is records (suc n) from [] h a = rw a refl
chain_is records (suc n) from (x ∷ xs) h a =
    let more = chain_is records n (next_of records x.thread) xs (omega arith) a.2 in
    let here : waiters_of_record x.thread (record_of records x.thread) ≡ x ∷ [] = rw a.1 refl in
    rw (a.0, here, more) refl

-- chains lead through the same where their records are the same
pub leads_kept : (records others : List (Option Record)) (from : Option ℕ) (xs : List Waiter)
    → ((thread : ℕ) → 1 ≤ times thread xs → record_of others thread ≡ record_of records thread)
    → Leads records from xs → Leads others from xs
leads_kept records others from [] same a = a
leads_kept records others from (x ∷ xs) same a =
    let here : record_of others x.thread ≡ record_of records x.thread = same x.thread (times_here x xs) in
    let next : next_of others x.thread ≡ next_of records x.thread = ap next_in here in (
      a.0,
      rw next (here ∙ a.1),
      rw next (leads_kept records others (next_of records x.thread) xs
          (λ thread h. same thread (omega (arith, times_more thread x xs))) a.2),
    )

-- each thread is below the number of records, and stands at most once
pub seated : (records : List (Option Record)) (from : Option ℕ) (xs : List Waiter) → Leads records from xs
    → IsSeated xs (length records)
seated records from xs a = record {
  below = λ thread above. nobody_without records from xs thread (get_or_past records thread None above) a;
  once = λ thread. once records from xs thread a;
}

-- the thread after a thread
pub leads_afterwards : (records : List (Option Record)) (from : Option ℕ) (xs : List Waiter) (thread : ℕ)
    → Leads records from xs → 1 ≤ times thread xs → Leads records (next_of records thread)
    (rest_after (Some thread) xs)
leads_afterwards records from [] thread a h = absurd (omega arith)
leads_afterwards records from (x ∷ xs) thread a h = elim (cases_eq x.thread thread) [
  | inl same ↦ rw (after_here thread x xs same) (subst (λ (t : ℕ). Leads records (next_of records t) xs) same
      a.2)
  | inr differ ↦ rw (after_later thread x xs differ) (leads_afterwards records (next_of records x.thread) xs
      thread a.2 (times_later thread x xs differ h))
]

-- a thread that has nobody after, is the last
pub last_of_all : (records : List (Option Record)) (xs : List Waiter) → Leads records None xs → xs ≡ []
last_of_all records [] a = refl
last_of_all records (x ∷ xs) a = let e : None ≡ Some x.thread = a.0 in absurd cc
