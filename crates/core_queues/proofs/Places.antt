-- Places of the queues, and lists with the same lines.
use Rattle.std.proofs.Common.{ℕ, zero, suc, ◌≡◌, ◌≢◌, ◌+◌, ◌-◌, ◌≤◌, ◌<◌, ◌^◌, inl, inr, List, [], ◌∷◌, ◌++◌}
use Rattle.std.proofs.Common.{Option, Some, None, MatchOption, map, take, refl, sym, ap, subst, ◌∙◌, arith}
use Rattle.std.specs.Prelude.{slice_index_or}
use Rattle.std.proofs.Math.Pow.{pow_mono}
use Rattle.std.proofs.lemmas.Bool.{cases_eq, cases_lt}
use Rattle.std.proofs.lemmas.Bool.Decides.{nat_tests}
use Rattle.std.proofs.lemmas.List.Elements.{filter-append}
use Rattle.core_base.specs.declared.picks.Pick.TheVariants.{Unpark}
use Rattle.core_base.specs.declared.wants.Waiter.{Waiter}
use Rattle.core_base.specs.declared.wants.Want.{Want}
use Rattle.core_base.specs.declared.wants.Want.TheVariants.{Exclusive}
use Rattle.core_base.specs.declared.requeues.Requeue.TheVariants.{One, All}
use Rattle.core_base.specs.Lines.{waiter, times, line, lines, without, without_first, without_key, first_of}
use Rattle.core_base.specs.Lines.{queued_under}
use Rattle.core_base.specs.Picks.{picked, without_picked}
use Rattle.core_base.specs.Requeues.{requeued}
use Rattle.core_queues.specs.Chains.{bucket_of, rest_after, joined, Chained, IsHashed, chain, rest_of}
use Rattle.core_queues.proofs.Joined.{everywhere, line_at, without_none}

-- ---------------------------------------------------------------- places

pub at_first : (q : Chained) (key bucket place : ℕ) (found : Option (Waiter × ℕ)) → IsHashed q → place ≡ 0
    → bucket ≡ bucket_of q.bits key → MatchOption found (line key (chain q bucket) ≡ [])
    (λ f. line key (chain q bucket) ≡ f.0 ∷ rest_of q key f.1) → MatchOption found (rest_of q key place ≡ [])
    (λ f. rest_of q key place ≡ f.0 ∷ rest_of q key f.1)
at_first q key bucket place found hashed none is h =
    let e : line key (chain q bucket) ≡ rest_of q key place = ap (λ (b : ℕ). line key (chain q b)) is
    ∙ sym (line_at q key hashed) ∙ ap (rest_of q key) (sym none) in
    subst (λ (l : List Waiter). MatchOption found (l ≡ []) (λ f. l ≡ f.0 ∷ rest_of q key f.1)) e h

nobody_after : (thread : ℕ) (xs : List Waiter) → times thread xs ≡ 0 → rest_after (Some thread) xs ≡ []
nobody_after thread [] none = refl
nobody_after thread (x ∷ xs) none = grind (arith, nat_tests, nobody_after thread xs)

rest_none : (q : Chained) (key place thread : ℕ) → place ≡ suc thread
    → times thread (chain q (bucket_of q.bits key)) ≡ 0 → rest_of q key place ≡ []
rest_none q key place thread is none = ap (rest_of q key) is
    ∙ ap (line key) (nobody_after thread (chain q (bucket_of q.bits key)) none)

pub no_times : (thread : ℕ) (xs : List Waiter) → queued_under thread xs ≡ None → times thread xs ≡ 0
no_times thread [] none = refl
no_times thread (x ∷ xs) none = grind (arith, nat_tests, no_times thread xs)

first_none : (thread : ℕ) (xs ys : List Waiter) → queued_under thread (xs ++ ys) ≡ None
    → (queued_under thread xs ≡ None) × (queued_under thread ys ≡ None)
first_none thread [] ys none = (refl, none)
first_none thread (x ∷ xs) ys none = elim (cases_eq x.thread thread) [
  | inl same ↦ let here : queued_under thread (x ∷ xs ++ ys) ≡ Some x.key = grind (arith, nat_tests)
      in let e : Some x.key ≡ None = sym here ∙ none in absurd cc
  | inr differ ↦
      let later : queued_under thread (x ∷ xs ++ ys) ≡ queued_under thread (xs ++ ys) =
      grind (arith, nat_tests) in
      let rest : queued_under thread (x ∷ xs) ≡ queued_under thread xs = grind (arith, nat_tests) in
      let more = first_none thread xs ys (sym later ∙ none) in
      (rest ∙ more.0, more.1)
]

nowhere : (thread : ℕ) (chains : List (List Waiter)) (i : ℕ) → queued_under thread (joined chains) ≡ None
    → times thread (slice_index_or chains i []) ≡ 0
nowhere thread [] i none = refl
nowhere thread (c ∷ cs) zero none = no_times thread c (first_none thread c (joined cs) none).0
nowhere thread (c ∷ cs) (suc i) none = nowhere thread cs i (first_none thread c (joined cs) none).1

pub after_nobody : (q : Chained) (key place thread : ℕ) → place ≢ 0 → thread ≡ place - 1
    → queued_under thread (joined q.chains) ≡ None → rest_of q key place ≡ []
after_nobody q key place thread some is none = rest_none q key place thread (omega arith)
    (nowhere thread q.chains (bucket_of q.bits key) none)

pub in_another : (q : Chained) (key place thread other bucket others : ℕ) → IsHashed q → place ≢ 0
    → thread ≡ place - 1 → 1 ≤ times thread (chain q (bucket_of q.bits other)) → bucket ≡ bucket_of q.bits key
    → others ≡ bucket_of q.bits other → others ≢ bucket → rest_of q key place ≡ []
in_another q key place thread other bucket others hashed some is stands here there differ =
    rest_none q key place thread (omega arith)
    (elim (cases_lt 0 (times thread (chain q (bucket_of q.bits key)))) [
      | inl again ↦ absurd (differ (there ∙ hashed.apart (bucket_of q.bits other) (bucket_of q.bits key)
          thread stands again ∙ sym here))
      | inr none ↦ omega arith
    ])

-- ---------------------------------------------------------------- lists with the same lines

pub without_nobody : (thread : ℕ) (xs : List Waiter) → queued_under thread xs ≡ None → without thread xs ≡ xs
without_nobody thread xs none = without_none thread xs (no_times thread xs none)

line_same : (xs ys : List Waiter) (k : ℕ) → lines xs ≡ lines ys → line k xs ≡ line k ys
line_same xs ys k same = ap (λ (f : ℕ → List Waiter). f k) same

pub same_line : (xs ys : List Waiter) (k : ℕ) → lines xs ≡ lines ys → line k xs ≡ line k ys
same_line xs ys k same = line_same xs ys k same

pub lines_both : (xs ys zs : List Waiter) → lines xs ≡ lines ys → lines (xs ++ zs) ≡ lines (ys ++ zs)
lines_both xs ys zs same = everywhere _ _ (λ k. filter-append _ xs zs
    ∙ ap (λ (l : List Waiter). l ++ line k zs) (line_same xs ys k same) ∙ sym (filter-append _ ys zs))

pub line_key_same : (key : ℕ) (xs : List Waiter) → line key (without_key key xs) ≡ []
line_key_same key [] = refl
line_key_same key (x ∷ xs) = grind (arith, nat_tests, line_key_same key xs)

pub line_key_other : (k key : ℕ) (xs : List Waiter) → k ≢ key → line k (without_key key xs) ≡ line k xs
line_key_other k key [] differ = refl
line_key_other k key (x ∷ xs) differ = grind (arith, nat_tests, line_key_other k key xs differ)

without_key_lines : (key : ℕ) (xs ys : List Waiter) → lines xs ≡ lines ys → lines (without_key key xs)
    ≡ lines (without_key key ys)
without_key_lines key xs ys same = everywhere _ _ (λ k. elim (cases_eq k key) [
  | inl is ↦ rw is (line_key_same key xs ∙ sym (line_key_same key ys))
  | inr differ ↦ line_key_other k key xs differ ∙ line_same xs ys k same
      ∙ sym (line_key_other k key ys differ)
])

abbrev moved_to : ℕ → List Waiter → List Waiter
moved_to to waiters = map (λ (x : Waiter). waiter to x.thread Exclusive) waiters

-- all are moved alike
pub all_moved : (from to : ℕ) (xs ys : List Waiter) → lines xs ≡ lines ys → lines (requeued All from to xs)
    ≡ lines (requeued All from to ys)
all_moved from to xs ys same =
    lines_both (without_key from xs) (without_key from ys) (moved_to to (line from xs))
    (without_key_lines from xs ys same)
    ∙ ap (λ (l : List Waiter). lines (without_key from ys ++ moved_to to l)) (line_same xs ys from same)

one_moves : (to thread : ℕ) (l : List Waiter) → first_of l ≡ Some thread → moved_to to (take 1 l)
    ≡ waiter to thread Exclusive ∷ []
one_moves to thread [] first = let e : None ≡ Some thread = first in absurd cc
one_moves to thread (x ∷ xs) first = let e : Some x.thread ≡ Some thread = first in let same : x.thread
    ≡ thread = cc in rw same refl

-- the first was taken and came under another key
pub first_moved : (from to thread : ℕ) (old mid new : List Waiter) → first_of (line from old) ≡ Some thread
    → lines mid ≡ lines (without_first from old) → lines new ≡ lines (mid ++ waiter to thread Exclusive ∷ [])
    → lines new ≡ lines (requeued One from to old)
first_moved from to thread old mid new first taken come =
    come ∙ lines_both mid (without_first from old) (waiter to thread Exclusive ∷ []) taken
    ∙ ap (λ (l : List Waiter). lines (without_first from old ++ l))
    (sym (one_moves to thread (line from old) first))

-- everybody is picked
pub all_picked : {P : Type 0} (next : P → Want → P) (picker : P) (xs : List Waiter)
    → picked (λ _ _. Unpark) next picker xs ≡ xs
all_picked next picker [] = refl
all_picked next picker (x ∷ xs) = ap (λ (l : List Waiter). x ∷ l) (all_picked next (next picker x.want) xs)

pub all_leave : {P : Type 0} (next : P → Want → P) (picker : P) (key : ℕ) (xs : List Waiter)
    → without_picked (λ _ _. Unpark) next picker key xs ≡ without_key key xs
all_leave next picker key [] = refl
all_leave next picker key (x ∷ xs) = grind (
  arith,
  nat_tests,
  all_leave next picker key xs,
  all_leave next (next picker x.want) key xs,
)

-- ---------------------------------------------------------------- the number of buckets

pub one_more : (threads bits : ℕ) → ((k : ℕ) → threads ≤ 2 ^ k → bits ≤ k) → 2 ^ bits < threads → (k : ℕ)
    → threads ≤ 2 ^ k → bits + 1 ≤ k
one_more threads bits least more k enough = elim (cases_lt bits k) [
  | inl h ↦ omega arith
  | inr h ↦ let small : 2 ^ k ≤ 2 ^ bits = pow_mono h in absurd (omega arith)
]

-- the place after one that a bucket has
pub rest_after_one : (q : Chained) (key bucket : ℕ) (x : Waiter) → bucket ≡ bucket_of q.bits key
    → x ∷ line key (rest_after (Some x.thread) (chain q bucket)) ≡ x ∷ rest_of q key (x.thread + 1)
rest_after_one q key bucket x is = ap (λ (l : List Waiter). x ∷ l)
    (ap (λ (b : ℕ). line key (rest_after (Some x.thread) (chain q b))) is ∙ ap (rest_of q key)
    (next x.thread))
  where
    next : (n : ℕ) → suc n ≡ n + 1
    next n = omega arith
