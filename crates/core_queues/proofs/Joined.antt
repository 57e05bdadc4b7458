-- The line of a key is cut out of the chain of its bucket.
use Rattle.std.proofs.Common.{ℕ, zero, suc, ◌≡◌, ◌≢◌, ◌+◌, ◌≤◌, ◌<◌, inl, inr, List, [], ◌∷◌, ◌++◌, Some}
use Rattle.std.proofs.Common.{length, refl, sym, ap, subst, ◌∙◌, arith, get_or-set_other, get_or-set_same}
use Rattle.std.proofs.Common.{drop}
use Rattle.std.specs.Prelude.{slice_index_or, slice_set}
use Rattle.std.proofs.lemmas.Bool.{cases_eq, cases_lt}
use Rattle.std.proofs.lemmas.Bool.Decides.{nat_tests}
use Rattle.std.proofs.lemmas.List.{append-nil}
use Rattle.std.proofs.lemmas.List.Elements.{filter-append}
use Rattle.core_base.specs.declared.picks.Pick.{Pick}
use Rattle.core_base.specs.declared.wants.Waiter.{Waiter}
use Rattle.core_base.specs.declared.wants.Want.{Want}
use Rattle.core_base.specs.Lines.{waiter, times, line, lines, without, without_first, first_of}
use Rattle.core_base.specs.Picks.{without_picked}
use Rattle.core_base.proofs.Moves.{line_without_first}
use Rattle.core_base.proofs.Seats.{line_seated}
use Rattle.core_queues.specs.Chains.{bucket_of, joined, AreOfBucket, Chained, chain, IsHashed}

-- functions that agree everywhere are the same
pub everywhere : (f g : ℕ → List Waiter) → ((k : ℕ) → f k ≡ g k) → f ≡ g
everywhere f g same = λ i k. same k i

none_of : (bits b key : ℕ) (xs : List Waiter) → AreOfBucket bits b xs → bucket_of bits key ≢ b
    → line key xs ≡ []
none_of bits b key [] own differ = refl
none_of bits b key (x ∷ xs) own differ =
    let apart : x.key ≢ key = λ (k : x.key ≡ key). differ (ap (bucket_of bits) (sym k) ∙ own.0) in
    grind (arith, nat_tests, none_of bits b key xs own.1 differ)

none_joined : (bits n key : ℕ) (chains : List (List Waiter))
    → ((i : ℕ) → AreOfBucket bits (n + i) (slice_index_or chains i [])) → bucket_of bits key < n
    → line key (joined chains) ≡ []
none_joined bits n key [] own below = refl
none_joined bits n key (c ∷ cs) own below =
    let here : line key c ≡ [] = none_of bits (n + 0) key c (own 0) (omega arith) in
    let rest : line key (joined cs) ≡ [] = none_joined bits (suc n) key cs
    (λ i. subst (λ (m : ℕ). AreOfBucket bits m (slice_index_or cs i [])) (step n i) (own (suc i)))
    (omega arith) in
    filter-append _ c (joined cs) ∙ rw (here, rest) refl where
      step : (n i : ℕ) → n + suc i ≡ suc n + i
      step n i = omega arith

at_bucket : (bits n key : ℕ) (chains : List (List Waiter)) (i : ℕ)
    → ((j : ℕ) → AreOfBucket bits (n + j) (slice_index_or chains j [])) → bucket_of bits key ≡ n + i
    → line key (joined chains) ≡ line key (slice_index_or chains i [])
at_bucket bits n key [] i own is = refl
at_bucket bits n key (c ∷ cs) zero own is =
    let rest : line key (joined cs) ≡ [] = none_joined bits (suc n) key cs
    (λ i. subst (λ (m : ℕ). AreOfBucket bits m (slice_index_or cs i [])) (step n i) (own (suc i)))
    (omega arith) in
    filter-append _ c (joined cs) ∙ rw rest (append-nil (line key c)) where
      step : (n i : ℕ) → n + suc i ≡ suc n + i
      step n i = omega arith
at_bucket bits n key (c ∷ cs) (suc i) own is =
    let here : line key c ≡ [] = none_of bits (n + 0) key c (own 0) (omega arith) in
    filter-append _ c (joined cs)
    ∙ rw here (at_bucket bits (suc n) key cs i
    (λ j. subst (λ (m : ℕ). AreOfBucket bits m (slice_index_or cs j [])) (step n j) (own (suc j)))
    (omega arith)) where
      step : (n i : ℕ) → n + suc i ≡ suc n + i
      step n i = omega arith

-- the line of a key stands in its bucket
pub line_at : (q : Chained) (key : ℕ) → IsHashed q → line key (joined q.chains)
    ≡ line key (chain q (bucket_of q.bits key))
line_at q key hashed = at_bucket q.bits 0 key q.chains (bucket_of q.bits key)
    (λ j. subst (λ (m : ℕ). AreOfBucket q.bits m (slice_index_or q.chains j [])) (from_none j)
    (hashed.own_bucket j)) (omega arith) where
      from_none : (j : ℕ) → j ≡ 0 + j
      from_none j = omega arith

pub few : (q : Chained) (key : ℕ) → IsHashed q → length (line key (joined q.chains)) ≤ q.capacity
few q key hashed = rw (line_at q key hashed) (line_seated key q.capacity (chain q (bucket_of q.bits key))
    (hashed.seated (bucket_of q.bits key)))

-- tells what each line is once one chain has changed
lines_by : (q q' : Chained) (b : ℕ) (ys : List Waiter) (now : ℕ → List Waiter) → IsHashed q → IsHashed q'
    → q'.bits ≡ q.bits → b < length q.chains → q'.chains ≡ slice_set q.chains b ys
    → ((k : ℕ) → bucket_of q.bits k ≡ b → line k ys ≡ now k) → ((k : ℕ) → bucket_of q.bits k ≢ b
    → line k (joined q.chains) ≡ now k) → (k : ℕ) → line k (joined q'.chains) ≡ now k
lines_by q q' b ys now hashed hashed' bits fits is here there k =
    let c : ℕ = bucket_of q.bits k in
    let start : line k (joined q'.chains) ≡ line k (slice_index_or (slice_set q.chains b ys) c []) =
    line_at q' k hashed' ∙ rw (bits, is) refl in
    elim (cases_eq c b) [
      | inl same ↦ start ∙ ap (λ (u : ℕ). line k (slice_index_or (slice_set q.chains b ys) u [])) same
          ∙ ap (line k) (get_or-set_same q.chains b ys [] fits) ∙ here k same
      | inr differ ↦ start ∙ ap (line k) (get_or-set_other q.chains b c ys [] differ)
          ∙ sym (line_at q k hashed) ∙ there k differ
    ]

-- ---------------------------------------------------------------- lines of changed lists

pub line_without : (key thread : ℕ) (xs : List Waiter) → line key (without thread xs) ≡ without thread
    (line key xs)
line_without key thread [] = refl
line_without key thread (x ∷ xs) = grind (arith, nat_tests, line_without key thread xs)

pub without_none : (thread : ℕ) (xs : List Waiter) → times thread xs ≡ 0 → without thread xs ≡ xs
without_none thread [] none = refl
without_none thread (x ∷ xs) none = grind (arith, nat_tests, without_none thread xs)

pub line_first_other : (k key : ℕ) (xs : List Waiter) → k ≢ key → line k (without_first key xs) ≡ line k xs
line_first_other k key [] differ = refl
line_first_other k key (x ∷ xs) differ = grind (arith, nat_tests, line_first_other k key xs differ)

pub line_picked : {P : Type 0} (answer : P → Want → Pick) (next : P → Want → P) (picker : P) (key : ℕ)
    (xs : List Waiter) → line key (without_picked answer next picker key xs) ≡ without_picked answer next
    picker key (line key xs)
line_picked answer next picker key [] = refl
line_picked answer next picker key (x ∷ xs) = grind (
  arith,
  nat_tests,
  line_picked answer next picker key xs,
  line_picked answer next (next picker x.want) key xs,
)

pub line_picked_other : {P : Type 0} (answer : P → Want → Pick) (next : P → Want → P) (picker : P) (k key : ℕ)
    (xs : List Waiter) → k ≢ key → line k (without_picked answer next picker key xs) ≡ line k xs
line_picked_other answer next picker k key [] differ = refl
line_picked_other answer next picker k key (x ∷ xs) differ =
    grind (
      arith,
      nat_tests,
      line_picked_other answer next picker k key xs differ,
      line_picked_other answer next (next picker x.want) k key xs differ,
    )

-- ---------------------------------------------------------------- the lines of the buckets

nowhere_else : (q : Chained) (b c thread : ℕ) → IsHashed q → 1 ≤ times thread (chain q b) → c ≢ b
    → times thread (chain q c) ≡ 0
nowhere_else q b c thread hashed stands differ = elim (cases_lt 0 (times thread (chain q c))) [
  | inl there ↦ absurd (differ (hashed.apart c b thread there stands))
  | inr none ↦ omega arith
]

-- a thread has left
pub lines_left : (q q' : Chained) (b thread : ℕ) → IsHashed q → IsHashed q' → q'.bits ≡ q.bits
    → b < length q.chains → q'.chains ≡ slice_set q.chains b (without thread (chain q b)) → 1
    ≤ times thread (chain q b) → lines (joined q'.chains) ≡ lines (without thread (joined q.chains))
lines_left q q' b thread hashed hashed' bits fits is stands =
    everywhere _ _ (lines_by q q' b (without thread (chain q b)) (lines (without thread (joined q.chains)))
    hashed hashed' bits fits is
    (λ k same. line_without k thread (chain q b) ∙ sym (line_without k thread (joined q.chains)
    ∙ ap (without thread) (line_at q k hashed ∙ ap (λ (u : ℕ). line k (chain q u)) same)))
    (λ k differ. line_at q k hashed ∙ sym (line_without k thread (joined q.chains)
    ∙ ap (without thread) (line_at q k hashed)
    ∙ sym (line_without k thread (chain q (bucket_of q.bits k)))
    ∙ ap (line k) (without_none thread (chain q (bucket_of q.bits k))
    (nowhere_else q b (bucket_of q.bits k) thread hashed stands differ)))))

pub one_line : (k key thread : ℕ) (wanted : Want) → k ≢ key → line k (waiter key thread wanted ∷ []) ≡ []
one_line k key thread wanted differ = grind (arith, nat_tests)

-- a thread has come
pub lines_come : (q q' : Chained) (key thread : ℕ) (wanted : Want) → IsHashed q → IsHashed q'
    → q'.bits ≡ q.bits → bucket_of q.bits key < length q.chains → q'.chains ≡ slice_set q.chains
    (bucket_of q.bits key) (chain q (bucket_of q.bits key) ++ waiter key thread wanted ∷ [])
    → lines (joined q'.chains) ≡ lines (joined q.chains ++ waiter key thread wanted ∷ [])
lines_come q q' key thread wanted hashed hashed' bits fits is =
    let b : ℕ = bucket_of q.bits key in
    let new : List Waiter = waiter key thread wanted ∷ [] in
    everywhere _ _ (lines_by q q' b (chain q b ++ new) (lines (joined q.chains ++ new)) hashed hashed' bits
    fits is
    (λ k same. filter-append _ (chain q b) new ∙ sym (filter-append _ (joined q.chains) new
    ∙ ap (λ (l : List Waiter). l ++ line k new) (line_at q k hashed ∙ ap (λ (u : ℕ). line k (chain q u))
    same)))
    (λ k differ. sym (filter-append _ (joined q.chains) new
    ∙ ap (λ (l : List Waiter). line k (joined q.chains) ++ l) (one_line k key thread wanted
    (λ (e : k ≡ key). differ (ap (bucket_of q.bits) e))) ∙ append-nil (line k (joined q.chains)))))

-- the waiters that a picker picks have left
pub lines_picked : {P : Type 0} (answer : P → Want → Pick) (next : P → Want → P) (picker : P) (q q' : Chained)
    (key : ℕ) → IsHashed q → IsHashed q' → q'.bits ≡ q.bits → bucket_of q.bits key < length q.chains
    → q'.chains ≡ slice_set q.chains (bucket_of q.bits key) (without_picked answer next picker key
    (chain q (bucket_of q.bits key))) → lines (joined q'.chains)
    ≡ lines (without_picked answer next picker key (joined q.chains))
lines_picked answer next picker q q' key hashed hashed' bits fits is =
    let b : ℕ = bucket_of q.bits key in
    everywhere _ _ (lines_by q q' b (without_picked answer next picker key (chain q b))
    (lines (without_picked answer next picker key (joined q.chains))) hashed hashed' bits fits is
    (λ k same. elim (cases_eq k key) [
      | inl is_key ↦ rw is_key (line_picked answer next picker key (chain q b)
          ∙ sym (line_picked answer next picker key (joined q.chains)
          ∙ ap (without_picked answer next picker key) (line_at q key hashed)))
      | inr other ↦ line_picked_other answer next picker k key (chain q b) other
          ∙ sym (line_picked_other answer next picker k key (joined q.chains) other ∙ line_at q k hashed
          ∙ ap (λ (u : ℕ). line k (chain q u)) same)
    ])
    (λ k differ. sym (line_picked_other answer next picker k key (joined q.chains)
    (λ (e : k ≡ key). differ (ap (bucket_of q.bits) e)))))

-- the first under a key has left
pub lines_first : (q q' : Chained) (key : ℕ) → IsHashed q → IsHashed q' → q'.bits ≡ q.bits
    → bucket_of q.bits key < length q.chains → q'.chains ≡ slice_set q.chains (bucket_of q.bits key)
    (without_first key (chain q (bucket_of q.bits key))) → lines (joined q'.chains)
    ≡ lines (without_first key (joined q.chains))
lines_first q q' key hashed hashed' bits fits is =
    let b : ℕ = bucket_of q.bits key in
    everywhere _ _ (lines_by q q' b (without_first key (chain q b))
    (lines (without_first key (joined q.chains))) hashed hashed' bits fits is
    (λ k same. elim (cases_eq k key) [
      | inl is_key ↦ rw is_key (line_without_first key (chain q b)
          ∙ sym (line_without_first key (joined q.chains) ∙ ap (drop 1) (line_at q key hashed)))
      | inr other ↦ line_first_other k key (chain q b) other
          ∙ sym (line_first_other k key (joined q.chains) other ∙ line_at q k hashed
          ∙ ap (λ (u : ℕ). line k (chain q u)) same)
    ])
    (λ k differ. sym (line_first_other k key (joined q.chains)
    (λ (e : k ≡ key). differ (ap (bucket_of q.bits) e)))))

-- a thread that is first under a key is the one without which its line loses the first
pub first_leaves : (key thread : ℕ) (xs : List Waiter) → ((t : ℕ) → times t xs ≤ 1) → first_of (line key xs)
    ≡ Some thread → without thread xs ≡ without_first key xs
first_leaves key thread [] once first = absurd cc
first_leaves key thread (x ∷ xs) once first = elim (cases_eq x.key key) [
  | inl same ↦
      let first_is : first_of (line key (x ∷ xs)) ≡ Some x.thread = grind (arith, nat_tests) in
      let e : Some x.thread ≡ Some thread = sym first_is ∙ first in
      let gone : x.thread ≡ thread = cc in
      let none : times thread xs ≡ 0 = head_once x xs thread gone (once thread) in
      let rest : without thread (x ∷ xs) ≡ without thread xs = grind (arith, nat_tests) in
      let short : without_first key (x ∷ xs) ≡ xs = grind (arith, nat_tests) in
      rest ∙ without_none thread xs none ∙ sym short
  | inr differ ↦
      let later : line key (x ∷ xs) ≡ line key xs = grind (arith, nat_tests) in
      let first_is : first_of (line key xs) ≡ Some thread = sym (ap first_of later) ∙ first in
      let there : 1 ≤ times thread xs = times_of_first key thread xs first_is in
      let apart : x.thread ≢ thread = not_head x xs thread there (once thread) in
      let rest : without thread (x ∷ xs) ≡ x ∷ without thread xs = grind (arith, nat_tests) in
      let long : without_first key (x ∷ xs) ≡ x ∷ without_first key xs = grind (arith, nat_tests) in
      rest ∙ ap (λ (l : List Waiter). x ∷ l) (first_leaves key thread xs (λ t. omega (arith, once t))
      first_is) ∙ sym long
] where
  head_once : (x : Waiter) (xs : List Waiter) (thread : ℕ) → x.thread ≡ thread → times thread (x ∷ xs) ≤ 1
      → times thread xs ≡ 0
  head_once x xs thread same once = grind (arith, nat_tests)

  not_head : (x : Waiter) (xs : List Waiter) (thread : ℕ) → 1 ≤ times thread xs → times thread (x ∷ xs) ≤ 1
      → x.thread ≢ thread
  not_head x xs thread there once = λ (k : x.thread ≡ thread). grind (arith, nat_tests)

  times_of_first : (key thread : ℕ) (xs : List Waiter) → first_of (line key xs) ≡ Some thread
      → 1 ≤ times thread xs
  times_of_first key thread [] first = absurd cc
  times_of_first key thread (x ∷ xs) first = grind (arith, nat_tests, times_of_first key thread xs)
