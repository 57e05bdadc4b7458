-- The waiters of a bucket after each call.
use Rattle.std.proofs.Common.{ℕ, ◌≡◌, ◌≢◌, ◌+◌, ◌<◌, inl, inr, List, [], ◌∷◌, ◌++◌, drop, take, map, refl}
use Rattle.std.proofs.Common.{sym, ap, ◌∙◌, arith}
use Rattle.std.proofs.lemmas.Bool.{cases_eq}
use Rattle.std.proofs.lemmas.Bool.Decides.{nat_tests}
use Rattle.std.proofs.lemmas.List.Elements.{filter-append}
use Rattle.core_base.specs.declared.picks.Pick.{Pick}
use Rattle.core_base.specs.declared.requeues.Requeue.{Requeue}
use Rattle.core_base.specs.declared.requeues.Requeue.TheVariants.{One, All, TakeOneMoveRest}
use Rattle.core_base.specs.declared.wants.Waiter.{Waiter}
use Rattle.core_base.specs.declared.wants.Want.{Want}
use Rattle.core_base.specs.declared.wants.Want.TheVariants.{Exclusive}
use Rattle.core_base.specs.Lines.{IsSeated, waiter, times, line, lines, without, without_first, without_key}
use Rattle.core_base.specs.Picks.{without_picked}
use Rattle.core_base.specs.Requeues.{moved_by, moved_to, requeued}
use Rattle.core_base.proofs.Moves.{line_without_first}
use Rattle.core_base.proofs.Seats.{seated_append, seated_passed, seated_requeued, seated_without, seated_without_first}
use Rattle.core_base.proofs.Seats.{seated_without_key, seated_without_picked}
use Rattle.core_queues.specs.Chains.{bucket_of}
use Rattle.core_queues.proofs.Joined.{everywhere, line_without, line_first_other, line_picked}
use Rattle.core_queues.proofs.Joined.{line_picked_other, one_line}
use Rattle.core_queues.proofs.Places.{same_line, line_key_same, line_key_other}
use Rattle.core_queues.specs.Buckets.{AreApart, IsOfBucket}

-- ---------------------------------------------------------------- a list's waiters are those of its lines

head_line : (x : Waiter) (xs : List Waiter) → line x.key (x ∷ xs) ≡ x ∷ line x.key xs
head_line x xs = grind (arith, nat_tests)

other_line : (k : ℕ) (x : Waiter) (xs : List Waiter) → k ≢ x.key → line k (x ∷ xs) ≡ line k xs
other_line k x xs differ = let apart : x.key ≢ k = λ (e : x.key ≡ k). differ (sym e)
    in grind (arith, nat_tests)

times_by_first : (thread key : ℕ) (waiters : List Waiter) → times thread (without_first key waiters)
    + times thread (take 1 (line key waiters)) ≡ times thread waiters
times_by_first thread key [] = omega arith
times_by_first thread key (x ∷ xs) = grind (arith, nat_tests, times_by_first thread key xs)

pub same_times : (thread : ℕ) (xs ys : List Waiter) → lines xs ≡ lines ys → times thread xs ≡ times thread ys
same_times thread [] [] same = refl
same_times thread [] (y ∷ ys) same = let e : [] ≡ y ∷ line y.key ys = same_line [] (y ∷ ys) y.key same
    ∙ head_line y ys in absurd cc
same_times thread (x ∷ xs) ys same =
    let first : line x.key ys ≡ x ∷ line x.key xs = sym (same_line (x ∷ xs) ys x.key same) ∙ head_line x xs in
    let rest : lines xs ≡ lines (without_first x.key ys) = everywhere _ _ (λ k. elim (cases_eq k x.key) [
      | inl is ↦ rw is (sym (line_without_first x.key ys ∙ ap (drop 1) first))
      | inr differ ↦ sym (line_first_other k x.key ys differ ∙ sym (same_line (x ∷ xs) ys k same)
          ∙ other_line k x xs differ)
    ]) in
    let one : times thread (take 1 (line x.key ys)) ≡ times thread (x ∷ []) =
    ap (λ (l : List Waiter). times thread (take 1 l)) first in
    let here = same_times thread xs (without_first x.key ys) rest in
    let parts = times_by_first thread x.key ys in
    omega (arith, one, here, parts)

pub seated_as : (capacity : ℕ) (xs ys : List Waiter) → lines xs ≡ lines ys → IsSeated ys capacity
    → IsSeated xs capacity
seated_as capacity xs ys same seated = record {
  below = λ thread above. same_times thread xs ys same ∙ seated.below thread above;
  once = λ thread. omega (arith, same_times thread xs ys same, seated.once thread);
}

-- ---------------------------------------------------------------- a bucket after a call

bucket_after : (bits number seats : ℕ) (new after : List Waiter) → ((key : ℕ) → bucket_of bits key ≢ number
    → line key after ≡ []) → IsSeated after seats → lines new ≡ lines after → IsOfBucket bits number seats new
bucket_after bits number seats new after none seated same = record {
  hashed = λ key differ. same_line new after key same ∙ none key differ;
  seated = seated_as seats new after same seated;
}

none_without : (thread key : ℕ) (old : List Waiter) → line key old ≡ [] → line key (without thread old) ≡ []
none_without thread key old none = line_without key thread old ∙ ap (without thread) none

pub bucket_without : (bits number seats thread : ℕ) (old new : List Waiter) → IsOfBucket bits number seats old
    → lines new ≡ lines (without thread old) → IsOfBucket bits number seats new
bucket_without bits number seats thread old new is same =
    bucket_after bits number seats new (without thread old) (λ k differ. none_without thread k old
    (is.hashed k differ)) (seated_without thread seats old is.seated) same

pub bucket_append : (bits number seats key thread : ℕ) (wanted : Want) (old new : List Waiter)
    → IsOfBucket bits number seats old → bucket_of bits key ≡ number → thread < seats → lines new
    ≡ lines (without thread old ++ waiter key thread wanted ∷ []) → IsOfBucket bits number seats new
bucket_append bits number seats key thread wanted old new is here below same =
    bucket_after bits number seats new (without thread old ++ waiter key thread wanted ∷ [])
    (λ k differ. filter-append _ (without thread old) (waiter key thread wanted ∷ [])
    ∙ rw (
      none_without thread k old (is.hashed k differ),
      one_line k key thread wanted (λ (e : k ≡ key). differ (ap (bucket_of bits) e ∙ here)),
    ) refl)
    (seated_append key thread seats wanted old is.seated below) same

none_first : (key k : ℕ) (old : List Waiter) → line k old ≡ [] → line k (without_first key old) ≡ []
none_first key k old none = elim (cases_eq k key) [
  | inl same ↦ rw same (line_without_first key old ∙ ap (drop 1) (ap (λ (n : ℕ). line n old) (sym same)
      ∙ none))
  | inr other ↦ line_first_other k key old other ∙ none
]

pub bucket_first : (bits number seats key : ℕ) (old new : List Waiter) → IsOfBucket bits number seats old
    → lines new ≡ lines (without_first key old) → IsOfBucket bits number seats new
bucket_first bits number seats key old new is same =
    bucket_after bits number seats new (without_first key old) (λ k differ. none_first key k old
    (is.hashed k differ)) (seated_without_first key seats old is.seated) same

none_key : (key k : ℕ) (old : List Waiter) → line k old ≡ [] → line k (without_key key old) ≡ []
none_key key k old none = elim (cases_eq k key) [
  | inl same ↦ rw same (line_key_same key old)
  | inr other ↦ line_key_other k key old other ∙ none
]

pub bucket_key : (bits number seats key : ℕ) (old new : List Waiter) → IsOfBucket bits number seats old
    → lines new ≡ lines (without_key key old) → IsOfBucket bits number seats new
bucket_key bits number seats key old new is same =
    bucket_after bits number seats new (without_key key old) (λ k differ. none_key key k old
    (is.hashed k differ)) (seated_without_key key seats old is.seated) same

pub bucket_picked : {P : Type 0} (answer : P → Want → Pick) (next : P → Want → P) (picker : P)
    (bits number seats key : ℕ) (old new : List Waiter) → IsOfBucket bits number seats old → lines new
    ≡ lines (without_picked answer next picker key old) → IsOfBucket bits number seats new
bucket_picked answer next picker bits number seats key old new is same =
    bucket_after bits number seats new (without_picked answer next picker key old)
    (λ k differ. line_picked_to k (is.hashed k differ)) (seated_without_picked answer next picker key seats
    old is.seated) same
  where
    line_picked_to : (k : ℕ) → line k old ≡ [] → line k (without_picked answer next picker key old) ≡ []
    line_picked_to k none = elim (cases_eq k key) [
      | inl is_key ↦ rw is_key (line_picked answer next picker key old
          ∙ ap (without_picked answer next picker key) (ap (λ (n : ℕ). line n old) (sym is_key) ∙ none))
      | inr other ↦ line_picked_other answer next picker k key old other ∙ none
    ]

none_moved : (k to : ℕ) (l : List Waiter) → k ≢ to
    → line k (map (λ (x : Waiter). waiter to x.thread Exclusive) l) ≡ []
none_moved k to [] differ = refl
none_moved k to (x ∷ xs) differ = let apart : to ≢ k = λ (e : to ≡ k). differ (sym e)
    in grind (arith, nat_tests, none_moved k to xs differ)

none_requeued : (op : Requeue) (from to k : ℕ) (old : List Waiter) → k ≢ to → line k old ≡ []
    → line k (requeued op from to old) ≡ []
none_requeued One from to k old differ none = filter-append _ (without_first from old) _
    ∙ rw (none_first from k old none, none_moved k to (moved_by One (line from old)) differ) refl
none_requeued All from to k old differ none = filter-append _ (without_key from old) _
    ∙ rw (none_key from k old none, none_moved k to (moved_by All (line from old)) differ) refl
none_requeued TakeOneMoveRest from to k old differ none = filter-append _ (without_key from old) _
    ∙ rw (none_key from k old none, none_moved k to (moved_by TakeOneMoveRest (line from old)) differ) refl

pub bucket_requeued : (op : Requeue) (bits number seats from to : ℕ) (old new : List Waiter)
    → IsOfBucket bits number seats old → bucket_of bits to ≡ number → lines new
    ≡ lines (requeued op from to old) → IsOfBucket bits number seats new
bucket_requeued op bits number seats from to old new is here same =
    bucket_after bits number seats new (requeued op from to old) (λ k differ. none_requeued op from to k old
    (λ (e : k ≡ to). differ (ap (bucket_of bits) e ∙ here)) (is.hashed k differ))
    (seated_requeued op from to seats old is.seated) same

-- the waiters of a key of another bucket have come
pub bucket_passed : (bits number seats from to : ℕ) (xs ys : List Waiter) → IsOfBucket bits number seats ys
    → bucket_of bits to ≡ number → IsSeated xs seats → AreApart from xs ys
    → IsOfBucket bits number seats (ys ++ moved_to to (line from xs))
bucket_passed bits number seats from to xs ys is here seated apart = record {
  hashed = λ key differ. filter-append _ ys _
      ∙ rw (is.hashed key differ) (none_moved key to (line from xs)
      (λ (e : key ≡ to). differ (ap (bucket_of bits) e ∙ here)));
  seated = seated_passed from to seats xs ys seated is.seated apart;
}
