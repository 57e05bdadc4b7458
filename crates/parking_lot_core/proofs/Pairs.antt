-- The buckets of a section after each call.
use Rattle.std.proofs.Common.{ℕ, ◌≡◌, ◌≢◌, inl, inr, List, [], ◌++◌, Some, sym, ap, subst, ◌∙◌}
use Rattle.std.proofs.lemmas.Bool.{cases_eq}
use Rattle.core_base.specs.declared.keys.Keys.{Keys}
use Rattle.core_base.specs.declared.wants.Waiter.{Waiter}
use Rattle.core_base.specs.Lines.{line, lines}
use Rattle.core_queues.specs.Chains.{bucket_of}
use Rattle.core_queues.proofs.Joined.{everywhere}
use Rattle.core_queues.specs.Places.{AreTwo, IsSameBucket, KeepApart}
use Rattle.core_queues.specs.declared.section_queues.SectionQueues.{SectionQueues}
use Rattle.core_queues.proofs.Halves.{first_of_both, line_both}
use Rattle.parking_lot_core.specs.Keys.{IsKeyOf}
use Rattle.parking_lot_core.specs.Pairs.{AreApartAt, AreBuckets, HasOneBucket}

pub for_some : {A : Type 0} (P : A → Type 0) (a : A) → P a → (x : A) → Some a ≡ Some x → P x
for_some P a h x e = let same : a ≡ x = cc in subst P same h

pub alone_still : (keys : Keys) (one one' : SectionQueues) → IsSameBucket one one' → HasOneBucket keys one
    → HasOneBucket keys one'
alone_still keys one one' same alone key is = rw (same.1, same.2) (alone key is)

pub two_still : (keys : Keys) (one other one' other' : SectionQueues) → IsSameBucket one one'
    → IsSameBucket other other' → AreBuckets keys one other → AreBuckets keys one' other'
two_still keys one other one' other' a b are = (
  (
    b.0 ∙ are.0.0 ∙ sym a.0,
    b.2 ∙ are.0.1 ∙ sym a.2,
    λ (e : other'.number ≡ one'.number). are.0.2 (sym b.1 ∙ e
        ∙ a.1),
  ),
  record {
    each = λ key is. rw (a.1, a.2, b.1) (are.1.each key is);
    differ = λ from to one other differ. rw a.2 (are.1.differ from to one other differ);
  },
)

pub apart_still : (keys : Keys) (one other one' other' : SectionQueues) → KeepApart one other one' other'
    → AreApartAt keys one other → AreApartAt keys one' other'
apart_still keys one other one' other' keep apart key is =
    ((keep key).0 (apart key is).0, (keep key).1 (apart key is).1)

pub apart_same : (keys : Keys) (one one' other : SectionQueues) → one'.queues ≡ one.queues
    → AreApartAt keys one other → AreApartAt keys one' other
apart_same keys one one' other same apart key is = rw same (apart key is)

-- ---------------------------------------------------------------- in the other order

pub two_turned : (keys : Keys) (one other : SectionQueues) → AreBuckets keys one other
    → AreBuckets keys other one
two_turned keys one other are = (
  (sym are.0.0, sym are.0.1, λ (e : one.number ≡ other.number). are.0.2 (sym e)),
  record {
    each = λ key is differ. elim (cases_eq (bucket_of one.bits key) one.number) [
      | inl here ↦ ap (λ (b : ℕ). bucket_of b key) are.0.1 ∙ here
      | inr there ↦ absurd (differ (ap (λ (b : ℕ). bucket_of b key) are.0.1 ∙ are.1.each key is there))
    ];
    differ = λ from to one other differ. rw are.0.1 (are.1.differ from to one other differ);
  },
)

pub apart_turned : (keys : Keys) (one other : SectionQueues) → AreApartAt keys one other
    → AreApartAt keys other one
apart_turned keys one other apart key is = ((apart key is).1, (apart key is).0)

-- a key of one of two buckets has nobody in the other
none_in : (one other : SectionQueues) (key : ℕ) → AreTwo one other → bucket_of one.bits key ≡ one.number
    → line key other.queues.waiters ≡ []
none_in one other key two here = other.of_bucket.hashed key (λ (e : bucket_of other.bits key ≡ other.number).
    two.2 (sym e ∙ ap (λ (b : ℕ). bucket_of b key) two.1 ∙ here))

pub none_turned : (one other : SectionQueues) (key : ℕ) → AreTwo one other → bucket_of other.bits key
    ≡ other.number → line key one.queues.waiters ≡ []
none_turned one other key two here = none_in other one key (
  sym two.0,
  sym two.1,
  λ (e : one.number ≡ other.number). two.2 (sym e),
) here

pub lines_turned : (one other : SectionQueues) → AreTwo one other
    → lines (other.queues.waiters ++ one.queues.waiters) ≡ lines (one.queues.waiters ++ other.queues.waiters)
lines_turned one other two = let xs = one.queues.waiters in let ys = other.queues.waiters
    in everywhere _ _ (λ k. elim (cases_eq (bucket_of one.bits k) one.number) [
      | inl here ↦ let none : line k ys ≡ [] = none_in one other k two here in line_both k ys xs
          ∙ ap (λ (l : List Waiter). l ++ line k xs) none ∙ sym (first_of_both k xs ys none)
      | inr there ↦ let none : line k xs ≡ [] = one.of_bucket.hashed k there in first_of_both k ys xs none
          ∙ sym (line_both k xs ys ∙ ap (λ (l : List Waiter). l ++ line k ys) none)
    ])

-- a key that the second does not have is one of the first
pub here_else : (keys : Keys) (one other : SectionQueues) (key : ℕ) → AreBuckets keys one other
    → IsKeyOf keys key
    → bucket_of other.bits key ≢ other.number → bucket_of one.bits key ≡ one.number
here_else keys one other key are is differ = elim (cases_eq (bucket_of one.bits key) one.number) [
  | inl here ↦ here
  | inr there ↦ absurd (differ (ap (λ (b : ℕ). bucket_of b key) are.0.1 ∙ are.1.each key is there))
]

-- where one key of a section has the first bucket, another has the second
pub there_then : (keys : Keys) (one other : SectionQueues) (from to : ℕ) → AreBuckets keys one other
    → IsKeyOf keys from → IsKeyOf keys to → from ≢ to → bucket_of one.bits from ≡ one.number
    → bucket_of other.bits to ≡ other.number
there_then keys one other from to are a b differ here = ap (λ (n : ℕ). bucket_of n to) are.0.1
    ∙ are.1.each to b (λ (e : bucket_of one.bits to ≡ one.number). are.1.differ from to a b differ (here
    ∙ sym e))
