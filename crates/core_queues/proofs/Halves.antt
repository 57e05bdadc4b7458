-- Two lists, each with the keys of a bucket of its own.
use Rattle.std.proofs.Common.{Bool, ℕ, ◌≡◌, ◌≢◌, ◌+◌, ◌≤◌, ◌⊎◌, inl, inr, List, [], ◌∷◌, ◌++◌, Option, Some}
use Rattle.std.proofs.Common.{None, length, drop, take, map, refl, sym, ap, subst, ◌∙◌, arith, append_assoc}
use Rattle.std.proofs.lemmas.Bool.{cases_eq}
use Rattle.std.proofs.lemmas.Bool.Decides.{nat_tests}
use Rattle.std.proofs.lemmas.List.{append-nil}
use Rattle.std.proofs.lemmas.List.Elements.{filter-append}
use Rattle.core_base.specs.declared.requeues.Requeue.{Requeue}
use Rattle.core_base.specs.declared.requeues.Requeue.TheVariants.{One, All, TakeOneMoveRest}
use Rattle.core_base.specs.declared.wants.Waiter.{Waiter}
use Rattle.core_base.specs.declared.wants.Want.{Want}
use Rattle.core_base.specs.declared.wants.Want.TheVariants.{Exclusive}
use Rattle.core_base.specs.Lines.{waiter, times, line, lines, without, without_first, without_key, first_of}
use Rattle.core_base.specs.Lines.{queued_under}
use Rattle.core_base.specs.Picks.{without_lock_picked, lock_answer, next_picker, lock_picker}
use Rattle.core_base.specs.Requeues.{moved_by, moved_to, requeued}
use Rattle.core_base.proofs.Counts.{times_gone}
use Rattle.core_base.proofs.Moves.{line_without_first, take_then_all}
use Rattle.core_base.proofs.Seats.{line_seated}
use Rattle.core_queues.specs.Chains.{bucket_of}
use Rattle.core_queues.proofs.Joined.{everywhere, line_without, line_first_other, line_picked}
use Rattle.core_queues.proofs.Joined.{line_picked_other, one_line, without_none}
use Rattle.core_queues.proofs.Places.{same_line, lines_both, line_key_same, line_key_other, all_moved}
use Rattle.core_queues.proofs.Places.{first_moved}
use Rattle.core_queues.proofs.Requeued.{rest_moved}
use Rattle.core_queues.specs.Buckets.{AreApart, HasNone, IsOfBucket, both}
use Rattle.core_queues.proofs.InBuckets.{same_times}

pub line_both : (k : ℕ) (xs ys : List Waiter) → line k (xs ++ ys) ≡ line k xs ++ line k ys
line_both k xs ys = filter-append _ xs ys

pub lines_join : (xs ys zs ws : List Waiter) → lines xs ≡ lines zs → lines ys ≡ lines ws → lines (xs ++ ys)
    ≡ lines (zs ++ ws)
lines_join xs ys zs ws a b = everywhere _ _ (λ k. line_both k xs ys ∙ ap (λ (l : List Waiter). l ++ line k ys)
    (same_line xs zs k a) ∙ ap (λ (l : List Waiter). line k zs ++ l) (same_line ys ws k b)
    ∙ sym (line_both k zs ws))

-- ---------------------------------------------------------------- a key of the first list

pub first_of_both : (key : ℕ) (xs ys : List Waiter) → line key ys ≡ [] → line key (xs ++ ys) ≡ line key xs
first_of_both key xs ys none = line_both key xs ys ∙ rw none (append-nil (line key xs))

line_here : (key : ℕ) (xs : List Waiter) (others : Option (List Waiter)) → HasNone key others
    → line key (both xs others) ≡ line key xs
line_here key xs None none = refl
line_here key xs (Some ys) none = first_of_both key xs ys none

line_there : (k : ℕ) (xs xs' : List Waiter) (others : Option (List Waiter)) → line k xs' ≡ line k xs
    → line k (both xs' others) ≡ line k (both xs others)
line_there k xs xs' None same = same
line_there k xs xs' (Some ys) same = line_both k xs' ys ∙ ap (λ (l : List Waiter). l ++ line k ys) same
    ∙ sym (line_both k xs ys)

-- the line of a key stands in its bucket
pub line_old : (key : ℕ) (xs old : List Waiter) (others : Option (List Waiter)) → HasNone key others
    → lines (both xs others) ≡ lines old → line key xs ≡ line key old
line_old key xs old others none same = sym (line_here key xs others none) ∙ same_line (both xs others) old key
    same

-- a change under a key of the first list alone is one under that key of both
one_side : (key : ℕ) (f g : List Waiter → List Waiter) → ((l : List Waiter) → line key (f l) ≡ g (line key l))
    → ((k : ℕ) (l : List Waiter) → k ≢ key → line k (f l) ≡ line k l) → (xs xs' old : List Waiter)
    (others : Option (List Waiter)) → HasNone key others → lines (both xs others) ≡ lines old
    → lines xs' ≡ lines (f xs) → lines (both xs' others) ≡ lines (f old)
one_side key f g here there xs xs' old others none same is = everywhere _ _ (λ k. elim (cases_eq k key) [
  | inl e ↦ rw e (line_here key xs' others none ∙ same_line xs' (f xs) key is ∙ here xs
      ∙ ap g (line_old key xs old others none same) ∙ sym (here old))
  | inr differ ↦ line_there k xs xs' others (same_line xs' (f xs) k is ∙ there k xs differ)
      ∙ same_line (both xs others) old k same ∙ sym (there k old differ)
])

pub side_first : (key : ℕ) (xs xs' old : List Waiter) (others : Option (List Waiter)) → HasNone key others
    → lines (both xs others) ≡ lines old → lines xs' ≡ lines (without_first key xs) → lines (both xs' others)
    ≡ lines (without_first key old)
side_first key = one_side key (without_first key) (drop 1) (line_without_first key)
    (λ k l differ. line_first_other k key l differ)

pub side_key : (key : ℕ) (xs xs' old : List Waiter) (others : Option (List Waiter)) → HasNone key others
    → lines (both xs others) ≡ lines old → lines xs' ≡ lines (without_key key xs) → lines (both xs' others)
    ≡ lines (without_key key old)
side_key key = one_side key (without_key key) (λ _. []) (line_key_same key)
    (λ k l differ. line_key_other k key l differ)

pub side_picked : (start : Option Want) (recursive : Bool) (key : ℕ) (xs xs' old : List Waiter)
    (others : Option (List Waiter)) → HasNone key others → lines (both xs others) ≡ lines old
    → lines xs' ≡ lines (without_lock_picked start recursive key xs) → lines (both xs' others)
    ≡ lines (without_lock_picked start recursive key old)
side_picked start recursive key = one_side key (without_lock_picked start recursive key)
    (without_lock_picked start recursive key) (λ l. line_picked lock_answer next_picker
    (lock_picker start recursive) key l) (λ k l differ. line_picked_other lock_answer next_picker
    (lock_picker start recursive) k key l differ)

-- ---------------------------------------------------------------- waiters in one of them alone

times_line : (thread key : ℕ) (xs : List Waiter) → times thread (line key xs) ≤ times thread xs
times_line thread key [] = omega arith
times_line thread key (x ∷ xs) = grind (arith, nat_tests, times_line thread key xs)

times_line_as : (thread key : ℕ) (xs ys : List Waiter) → lines xs ≡ lines ys → times thread (line key xs)
    ≡ times thread (line key ys)
times_line_as thread key xs ys same = ap (times thread) (same_line xs ys key same)

times_without : (other thread : ℕ) (xs : List Waiter) → times other (without thread xs) ≤ times other xs
times_without other thread [] = omega arith
times_without other thread (x ∷ xs) = grind (arith, nat_tests, times_without other thread xs)

times_both : (thread : ℕ) (xs ys : List Waiter) → times thread (xs ++ ys) ≡ times thread xs + times thread ys
times_both thread [] ys = omega arith
times_both thread (x ∷ xs) ys = omega (arith, times_both thread xs ys)

not_of : (other key thread : ℕ) (wanted : Want) → other ≢ thread → times other (waiter key thread wanted ∷ [])
    ≡ 0
not_of other key thread wanted differ = let apart : thread ≢ other = λ (e : thread ≡ other). differ (sym e)
    in grind (arith, nat_tests)

-- no thread but one stands more often
pub record NoMore (thread : ℕ) (old new : List Waiter) : Type 0 where
  pub in_line : (other key : ℕ) → other ≢ thread → times other (line key new) ≤ times other (line key old)
  pub in_all : (other : ℕ) → other ≢ thread → times other new ≤ times other old

pub removed : (thread : ℕ) (old new : List Waiter) → lines new ≡ lines (without thread old)
    → NoMore thread old new
removed thread old new is = record {
  in_line = λ other key differ. omega (
    arith,
    times_line_as other key new (without thread old) is,
    ap (times other) (line_without key thread old),
    times_without other thread (line key old),
  );
  in_all = λ other differ. omega (
    arith,
    same_times other new (without thread old) is,
    times_without other thread old,
  );
}

pub gone : (thread : ℕ) (old new : List Waiter) → lines new ≡ lines (without thread old) → times thread new
    ≡ 0
gone thread old new is = same_times thread new (without thread old) is ∙ times_gone thread old

pub appended : (key thread : ℕ) (wanted : Want) (old new : List Waiter) → lines new
    ≡ lines (without thread old ++ waiter key thread wanted ∷ []) → NoMore thread old new
appended key thread wanted old new is =
    let one : List Waiter = waiter key thread wanted ∷ [] in
    record {
      in_line = λ other k differ. omega (
        arith,
        times_line_as other k new (without thread old ++ one) is,
        ap (times other) (line_both k (without thread old) one),
        times_both other (line k (without thread old)) (line k one),
        times_line other k one,
        not_of other key thread wanted differ,
        ap (times other) (line_without k thread old),
        times_without other thread (line k old),
      );
      in_all = λ other differ. omega (
        arith,
        same_times other new (without thread old ++ one) is,
        times_both other (without thread old) one,
        not_of other key thread wanted differ,
        times_without other thread old,
      );
    }

pub apart_still : (thread key : ℕ) (xs ys xs' ys' : List Waiter) → NoMore thread xs xs' → NoMore thread ys ys'
    → (times thread xs' ≡ 0) ⊎ (times thread ys' ≡ 0) → AreApart key xs ys → AreApart key xs' ys'
apart_still thread key xs ys xs' ys' one other nowhere apart t stands = elim (cases_eq t thread) [
  | inl same ↦ elim nowhere [
    | inl left ↦ let none : times t xs' ≡ 0 = ap (λ (u : ℕ). times u xs') same ∙ left
        in absurd (omega (arith, times_line t key xs', none, stands))
    | inr left ↦ ap (λ (u : ℕ). times u ys') same ∙ left
  ]
  | inr differ ↦ let none : times t ys ≡ 0 = apart t (omega (arith, one.in_line t key differ, stands))
      in omega (arith, other.in_all t differ, none)
]

-- ------------------------------------------------------------- a thread comes to one of them, or leaves both

pub left_both : (thread : ℕ) (xs ys xs' ys' : List Waiter) → lines xs' ≡ lines (without thread xs)
    → lines ys' ≡ lines (without thread ys) → lines (xs' ++ ys') ≡ lines (without thread (xs ++ ys))
left_both thread xs ys xs' ys' one other = lines_join xs' ys' (without thread xs) (without thread ys) one
    other ∙ ap lines (sym (filter-append _ xs ys))

pub came_other : (key thread : ℕ) (wanted : Want) (xs ys xs' ys' : List Waiter)
    → lines xs' ≡ lines (without thread xs) → lines ys' ≡ lines (without thread ys ++ waiter key thread wanted
    ∷ []) → lines (xs' ++ ys') ≡ lines (without thread (xs ++ ys) ++ waiter key thread wanted ∷ [])
came_other key thread wanted xs ys xs' ys' one other =
    let new : List Waiter = waiter key thread wanted ∷ [] in
    lines_join xs' ys' (without thread xs) (without thread ys ++ new) one other
    ∙ ap lines (sym (append_assoc (without thread xs) (without thread ys) new))
    ∙ ap (λ (l : List Waiter). lines (l ++ new)) (sym (filter-append _ xs ys))

pub came_first : (key thread : ℕ) (wanted : Want) (xs ys xs' ys' : List Waiter) → line key ys ≡ []
    → lines xs' ≡ lines (without thread xs ++ waiter key thread wanted ∷ [])
    → lines ys' ≡ lines (without thread ys) → lines (xs' ++ ys') ≡ lines (without thread (xs ++ ys)
    ++ waiter key thread wanted ∷ [])
came_first key thread wanted xs ys xs' ys' none one other =
    let new : List Waiter = waiter key thread wanted ∷ [] in
    lines_join xs' ys' (without thread xs ++ new) (without thread ys) one other
    ∙ everywhere _ _ (λ k. elim (cases_eq k key) [
      | inl same ↦ rw same (
          let left : line key (without thread ys) ≡ [] = line_without key thread ys ∙ ap (without thread) none
          in
          first_of_both key (without thread xs ++ new) (without thread ys) left
          ∙ line_both key (without thread xs) new
          ∙ ap (λ (l : List Waiter). l ++ line key new) (sym (ap (line key) (filter-append _ xs ys)
          ∙ first_of_both key (without thread xs) (without thread ys) left))
          ∙ sym (line_both key (without thread (xs ++ ys)) new)
          )
      | inr differ ↦
          let no : line k new ≡ [] = one_line k key thread wanted differ in
          line_both k (without thread xs ++ new) (without thread ys)
          ∙ ap (λ (l : List Waiter). l ++ line k (without thread ys)) (first_of_both k (without thread xs)
          new no)
          ∙ sym (line_both k (without thread xs) (without thread ys))
          ∙ ap (line k) (sym (filter-append _ xs ys))
          ∙ sym (first_of_both k (without thread (xs ++ ys)) new no)
    ])

-- the key of a thread in one list, or else in the other
pub key_first : (thread key : ℕ) (xs ys : List Waiter) → Some key ≡ queued_under thread xs → Some key
    ≡ queued_under thread (xs ++ ys)
key_first thread key [] ys is = absurd cc
key_first thread key (x ∷ xs) ys is = grind (arith, nat_tests, key_first thread key xs ys)

pub key_other : (thread : ℕ) (xs ys : List Waiter) → None ≡ queued_under thread xs → queued_under thread ys
    ≡ queued_under thread (xs ++ ys)
key_other thread [] ys none = refl
key_other thread (x ∷ xs) ys none = grind (arith, nat_tests, key_other thread xs ys)

-- ---------------------------------------------------------------- a requeue from one to the other

times_first : (thread : ℕ) (l : List Waiter) → first_of l ≡ Some thread → 1 ≤ times thread l
times_first thread [] first = absurd cc
times_first thread (x ∷ xs) first = let e : Some x.thread ≡ Some thread = first in let same : x.thread
    ≡ thread = cc in grind (arith, nat_tests)

-- the first of one list was moved into the other
pub moved_over : (from to thread : ℕ) (xs ys xs' ys' : List Waiter) → line from ys ≡ [] → AreApart from xs ys
    → first_of (line from xs) ≡ Some thread → lines xs' ≡ lines (without_first from xs) → lines ys'
    ≡ lines (without thread ys ++ waiter to thread Exclusive ∷ []) → lines (xs' ++ ys') ≡ lines
    (requeued One from to (xs ++ ys))
moved_over from to thread xs ys xs' ys' none apart first taken come =
    let new : List Waiter = waiter to thread Exclusive ∷ [] in
    let there : lines ys' ≡ lines (ys ++ new) = come ∙ ap (λ (l : List Waiter). lines (l ++ new))
    (without_none thread ys (apart thread (times_first thread (line from xs) first))) in
    let joined : lines (xs' ++ ys') ≡ lines ((xs' ++ ys) ++ new) = lines_join xs' ys' xs' (ys ++ new) refl
    there ∙ ap lines (sym (append_assoc xs' ys new)) in
    let left : lines (xs' ++ ys) ≡ lines (without_first from (xs ++ ys)) =
    side_first from xs xs' (xs ++ ys) (Some ys) none refl taken in
    first_moved from to thread (xs ++ ys) (xs' ++ ys) (xs' ++ ys')
    (ap first_of (first_of_both from xs ys none) ∙ first) left joined

nobody_first : (l : List Waiter) → first_of l ≡ None → l ≡ []
nobody_first [] none = refl
nobody_first (x ∷ xs) none = absurd cc

pub one_over : (from thread : ℕ) (xs ys : List Waiter) → line from ys ≡ [] → first_of (line from xs)
    ≡ Some thread → 1 ≡ length (moved_by One (line from (xs ++ ys)))
one_over from thread xs ys none first = rw (first_of_both from xs ys none) (go (line from xs) first) where
  go : (l : List Waiter) → first_of l ≡ Some thread → 1 ≡ length (take 1 l)
  go [] e = absurd cc
  go (x ∷ l) e = refl

pub none_over : (from to : ℕ) (xs ys xs' : List Waiter) → line from ys ≡ [] → None ≡ first_of (line from xs)
    → lines xs' ≡ lines (without_first from xs) → (0 ≡ length (moved_by One (line from (xs ++ ys))))
    × (lines (xs' ++ ys) ≡ lines (requeued One from to (xs ++ ys)))
none_over from to xs ys xs' none first taken =
    let empty : line from (xs ++ ys) ≡ [] = first_of_both from xs ys none ∙ nobody_first (line from xs)
    (sym first) in (
      rw empty refl,
      side_first from xs xs' (xs ++ ys) (Some ys) none refl taken
          ∙ ap lines (rw empty (sym (append-nil (without_first from (xs ++ ys))))),
    )

-- all of a line were moved into the other
pub all_over : (from to : ℕ) (xs ys : List Waiter) → line from ys ≡ []
    → lines (without_key from xs ++ (ys ++ moved_to to (line from xs))) ≡ lines
    (requeued All from to (xs ++ ys))
all_over from to xs ys none =
    let moved = moved_to to (line from xs) in
    ap lines (sym (append_assoc (without_key from xs) ys moved))
    ∙ lines_both (without_key from xs ++ ys) (without_key from (xs ++ ys)) moved
    (side_key from xs (without_key from xs) (xs ++ ys) (Some ys) none refl refl)
    ∙ ap (λ (l : List Waiter). lines (without_key from (xs ++ ys) ++ moved_to to l))
    (sym (first_of_both from xs ys none))

-- a key of one bucket has nobody in another
pub in_another : (bits bits' number seats from : ℕ) (ys : List Waiter) → IsOfBucket bits' number seats ys
    → (here : ℕ) → bucket_of bits from ≡ here → bits' ≡ bits → number ≢ here → line from ys ≡ []
in_another bits bits' number seats from ys other here is same differ =
    other.hashed from (λ (e : bucket_of bits' from ≡ number). differ (sym e
    ∙ ap (λ (b : ℕ). bucket_of b from) same ∙ is))

times_drop : (thread : ℕ) (l : List Waiter) → times thread (drop 1 l) ≤ times thread l
times_drop thread [] = omega arith
times_drop thread (x ∷ xs) = omega arith

gone_first : (thread : ℕ) (l : List Waiter) → first_of l ≡ Some thread → times thread l ≤ 1
    → times thread (drop 1 l) ≡ 0
gone_first thread [] first once = absurd cc
gone_first thread (x ∷ xs) first once = let e : Some x.thread ≡ Some thread = first in let same : x.thread
    ≡ thread = cc in grind (arith, nat_tests)

rest_of_line : (from : ℕ) (xs xs' : List Waiter) → lines xs' ≡ lines (without_first from xs)
    → line from xs' ≡ drop 1 (line from xs)
rest_of_line from xs xs' taken = same_line xs' (without_first from xs) from taken ∙ line_without_first from xs

-- the waiters that are left stay apart once the first was taken
pub apart_taken : (from : ℕ) (xs ys xs' : List Waiter) → lines xs' ≡ lines (without_first from xs)
    → AreApart from xs ys → AreApart from xs' ys
apart_taken from xs ys xs' taken apart t stands =
    apart t (omega (
      arith,
      ap (times t) (rest_of_line from xs xs' taken),
      times_drop t (line from xs),
      stands,
    ))

-- Each thread is in one half at most once it was moved.
pub apart_moved : (from to thread : ℕ) (xs ys xs' ys' : List Waiter) → ((t : ℕ) → times t xs ≤ 1)
    → first_of (line from xs) ≡ Some thread → lines xs' ≡ lines (without_first from xs) → lines ys'
    ≡ lines (without thread ys ++ waiter to thread Exclusive ∷ []) → AreApart from xs ys
    → AreApart from xs' ys'
apart_moved from to thread xs ys xs' ys' once first taken come apart t stands =
    let later : 1 ≤ times t (drop 1 (line from xs)) = subst (λ (l : List Waiter). 1 ≤ times t l)
    (rest_of_line from xs xs' taken) stands in
    let differ : t ≢ thread = λ (same : t ≡ thread).
    let none : times t (drop 1 (line from xs)) ≡ 0 = ap (λ (u : ℕ). times u (drop 1 (line from xs))) same
    ∙ gone_first thread (line from xs) first (omega (arith, times_line thread from xs, once thread)) in
    omega (arith, none, later) in
    let none : times t ys ≡ 0 = apart t (omega (arith, times_drop t (line from xs), later)) in
    omega (arith, (appended to thread Exclusive ys ys' come).in_all t differ, none)

-- ---------------------------------------------------------------- how many are moved

-- no line is longer than the bucket has seats
pub line_few : (bits number seats key : ℕ) (xs ys : List Waiter) → IsOfBucket bits number seats xs
    → line key ys ≡ [] → length (line key (xs ++ ys)) ≤ seats
line_few bits number seats key xs ys is none = omega (
  arith,
  ap length (first_of_both key xs ys none),
  line_seated key seats xs is.seated,
)

pub rest_both : (from : ℕ) (xs ys xs' : List Waiter) → line from ys ≡ [] → lines xs' ≡ lines
    (without_first from xs) → length (line from (xs' ++ ys)) ≡ length (drop 1 (line from (xs ++ ys)))
rest_both from xs ys xs' none taken = ap length (first_of_both from xs' ys none
    ∙ rest_of_line from xs xs' taken) ∙ ap (λ (l : List Waiter). length (drop 1 l))
    (sym (first_of_both from xs ys none))

pub rest_requeued : (from to : ℕ) (xs ys xs' new : List Waiter) → line from ys ≡ [] → lines xs'
    ≡ lines (without_first from xs) → lines new ≡ lines (requeued All from to (xs' ++ ys)) → lines new
    ≡ lines (requeued TakeOneMoveRest from to (xs ++ ys))
rest_requeued from to xs ys xs' new none taken moved = rest_moved from to (xs ++ ys) (xs' ++ ys) new
    (side_first from xs xs' (xs ++ ys) (Some ys) none refl taken) moved

-- ---------------------------------------------------------------- a requeue is told by the lines

first_lines : (key : ℕ) (xs ys : List Waiter) → lines xs ≡ lines ys → lines (without_first key xs)
    ≡ lines (without_first key ys)
first_lines key xs ys same = everywhere _ _ (λ k. elim (cases_eq k key) [
  | inl is ↦ rw is (line_without_first key xs ∙ ap (drop 1) (same_line xs ys key same)
      ∙ sym (line_without_first key ys))
  | inr differ ↦ line_first_other k key xs differ ∙ same_line xs ys k same
      ∙ sym (line_first_other k key ys differ)
])

pub requeued_lines : (op : Requeue) (from to : ℕ) (xs ys : List Waiter) → lines xs ≡ lines ys
    → lines (requeued op from to xs) ≡ lines (requeued op from to ys)
requeued_lines All from to xs ys same = all_moved from to xs ys same
requeued_lines One from to xs ys same =
    lines_both (without_first from xs) (without_first from ys)
    (map (λ (x : Waiter). waiter to x.thread Exclusive) (take 1 (line from xs)))
    (first_lines from xs ys same)
    ∙ ap (λ (l : List Waiter). lines (without_first from ys
    ++ map (λ (x : Waiter). waiter to x.thread Exclusive) (take 1 l))) (same_line xs ys from same)
requeued_lines TakeOneMoveRest from to xs ys same = rest_moved from to ys (without_first from xs)
    (requeued TakeOneMoveRest from to xs) (first_lines from xs ys same)
    (ap lines (sym (take_then_all from to xs)))
