-- A requeue, one waiter after another.
use Rattle.std.proofs.Common.{ℕ, ◌≡◌, ◌≢◌, ◌+◌, ◌≤◌, Some, List, [], ◌∷◌, ◌++◌, length, take, drop, ◌∙◌}
use Rattle.std.proofs.Common.{append_assoc, refl, arith}
use Rattle.std.proofs.lemmas.Bool.Decides.{nat_tests}
use Rattle.std.proofs.lemmas.List.{append-nil}
use Rattle.std.proofs.lemmas.List.Elements.{filter-append}
use Rattle.core_base.specs.declared.requeues.Requeue.TheVariants.{One, All, TakeOneMoveRest}
use Rattle.core_base.specs.declared.wants.Waiter.{Waiter}
use Rattle.core_base.specs.Lines.{line, first_of, without_first, without_key}
use Rattle.core_base.specs.Requeues.{moved_by, moved_to, requeued}

-- once the first under a key has left
pub line_without_first : (key : ℕ) (waiters : List Waiter) → line key (without_first key waiters)
    ≡ drop 1 (line key waiters)
line_without_first key [] = refl
line_without_first key (x ∷ xs) = grind (arith, nat_tests, line_without_first key xs)

without_key_without_first : (key : ℕ) (waiters : List Waiter) → without_key key (without_first key waiters)
    ≡ without_key key waiters
without_key_without_first key [] = refl
without_key_without_first key (x ∷ xs) = grind (arith, nat_tests, without_key_without_first key xs)

pub length-without_first : (key thread : ℕ) (waiters : List Waiter) → first_of (line key waiters)
    ≡ Some thread → length (without_first key waiters) + 1 ≡ length waiters
length-without_first key thread [] first = absurd cc
length-without_first key thread (x ∷ xs) first = grind (arith, nat_tests, length-without_first key thread xs)

-- nobody stands under the key
without_first_of_none : (key : ℕ) (waiters : List Waiter) → line key waiters ≡ [] → without_first key waiters
    ≡ waiters
without_first_of_none key [] none = refl
without_first_of_none key (x ∷ xs) none = grind (arith, nat_tests, without_first_of_none key xs)

without_key_of_none : (key : ℕ) (waiters : List Waiter) → line key waiters ≡ [] → without_key key waiters
    ≡ waiters
without_key_of_none key [] none = refl
without_key_of_none key (x ∷ xs) none = grind (arith, nat_tests, without_key_of_none key xs)

pub length-line : (key : ℕ) (waiters : List Waiter) → length (line key waiters) ≤ length waiters
length-line key [] = omega arith
length-line key (x ∷ xs) = grind (arith, nat_tests, length-line key xs)

-- a thread that was moved stands under another key
without_key_moved : (from to : ℕ) (waiters : List Waiter) → from ≢ to → without_key from (moved_to to waiters)
    ≡ moved_to to waiters
without_key_moved from to [] differ = refl
without_key_moved from to (x ∷ xs) differ = grind (arith, nat_tests, without_key_moved from to xs differ)

line_moved : (from to : ℕ) (waiters : List Waiter) → from ≢ to → line from (moved_to to waiters) ≡ []
line_moved from to [] differ = refl
line_moved from to (x ∷ xs) differ = grind (arith, nat_tests, line_moved from to xs differ)

first_and_rest : (to : ℕ) (waiters : List Waiter) → moved_to to (take 1 waiters) ++ moved_to to
    (drop 1 waiters) ≡ moved_to to waiters
first_and_rest to [] = refl
first_and_rest to (x ∷ xs) = refl

-- once the first was moved
line_after_one : (from to : ℕ) (waiters : List Waiter) → from ≢ to → line from (requeued One from to waiters)
    ≡ drop 1 (line from waiters)
line_after_one from to waiters differ =
    filter-append _ (without_first from waiters) (moved_to to (take 1 (line from waiters)))
    ∙ rw (line_without_first from waiters, line_moved from to (take 1 (line from waiters)) differ)
    (append-nil _)

without_key_after_one : (from to : ℕ) (waiters : List Waiter) → from ≢ to → without_key from
    (requeued One from to waiters) ≡ without_key from waiters ++ moved_to to (take 1 (line from waiters))
without_key_after_one from to waiters differ =
    filter-append _ (without_first from waiters) (moved_to to (take 1 (line from waiters)))
    ∙ rw (
      without_key_without_first from waiters,
      without_key_moved from to (take 1 (line from waiters))
          differ,
    ) refl

-- to move the first and then all is to move all
pub one_then_all : (from to : ℕ) (waiters : List Waiter) → from ≢ to
    → requeued All from to (requeued One from to waiters) ≡ requeued All from to waiters
one_then_all from to waiters differ =
    rw (
      without_key_after_one from to waiters differ,
      line_after_one from to waiters differ,
      append_assoc,
      first_and_rest to (line from waiters),
    ) refl

shorter : (waiters : List Waiter) → length (drop 1 waiters) + length (take 1 waiters) ≡ length waiters
shorter [] = omega arith
shorter (x ∷ xs) = omega arith

pub one_fewer : (from to : ℕ) (waiters : List Waiter) → from ≢ to
    → length (line from (requeued One from to waiters)) + length (moved_by One (line from waiters))
    ≡ length (line from waiters)
one_fewer from to waiters differ = rw (line_after_one from to waiters differ) (shorter (line from waiters))

-- nobody is left to be moved
nobody : (waiters : List Waiter) → length (take 1 waiters) ≡ 0 → waiters ≡ []
nobody [] none = refl
nobody (x ∷ xs) none = absurd (omega arith)

pub none_moves : (from to : ℕ) (waiters : List Waiter) → length (moved_by One (line from waiters)) ≡ 0
    → requeued One from to waiters ≡ requeued All from to waiters
none_moves from to waiters none = let empty = nobody (line from waiters) none in
    rw (empty, without_first_of_none from waiters empty, without_key_of_none from waiters empty) refl

-- to take the first and then move all is to move the rest
pub take_then_all : (from to : ℕ) (waiters : List Waiter) → requeued All from to (without_first from waiters)
    ≡ requeued TakeOneMoveRest from to waiters
take_then_all from to waiters = rw (without_key_without_first from waiters, line_without_first from waiters)
    refl
