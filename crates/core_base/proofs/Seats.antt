-- There is room for all: each thread is below the capacity, and stands at most once.
use Rattle.std.proofs.Common.{ℕ, zero, suc, ◌≡◌, ◌+◌, ◌≤◌, ◌<◌, inl, inr, List, [], ◌∷◌, ◌++◌, Option, Some}
use Rattle.std.proofs.Common.{None, IfSome, length, length-append, refl, ap, ◌∙◌, arith}
use Rattle.std.proofs.lemmas.Bool.{cases_eq, cases_lt}
use Rattle.std.proofs.lemmas.List.{length-map}
use Rattle.std.proofs.lemmas.Bool.Decides.{nat_tests}
use Rattle.core_base.specs.declared.wants.Waiter.{Waiter}
use Rattle.core_base.specs.declared.wants.Want.{Want}
use Rattle.core_base.specs.declared.wants.Want.TheVariants.{Exclusive, Wait}
use Rattle.core_base.specs.Lines.{waiter, line, first_of, threads_of, times, without, without_first}
use Rattle.core_base.specs.Lines.{without_key, IsSeated}
use Rattle.core_base.specs.Picks.{without_picked}
use Rattle.core_base.specs.Requeues.{moved_by, moved_to, requeued, standing}
use Rattle.core_base.specs.declared.picks.Pick.{Pick}
use Rattle.core_base.specs.declared.requeues.Requeue.{Requeue}
use Rattle.core_base.specs.declared.requeues.Requeue.TheVariants.{One, All, TakeOneMoveRest}
use Rattle.core_base.proofs.Counts.{times_append, times_without, times_gone, times_passed, no_more_requeued}
use Rattle.core_base.proofs.Moves.{length-line}

length-without : (thread : ℕ) (waiters : List Waiter) → length waiters ≡ length (without thread waiters)
    + times thread waiters
length-without thread [] = refl
length-without thread (x ∷ xs) = grind (arith, nat_tests, length-without thread xs)

-- no thread stands more often once some have left
no_more_without : (other thread : ℕ) (waiters : List Waiter) → times other (without thread waiters)
    ≤ times other waiters
no_more_without other thread [] = omega arith
no_more_without other thread (x ∷ xs) = grind (arith, nat_tests, no_more_without other thread xs)

no_more_without_first : (thread key : ℕ) (waiters : List Waiter) → times thread (without_first key waiters)
    ≤ times thread waiters
no_more_without_first thread key [] = omega arith
no_more_without_first thread key (x ∷ xs) = grind (arith, nat_tests, no_more_without_first thread key xs)

no_more_without_key : (thread key : ℕ) (waiters : List Waiter) → times thread (without_key key waiters)
    ≤ times thread waiters
no_more_without_key thread key [] = omega arith
no_more_without_key thread key (x ∷ xs) = grind (arith, nat_tests, no_more_without_key thread key xs)

no_more_without_picked : {P : Type 0} (answer : P → Want → Pick) (next : P → Want → P) (picker : P)
    (thread key : ℕ) (waiters : List Waiter) → times thread (without_picked answer next picker key waiters)
    ≤ times thread waiters
no_more_without_picked answer next picker thread key [] = omega arith
no_more_without_picked answer next picker thread key (x ∷ xs) =
    grind (
      arith,
      nat_tests,
      no_more_without_picked answer next picker thread key xs,
      no_more_without_picked answer next (next picker x.want) thread key xs,
    )

seated_fewer : (fewer waiters : List Waiter) (capacity : ℕ)
    → ((thread : ℕ) → times thread fewer ≤ times thread waiters) → IsSeated waiters capacity
    → IsSeated fewer capacity
seated_fewer fewer waiters capacity no_more seated = record {
  below = λ thread above. omega (arith, no_more thread, seated.below thread above);
  once = λ thread. omega (arith, no_more thread, seated.once thread);
}

pub seated_without : (thread capacity : ℕ) (waiters : List Waiter) → IsSeated waiters capacity
    → IsSeated (without thread waiters) capacity
seated_without thread capacity waiters =
    seated_fewer _ waiters capacity (λ other. no_more_without other thread waiters)

pub seated_without_first : (key capacity : ℕ) (waiters : List Waiter) → IsSeated waiters capacity
    → IsSeated (without_first key waiters) capacity
seated_without_first key capacity waiters = seated_fewer _ waiters capacity
    (λ thread. no_more_without_first thread key waiters)

pub seated_without_key : (key capacity : ℕ) (waiters : List Waiter) → IsSeated waiters capacity
    → IsSeated (without_key key waiters) capacity
seated_without_key key capacity waiters =
    seated_fewer _ waiters capacity (λ thread. no_more_without_key thread key waiters)

pub seated_without_picked : {P : Type 0} (answer : P → Want → Pick) (next : P → Want → P) (picker : P)
    (key capacity : ℕ) (waiters : List Waiter) → IsSeated waiters capacity
    → IsSeated (without_picked answer next picker key waiters) capacity
seated_without_picked answer next picker key capacity waiters = seated_fewer _ waiters capacity
    (λ thread. no_more_without_picked answer next picker thread key waiters)

pub seated_requeued : (op : Requeue) (from to capacity : ℕ) (waiters : List Waiter)
    → IsSeated waiters capacity → IsSeated (requeued op from to waiters) capacity
seated_requeued op from to capacity waiters = seated_fewer _ waiters capacity
    (λ thread. no_more_requeued thread from to op waiters)

pub seated_append : (key thread capacity : ℕ) (want : Want) (waiters : List Waiter)
    → IsSeated waiters capacity → thread < capacity
    → IsSeated (without thread waiters ++ waiter key thread want ∷ []) capacity
seated_append key thread capacity want waiters seated below = record {
  below = λ other above. grind (
    arith,
    nat_tests,
    seated.below other above,
    no_more_without other thread waiters,
    times_append other key thread want (without thread waiters),
  );
  once = λ other. elim (cases_eq other thread) [
    | inl same ↦ rw same (grind (
      arith,
      nat_tests,
      times_gone thread waiters,
      times_append thread key thread want (without thread waiters),
    ))
    | inr differ ↦ grind (
      arith,
      nat_tests,
      seated.once other,
      no_more_without other thread waiters,
      times_append other key thread want (without thread waiters),
    )
  ];
}

times_head : (x : Waiter) (xs : List Waiter) → 1 ≤ times x.thread (x ∷ xs)
times_head x xs = grind (arith, nat_tests)

-- no more threads stand than are below the capacity
pub length_seated : (capacity : ℕ) (waiters : List Waiter) → IsSeated waiters capacity → length waiters
    ≤ capacity
length_seated zero [] seated = omega arith
length_seated zero (x ∷ xs) seated = absurd (omega (
  arith,
  seated.below x.thread (omega arith),
  times_head x xs,
))
length_seated (suc capacity) waiters seated =
    let others : IsSeated (without capacity waiters) capacity = record {
      below = λ thread above. elim (cases_eq thread capacity) [
        | inl same ↦ rw same (times_gone capacity waiters)
        | inr differ ↦ times_without thread capacity waiters differ ∙ seated.below thread (omega arith)
      ];
      once = (seated_without capacity (suc capacity) waiters seated).once;
    } in
    omega (
      arith,
      length_seated capacity (without capacity waiters) others,
      length-without capacity waiters,
      seated.once capacity,
    )

-- there is room for a thread that is appended
pub length_without_seated : (thread capacity : ℕ) (waiters : List Waiter) → IsSeated waiters capacity
    → thread < capacity → length (without thread waiters) < capacity
length_without_seated thread capacity waiters seated below =
    omega (
      arith,
      length_seated capacity _ (seated_append 0 thread capacity Wait waiters seated below),
      length-append (without thread waiters) (waiter 0 thread Wait ∷ []),
    )

-- a thread that stands first stands somewhere
times_first : (key thread : ℕ) (waiters : List Waiter) → first_of (line key waiters) ≡ Some thread
    → 1 ≤ times thread waiters
times_first key thread [] first = absurd cc
times_first key thread (x ∷ xs) first = grind (arith, nat_tests, times_first key thread xs)

pub first_seated : (key capacity : ℕ) (waiters : List Waiter) (taken : Option ℕ) → IsSeated waiters capacity
    → taken ≡ first_of (line key waiters) → IfSome taken (λ thread. thread < capacity)
first_seated key capacity waiters None seated first = tt
first_seated key capacity waiters (Some thread) seated first =
    let stands : 1 ≤ times thread waiters = times_first key thread waiters cc in
    grind (arith, seated.below thread)

-- nor in a line
pub line_seated : (key capacity : ℕ) (waiters : List Waiter) → IsSeated waiters capacity
    → length (line key waiters) ≤ capacity
line_seated key capacity waiters seated = omega (
  arith,
  length-line key waiters,
  length_seated capacity waiters seated,
)

-- a list has room for each of its lines
pub length-threads_of_line : (key : ℕ) (waiters : List Waiter) → length (threads_of (line key waiters))
    ≤ length waiters
length-threads_of_line key [] = omega arith
length-threads_of_line key (x ∷ xs) = grind (arith, nat_tests, length-threads_of_line key xs)

pub length-line_seated : (key capacity : ℕ) (waiters : List Waiter) → IsSeated waiters capacity
    → length (threads_of (line key waiters)) ≤ capacity
length-line_seated key capacity waiters seated = omega (
  arith,
  length-threads_of_line key waiters,
  length_seated capacity waiters seated,
)

fewer_moved : (op : Requeue) (waiters : List Waiter) → length (moved_by op waiters) ≤ length waiters
fewer_moved One [] = omega arith
fewer_moved One (x ∷ xs) = omega arith
fewer_moved All waiters = omega arith
fewer_moved TakeOneMoveRest [] = omega arith
fewer_moved TakeOneMoveRest (x ∷ xs) = omega arith

pub moved_seated : (op : Requeue) (key capacity : ℕ) (waiters : List Waiter) (number : ℕ)
    → IsSeated waiters capacity → number ≡ length (moved_by op (line key waiters))
    → (number ≡ length (moved_by op (line key waiters))) × (number ≤ capacity)
moved_seated op key capacity waiters number seated counted = (
  counted,
  omega (
    arith,
    fewer_moved op (line key waiters),
    length-line key waiters,
    length_seated capacity waiters seated,
  ),
)

-- threads of a line, put under a key, are the waiters of that line, moved to it
pub standing_moved : (key : ℕ) (waiters : List Waiter) → standing key (threads_of waiters)
    ≡ moved_to key waiters
standing_moved key [] = refl
standing_moved key (x ∷ xs) = ap (λ (l : List Waiter). waiter key x.thread Exclusive ∷ l)
    (standing_moved key xs)

pub length-standing : (key : ℕ) (threads : List ℕ) → length (standing key threads) ≡ length threads
length-standing key threads = length-map threads _

pub length-threads_of : (waiters : List Waiter) → length (threads_of waiters) ≡ length waiters
length-threads_of waiters = length-map waiters _

-- threads that stood nowhere in a list have come to it
pub seated_passed : (from to capacity : ℕ) (xs ys : List Waiter) → IsSeated xs capacity
    → IsSeated ys capacity → ((thread : ℕ) → 1 ≤ times thread (line from xs) → times thread ys ≡ 0)
    → IsSeated (ys ++ moved_to to (line from xs)) capacity
seated_passed from to capacity xs ys mine theirs apart = record {
  below = λ thread above. omega (
    arith,
    times_passed thread from to xs ys,
    mine.below thread above,
    theirs.below thread above,
  );
  once = λ thread. elim (cases_lt 0 (times thread (line from xs))) [
    | inl stands ↦ omega (
      arith,
      times_passed thread from to xs ys,
      mine.once thread,
      apart thread (omega arith),
    )
    | inr none ↦ omega (
      arith,
      times_passed thread from to xs ys,
      theirs.once thread,
    )
  ];
}
