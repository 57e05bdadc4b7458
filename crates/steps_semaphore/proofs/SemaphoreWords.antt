-- The word of a semaphore tells a thread the truth, and each operation leaves the word that its
-- deeds say.
use Rattle.std.proofs.Common.{ℕ, Bool, true, false, Some, ◌==◌, ◌≡◌, ◌<◌, ◌≤◌, ◌+◌, ◌-◌, ◌*◌, ◌^◌, List, []}
use Rattle.std.proofs.Common.{◌∷◌, refl, ap, ◌∙◌, arith, length, slice_index}
use Rattle.std.proofs.lemmas.Bool.{eqb-true}
use Rattle.std.proofs.lemmas.Bool.Decides.{nat_tests}
use Rattle.std.proofs.lemmas.List.Sums.{get_or-le-sum_by, sum_by-set}
use Rattle.std.specs.Prelude.{drop}
use Rattle.core_base.specs.declared.ops.Op.TheVariants as op
use Rattle.core_base.specs.declared.wants.Want.{Want}
use Rattle.core_base.specs.declared.wants.Want.TheVariants.{Shared}
use Rattle.core_base.specs.Words.{apply}
use Rattle.spec_locks.specs.Codes.{bit, code, code_of, has_parked}
use Rattle.spec_locks.specs.Locks.{Knows, KnowsAll, LockState, Queued, Rules, Semaphore, first_thread}
use Rattle.spec_locks.specs.Locks.{readers, with_owner, without_owner}
use Rattle.spec_locks.specs.Sites.{Site}
use Rattle.spec_locks.proofs.Seen.{clears_low}
use Rattle.spec_locks.proofs.SiteFacts.{fewer_share}
use Rattle.steps_semaphore.specs.declared.places.TheConstants.{NOT_PARKED}
use Rattle.steps_semaphore.specs.SemaphoreDeeds.{queued}
use Rattle.steps_semaphore.specs.SemaphoreSteps.{free_permits, is_free}

-- the word, by the free permits and its bit
abbrev pub word_of : ℕ → Bool → ℕ
word_of n p = 2 * n + bit p

abbrev pub free_in : ℕ → Site → ℕ
free_in limit s = limit - readers s.lock

pub coded : (r : Rules) (s : Site) → r.sort ≡ Semaphore → code r s ≡ word_of (free_in r.limit s) s.parked
coded r s sort = ap (λ x. code_of x r.limit s) sort

pub bit_few : (p : Bool) → bit p ≤ 1
bit_few true = omega arith
bit_few false = omega arith

-- ---------------------------------------------------------------- the values read

free_is : (n : ℕ) (p : Bool) → free_permits (word_of n p) ≡ n
free_is n p = omega (arith, bit_few p)

pub some_free : (n : ℕ) (p : Bool) → is_free (word_of n p) ≡ true → 1 ≤ n
some_free n p e = grind (arith, nat_tests, free_is n p)

pub none_free : (n : ℕ) (p : Bool) → is_free (word_of n p) ≡ false → n ≡ 0
none_free n p e = grind (arith, nat_tests, free_is n p)

pub parked_is : (n : ℕ) (p : Bool) → has_parked (word_of n p) ≡ p
parked_is n true = grind (arith, nat_tests)
parked_is n false = grind (arith, nat_tests)

-- none is free, and somebody may be parked
pub one : (n : ℕ) (p : Bool) → (word_of n p == 1) ≡ true → (n ≡ 0) × (p ≡ true)
one n true e = let w = eqb-true (2 * n + 1) 1 e in (omega arith, refl)
one n false e = absurd (let w = eqb-true (2 * n + 0) 1 e in omega arith)

-- ---------------------------------------------------------------- the values that operations leave

pub cleared : (n : ℕ) (p : Bool) → n ≤ 2 ^ 62 → apply (op.And NOT_PARKED) (word_of n p) ≡ word_of n false
cleared n p few = omega (arith, clears_low (word_of n p) (omega (arith, bit_few p)), bit_few p)

-- one more shares, or one less
pub one_more : (s : LockState) (t : ℕ) → t < length s.shared → readers (with_owner t Shared s) ≡ readers s + 1
one_more s t here = let e = sum_by-set (λ (n : ℕ). n) s.shared t (slice_index s.shared t + 1) 0 here
    in omega arith

pub one_less : (s : LockState) (t : ℕ) → 1 ≤ slice_index s.shared t → readers (without_owner t Shared s) + 1
    ≡ readers s
one_less s t own = fewer_share s.shared t own

-- a thread holds no more than are held
pub held_few : (s : LockState) (t : ℕ) → t < length s.shared → slice_index s.shared t ≤ readers s
held_few s t here = get_or-le-sum_by (λ (n : ℕ). n) s.shared t 0 here

-- ---------------------------------------------------------------- the first waiter

shared_wanted : (x : Queued) → Knows Semaphore x.want → x ≡ queued x.thread
shared_wanted x k = λ i. record { thread = x.thread; want = wanted x.want k i }
  where
    wanted : (w : Want) → Knows Semaphore w → w ≡ Shared
    wanted Shared k = refl
    wanted w k = absurd k

pub first_is : (q : List Queued) (u : ℕ) → KnowsAll Semaphore q → first_thread q ≡ Some u → q ≡ queued u
    ∷ drop 1 q
first_is [] u k e = absurd cc
first_is (x ∷ q) u k e = let same : x.thread ≡ u = cc in ap (λ y. y ∷ q) (shared_wanted x k.0
    ∙ ap queued same)
