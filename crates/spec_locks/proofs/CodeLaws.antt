-- The word of a reader-writer lock follows each case of the lock, and tells the truth.
use Rattle.std.proofs.Common.{ℕ, Bool, true, false, List, ◌==◌, ◌≡◌, ◌+◌, ◌/◌, ◌%◌, ◌≤◌, ◌<◌, refl, ap, ◌∙◌}
use Rattle.std.proofs.Common.{sym, length, arith}
use Rattle.std.specs.Prelude.{sum, slice_index, slice_set}
use Rattle.std.proofs.lemmas.Bool.Decides.{nat_tests}
use Rattle.std.proofs.lemmas.List.Sums.{sum_by-set}
use Rattle.core_base.specs.declared.wants.Want.{Want}
use Rattle.core_base.specs.declared.wants.Want.TheVariants.{Exclusive, Upgradable, Shared}
use Rattle.spec_locks.specs.Locks.{Sort, Mutex, Normal, Recursive, Semaphore, Once, Rules, LockCase, OfOnce}
use Rattle.spec_locks.specs.Locks.{Enter, Pend, Settle, Leave, Convert, Wake, HandOff, Rollback, Knows}
use Rattle.spec_locks.specs.Locks.{NoWriter, IsFreeAt, is_recursive, count, readers, one_if_some, OfCondvar}
use Rattle.spec_locks.specs.Locks.{Condvar}
use Rattle.spec_locks.specs.Sites.{Site, IsSite, Case, Needed, after_deed, has_readers}
use Rattle.spec_locks.specs.Codes.{bit, writers, code_of, rw_code, count_in, has_writer, has_upgradable}
use Rattle.spec_locks.specs.Codes.{has_aside, has_parked, is_blocked, lost, rolled, IsHandOff, WordFollows}
use Rattle.spec_locks.specs.Codes.{WordsTellTrue}
use Rattle.spec_locks.proofs.Seen.{packed_count, packed_writer, packed_upgradable, packed_aside}
use Rattle.spec_locks.proofs.Seen.{packed_parked}
use Rattle.spec_locks.proofs.SiteFacts.{fewer_share}

pub one_more : (xs : List ℕ) (t : ℕ) → t < length xs → sum (slice_set xs t (slice_index xs t + 1)) ≡ sum xs
    + 1
one_more xs t lt = let e = sum_by-set (λ (n : ℕ). n) xs t (slice_index xs t + 1) 0 lt in omega arith

module _ (r : Rules) (s : Site) (t : ℕ) (readers : has_readers r.sort ≡ true)
    (there : t < length s.lock.shared) (h : IsSite r s) where
  pub follows : (case : LockCase) → Needed r (Case case) s t → (IsHandOff case → ⊥)
      → rw_code (after_deed r (Case case) s t) + lost s.lock.pending case ≡ rw_code s + rolled s.lock.pending
      case
  follows (Enter Shared) n other = grind (arith, one_more s.lock.shared t there)
  follows (Enter Upgradable) n other = grind arith
  follows (Enter Exclusive) n other = grind arith
  follows Pend n other = grind arith
  follows Settle n other = grind arith
  follows (Leave Shared) n other = grind (arith, fewer_share s.lock.shared t)
  follows (Leave Upgradable) n other = grind arith
  follows (Leave Exclusive) n other = grind arith
  follows (Convert Exclusive Shared) n other = grind (arith, one_more s.lock.shared t there)
  follows (Convert Exclusive Upgradable) n other = grind arith
  follows (Convert Upgradable Shared) n other = grind (arith, one_more s.lock.shared t there)
  follows (Convert Upgradable Exclusive) n other = grind arith
  follows Rollback n other = grind arith
  follows Wake n other = absurd n.1
  follows (HandOff x y) n other = absurd (other tt)
  follows (OfOnce case) n other = absurd (let e : has_readers Once ≡ true = rw n.0.0 at readers in cc)
  follows (OfCondvar case) n other = absurd (let e : has_readers Condvar ≡ true = rw n.0.0 at readers in cc)
  follows case n other = grind arith

-- ---------------------------------------------------------------- the values read

module _ (r : Rules) (s : Site) (h : IsSite r s) where
  few_writers : writers s.lock ≤ 1
  few_writers = grind (arith, h.state.exclusive_alone)

  few_bits : (b : Bool) → bit b ≤ 1
  few_bits true = omega arith
  few_bits false = omega arith

  few_upgradable : one_if_some s.lock.upgradable ≤ 1
  few_upgradable = grind arith

  reads_count : rw_code s / 16 ≡ count s.lock
  reads_count = packed_count _ _ _ _ _ few_writers few_upgradable (few_bits s.aside_parked)
      (few_bits s.parked)

  reads_writer : rw_code s / 8 % 2 ≡ writers s.lock
  reads_writer = packed_writer (count s.lock) _ _ _ _ few_writers few_upgradable (few_bits s.aside_parked)
      (few_bits s.parked)

  reads_upgradable : rw_code s / 4 % 2 ≡ one_if_some s.lock.upgradable
  reads_upgradable = packed_upgradable (count s.lock) (writers s.lock) _ _ _ few_writers few_upgradable
      (few_bits s.aside_parked) (few_bits s.parked)

  one_is : (b : Bool) → (bit b == 1) ≡ b
  one_is true = refl
  one_is false = refl

  reads_parked : has_parked (rw_code s) ≡ s.parked
  reads_parked = ap (λ n. n == 1) (packed_parked (count s.lock) (writers s.lock)
      (one_if_some s.lock.upgradable) (bit s.aside_parked) (bit s.parked) few_writers few_upgradable
      (few_bits s.aside_parked) (few_bits s.parked)) ∙ one_is s.parked

  reads_aside : has_aside (rw_code s) ≡ s.aside_parked
  reads_aside = ap (λ n. n == 1) (packed_aside (count s.lock) (writers s.lock) (one_if_some s.lock.upgradable)
      (bit s.aside_parked) (bit s.parked) few_writers few_upgradable (few_bits s.aside_parked)
      (few_bits s.parked)) ∙ one_is s.aside_parked

  pub low_is : rw_code s % 2 ≡ bit s.parked
  low_is = packed_parked (count s.lock) (writers s.lock) (one_if_some s.lock.upgradable) (bit s.aside_parked)
      (bit s.parked) few_writers few_upgradable (few_bits s.aside_parked) (few_bits s.parked)

  pub second_is : rw_code s / 2 % 2 ≡ bit s.aside_parked
  second_is = packed_aside (count s.lock) (writers s.lock) (one_if_some s.lock.upgradable)
      (bit s.aside_parked) (bit s.parked) few_writers few_upgradable (few_bits s.aside_parked)
      (few_bits s.parked)

  -- the tests of a word are tests of numbers
  writer_is : has_writer (rw_code s) ≡ (writers s.lock == 1)
  writer_is = ap (λ n. n == 1) reads_writer

  upgradable_is : has_upgradable (rw_code s) ≡ (one_if_some s.lock.upgradable == 1)
  upgradable_is = ap (λ n. n == 1) reads_upgradable

  no_readers_is : (count_in (rw_code s) == 0) ≡ (count s.lock == 0)
  no_readers_is = ap (λ n. n == 0) reads_count

  normal_blocked : (x : Want) → Knows Normal x → is_blocked false x (rw_code s) ≡ true
      → IsFreeAt Normal r.limit s.lock x → ⊥
  normal_blocked x knows b free = grind (arith, nat_tests, writer_is, upgradable_is)

  normal_free : (x : Want) → Knows Normal x → is_blocked false x (rw_code s) ≡ false
      → IsFreeAt Normal r.limit s.lock x
  normal_free x knows b = grind (arith, nat_tests, writer_is, upgradable_is)

  recursive_blocked : (x : Want) → Knows Recursive x → is_blocked true x (rw_code s) ≡ true
      → IsFreeAt Recursive r.limit s.lock x → ⊥
  recursive_blocked x knows b free = grind (arith, nat_tests, writer_is, upgradable_is, no_readers_is)

  recursive_free : (x : Want) → Knows Recursive x → is_blocked true x (rw_code s) ≡ false
      → IsFreeAt Recursive r.limit s.lock x
  recursive_free x knows b = grind (arith, nat_tests, writer_is, upgradable_is, no_readers_is)

  nobody_there : rw_code s ≡ 0 → NoWriter s.lock × (readers s.lock ≡ 0)
  nobody_there e = grind arith

-- by sorts
pub words_follow : WordFollows
words_follow r case s t rw there h n other = by_sort r.sort rw
  where
    by_sort : (sort : Sort) → has_readers sort ≡ true → code_of sort r.limit (after_deed r (Case case) s t)
        + lost s.lock.pending case ≡ code_of sort r.limit s + rolled s.lock.pending case
    by_sort Normal e = follows r s t rw there h case n other
    by_sort Recursive e = follows r s t rw there h case n other
    by_sort Mutex e = absurd cc
    by_sort Semaphore e = absurd cc
    by_sort Once e = absurd cc
    by_sort Condvar e = absurd cc

pub rw_is : (sort : Sort) (limit : ℕ) (s : Site) → has_readers sort ≡ true → code_of sort limit s ≡ rw_code s
rw_is Normal limit s e = refl
rw_is Recursive limit s e = refl
rw_is Mutex limit s e = absurd cc
rw_is Semaphore limit s e = absurd cc
rw_is Once limit s e = absurd cc
rw_is Condvar limit s e = absurd cc

pub words_tell_true : WordsTellTrue
words_tell_true r s rw_sort h =
    let is = rw_is r.sort r.limit s rw_sort in
    record {
      count = rw is (reads_count r s h);
      parked = rw is (reads_parked r s h);
      aside = rw is (reads_aside r s h);
      blocked = λ x knows b. (knows, blocked r.sort rw_sort x knows b);
      free = λ x knows b. (knows, free r.sort rw_sort x knows b);
      nobody = λ e. nobody_there r s h (sym is ∙ e);
    }
  where
    blocked : (sort : Sort) → has_readers sort ≡ true → (x : Want) → Knows sort x
        → is_blocked (is_recursive sort) x (code_of sort r.limit s) ≡ true → IsFreeAt sort r.limit s.lock x
        → ⊥
    blocked Normal e x knows b = normal_blocked r s h x knows b
    blocked Recursive e x knows b = recursive_blocked r s h x knows b
    blocked Mutex e x knows b = absurd cc
    blocked Semaphore e x knows b = absurd cc
    blocked Once e x knows b = absurd cc
    blocked Condvar e x knows b = absurd cc

    free : (sort : Sort) → has_readers sort ≡ true → (x : Want) → Knows sort x
        → is_blocked (is_recursive sort) x (code_of sort r.limit s) ≡ false → IsFreeAt sort r.limit s.lock x
    free Normal e x knows b = normal_free r s h x knows b
    free Recursive e x knows b = recursive_free r s h x knows b
    free Mutex e x knows b = absurd cc
    free Semaphore e x knows b = absurd cc
    free Once e x knows b = absurd cc
    free Condvar e x knows b = absurd cc
