-- The word of a reader-writer lock has 64 bits.
use Rattle.lot_laws.proofs.Imports
use Imports.{ℕ, Bool, true, false, ◌≡◌, ◌+◌, ◌-◌, ◌≤◌, ◌<◌, ◌^◌, sym, subst, arith, bit, code, code_of, rw_code}
use Imports.{writers, count_in, Site, IsSite, has_readers, State, word_at, IsInductive, rules_in, site_of, Rules}
use Imports.{Sort, Recursive, count, one_if_some}
use Rattle.spec_locks.specs.Locks.{Mutex, Normal, Semaphore, Once, Condvar}

few_bits : (b : Bool) → bit b ≤ 1
few_bits true = omega arith
few_bits false = omega arith

code_small : (r : Rules) (s : Site) → has_readers r.sort ≡ true → IsSite r s → r.limit < 2 ^ 60 - 1
    → count s.lock ≤ r.limit + 1 → code r s < 2 ^ 64
code_small r s readers site few top = by_sort r.sort readers
  where
    few_writers : writers s.lock ≤ 1
    few_writers = grind (arith, site.state.exclusive_alone)

    packed_small : rw_code s < 2 ^ 64
    packed_small = let a = few_writers in let b = few_bits s.parked in let c = few_bits s.aside_parked
        in let d : one_if_some s.lock.upgradable ≤ 1 = grind arith in omega arith

    by_sort : (sort : Sort) → has_readers sort ≡ true → code_of sort r.limit s < 2 ^ 64
    by_sort Normal h = packed_small
    by_sort Recursive h = packed_small
    by_sort Mutex h = absurd cc
    by_sort Semaphore h = absurd cc
    by_sort Once h = absurd cc
    by_sort Condvar h = absurd cc

pub word_small : (w : State) (l : ℕ) → IsInductive w → has_readers (rules_in w l).sort ≡ true
    → word_at w l < 2 ^ 64
word_small w l inductive readers = let limits = inductive.sites.limits l readers in
    subst (λ n. n < 2 ^ 64) (sym (inductive.sites.word l)) (code_small (rules_in w l) (site_of w l) readers
    (inductive.sites.site l) limits.0.1 limits.1.top)
