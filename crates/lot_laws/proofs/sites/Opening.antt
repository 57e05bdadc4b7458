-- In the opening state each lock is a site, and nobody stands anywhere.
use Rattle.lot_laws.proofs.Imports
use Imports.{subst, ℕ, zero, suc, true, false, None, ◌&&◌, ◌≡◌, ◌+◌, ◌-◌, ◌*◌, ◌^◌, ◌≤◌, ◌<◌, List, [], ◌∷◌}
use Imports.{length, get_or, map, replicate, All, inl, inr, refl, sym, ◌∙◌, ap, arith, cases_lt, leb-true}
use Imports.{length-replicate, length-map, Kind, MOST_READERS, fits, Idle, Rules, opening_lock, HasPermits}
use Imports.{code, HasLimit, rules_of, Main, Site, IsSite, is_full, has_readers, opening_is_state, State}
use Imports.{first_word, opening, unlocked, place_at, kind_at, nowhere, location_at, IsCondvar, opening_condvar}
use Imports.{queued_of, profile_at, AreCondvars, condvar_of, inside_as, IsInductive, LimitHasRoom, site_of}
use Imports.{rules_in, key_of, carried_at, hand_at, idle_at, none_at, empty_at, nobody_owns, no_readers}
use Imports.{opening_shares, both, few_permits, new_words, new_site}
use Rattle.std.proofs.Common.{sum, nat_le}
use Rattle.spec_locks.specs.declared.kinds.Kind.TheVariants as kind
use Rattle.spec_locks.specs.Locks as sorts
use Rattle.lot_laws.proofs.machine.Parts.{past_all, seen_by}

-- where the limit leaves room for a reader
opening_is_site : (k : Kind) (n : ℕ) → (is_full (rules_of k) (opening_lock n) ≡ true → ⊥)
    → IsSite (rules_of k) (new_site k n)
opening_is_site k n room = record {
  state = opening_is_state (rules_of k) n;
  alone = λ t u m h k. absurd cc;
  parked = λ h. absurd (h refl);
  aside_parked = λ h. absurd (h refl);
  emptied = λ t m h. absurd cc;
  covered = λ t h. absurd cc;
  carried = λ u h e. absurd cc;
  brought = λ t h. absurd cc;
  setting = λ t h. absurd cc;
  held = λ t c h. absurd cc;
  unwoken = λ t h. refl;
  full = λ h. absurd (room h);
  main = λ h. absurd (elim h [ inl g ↦ g refl | inr g ↦ let b : false ≡ true = g.1 in cc ]);
  second = λ h. absurd (h refl);
}

-- a limit is no less than the number of threads, so nobody fills a lock by being there
limit_leaves_room : (n limit : ℕ) → 1 ≤ n → (nat_le n limit && nat_le limit MOST_READERS) ≡ true
    → nat_le limit ((sum (replicate n 0) + 0)) ≡ true → ⊥
limit_leaves_room n limit some h full =
    let a : n ≤ limit = leb-true n limit (both (nat_le n limit) (nat_le limit MOST_READERS) h).0 in
    let b : limit ≤ (sum (replicate n 0) + 0) = leb-true limit ((sum (replicate n 0) + 0)) full in
    let c : (sum (replicate n 0) + 0) ≡ 0 = rw (no_readers n) refl in
    omega arith

limit_fits : (n limit : ℕ) → 1 ≤ n → (nat_le n limit && nat_le limit MOST_READERS) ≡ true
    → (1 ≤ limit) × (limit < 2 ^ 60 - 1) × (n ≤ limit)
limit_fits n limit some h =
    let a : n ≤ limit = leb-true n limit (both (nat_le n limit) (nat_le limit MOST_READERS) h).0 in
    let b : limit ≤ MOST_READERS = leb-true limit MOST_READERS
    (both (nat_le n limit) (nat_le limit MOST_READERS) h).1 in
    (omega arith, omega arith, a)

room : (k : Kind) (n : ℕ) → 1 ≤ n → fits k n ≡ true → is_full (rules_of k) (opening_lock n) ≡ true → ⊥
room (kind.RwLock limit) n some h full = limit_leaves_room n limit some h full
room (kind.Recursive limit) n some h full = limit_leaves_room n limit some h full
room kind.Mutex n some h full = cc
room kind.Fair n some h full = cc
room k n some h full = cc

first_there : (kinds : List Kind) (l : ℕ)
    → (get_or (map unlocked kinds) l (unlocked kind.Mutex)).word
    ≡ first_word (get_or (map unlocked kinds) l (unlocked kind.Mutex)).kind
first_there [] l = refl
first_there (x ∷ xs) zero = refl
first_there (x ∷ xs) (suc l) = first_there xs l

-- The permits of a new semaphore can be counted.
countable : (k : Kind) (n : ℕ) → fits k n ≡ true → (rules_of k).sort ≡ sorts.Semaphore → (rules_of k).limit
    ≤ 2 ^ 62
countable (kind.Semaphore permits) n h e = few_permits permits h
countable kind.Mutex n h e = absurd cc
countable kind.Fair n h e = absurd cc
countable (kind.RwLock limit) n h e = absurd cc
countable (kind.Recursive limit) n h e = absurd cc
countable kind.Condvar n h e = absurd cc
countable kind.Once n h e = absurd cc

opening_permits : (k : Kind) (n : ℕ) → HasPermits (rules_of k) (new_site k n)
opening_permits k n = record {
  enough = λ left. absurd (left refl);
  unset = λ t. refl;
  known = λ u one. absurd (omega arith);
}

pub kind_is : (kinds : List Kind) (l : ℕ)
    → (get_or (map unlocked kinds) l (unlocked kind.Mutex)).kind ≡ get_or kinds l
    kind.Mutex
kind_is [] l = refl
kind_is (x ∷ xs) zero = refl
kind_is (x ∷ xs) (suc l) = kind_is xs l

pub unfilled_0 : (kinds : List Kind) (l : ℕ)
    → (get_or (map unlocked kinds) l (unlocked kind.Mutex)).filled ≡ false
unfilled_0 [] l = refl
unfilled_0 (x ∷ xs) zero = refl
unfilled_0 (x ∷ xs) (suc l) = unfilled_0 xs l

-- a number of readers that a word can count
roomy : (k : Kind) (n : ℕ) → 1 ≤ n → fits k n ≡ true → has_readers (rules_of k).sort ≡ true
    → LimitHasRoom n (rules_of k)
roomy (kind.RwLock limit) n some h r = limit_fits n limit some h
roomy (kind.Recursive limit) n some h r = limit_fits n limit some h
roomy kind.Mutex n some h r = absurd cc
roomy kind.Fair n some h r = absurd cc
roomy k n some h r = absurd cc

-- nobody shares
opening_limit : (r : Rules) (n : ℕ) → HasLimit r (opening_lock n)
opening_limit r n = let none : sum (replicate n 0) ≡ 0 = no_readers n in record {
  top = omega arith;
  normal = λ h. omega arith;
  falls = λ p h f. absurd cc;
  falls_normal = λ p h f g. absurd cc;
}

module _ (kinds : List Kind) (threads : ℕ) where
  abbrev first : State
  first = opening kinds threads

  kinds_fit : All (λ k. fits k threads ≡ true) kinds → (l : ℕ) → fits (kind_at first l) threads ≡ true
  kinds_fit all l = rw (kind_is kinds l) (elim (cases_lt l (length kinds)) [
    | inl lt ↦ all l kind.Mutex lt
    | inr ge ↦ rw (past_all kinds l kind.Mutex ge) refl
  ])

  opening_seen : (l : ℕ) → site_of first l ≡ new_site (kind_at first l) (length first.places)
  opening_seen l = λ i. seen_by (rules_in first l) l (record {
    shared = opening_shares kinds threads l i;
    filled = unfilled_0 kinds l i;
  }) (first_there kinds l i) (nobody_owns kinds l i) (empty_at (2 * length kinds) (2 * l) i)
      (empty_at (2 * length kinds) (2 * l + 1) i) (λ u. idle_at threads u i)

  stands_nowhere : (t l : ℕ) → location_at (place_at first t) l ≡ nowhere
  stands_nowhere t l = ap (λ p. location_at p l) (idle_at threads t)

  size : length first.places ≡ threads
  size = length-replicate threads Idle

  -- nobody waits, and nothing is shown
  pub opening_condvars : AreCondvars first
  opening_condvars l sort = subst IsCondvar (sym seen) (record { once = λ t. omega arith; inside = refl })
    where
      seen : condvar_of first l ≡ opening_condvar
      seen = λ i. record {
        shown = (nobody_owns kinds l i).shown;
        waiters = map queued_of (empty_at (2 * length kinds) (2 * l) i);
        inside = inside_as (none_at (2 * length kinds) (key_of l Main) i)
            (λ t. (profile_at (idle_at threads t i) l).stage);
        waits_with = λ t. (profile_at (idle_at threads t i) l).names;
      }

  pub opening_inductive : 1 ≤ threads → All (λ k. fits k threads ≡ true) kinds → IsInductive first
  opening_inductive some fit = record {
    sites = record {
      site = λ l. rw (opening_seen l)
          (rw size (opening_is_site (kind_at first l) threads (room (kind_at first l) threads some
          (kinds_fit fit l))));
      word = λ l. first_there kinds l ∙ sym (ap (code (rules_in first l)) (opening_seen l)
          ∙ new_words (kind_at first l) threads (length first.places) (kinds_fit fit l));
      unfilled = λ l h. unfilled_0 kinds l;
      limits = λ l h. (
        subst (λ n. LimitHasRoom n (rules_in first l)) (sym size)
            (roomy (kind_at first l) threads some (kinds_fit fit l) h),
        rw (ap (λ (s : Site). s.lock) (opening_seen l))
            (rw size (opening_limit (rules_in first l) threads)),
      );
      permits = λ l sort. (
        subst (HasPermits (rules_in first l)) (sym (opening_seen l))
            (opening_permits (kind_at first l) (length first.places)),
        countable (kind_at first l) threads
            (kinds_fit fit l) sort,
      );
    };
    numbers = record {
      locks = length-replicate (length kinds) (replicate threads 0) ∙ sym (length-map kinds unlocked);
      threads = λ l. ap (λ (ns : List ℕ). length ns) (opening_shares kinds threads l)
          ∙ length-replicate (length first.places) 0;
    };
    stands = record {
      sections = λ t l m. rw (stands_nowhere t l, none_at (2 * length kinds) (key_of l m)) (
        λ h. absurd cc,
        λ h. absurd cc,
      );
      lines = λ t l m. rw (stands_nowhere t l, empty_at (2 * length kinds) (key_of l m)) refl;
      waits = λ l m. rw (empty_at (2 * length kinds) (key_of l m)) tt;
      hands = record {
        carried = λ t l b h. absurd (let a : carried_at (place_at first t) l ≡ None =
            ap (λ s. s.has_taken) (stands_nowhere t l) in cc);
        alone = λ t l u v b c o h. absurd (let a : hand_at (place_at first u) l ≡ None =
            ap (λ s. s.hand) (stands_nowhere u l) in cc);
        taken = λ t u l b h. absurd (let a : hand_at (place_at first u) l ≡ None =
            ap (λ s. s.hand) (stands_nowhere u l) in cc);
      };
      calls = λ t. rw (idle_at threads t) tt;
    };
  }
