-- The facts that a thread's decision tells about the word that it saw.
use Rattle.std.proofs.Common.{ℕ, Bool, true, false, if◌then◌else◌, ◌&&◌, ◌≡◌, ◌⊎◌, inl, inr, ◌+◌, ◌-◌, ◌/◌}
use Rattle.std.proofs.Common.{◌%◌, ◌^◌, ◌<◌, refl, arith, nat_le}
use Rattle.std.proofs.lemmas.Bool.Decides.{nat_tests}
use Rattle.core_base.specs.declared.wants.Want.{Want}
use Rattle.core_base.specs.declared.wants.Want.TheVariants as wants
use Rattle.spec_locks.specs.declared.calls.Patience.{Patience}
use Rattle.spec_locks.specs.declared.calls.Patience.TheVariants.{Patient, Timed, Try}
use Rattle.spec_locks.specs.declared.outcomes.Answer.{Answer}
use Rattle.spec_locks.specs.declared.outcomes.Answer.TheVariants.{No, ReadersFull}
use Rattle.spec_locks.specs.Codes.{count_in, has_aside, has_parked, is_blocked}
use Rattle.steps_rwlock.specs.RwLockSteps.{is_counted, park_or_mark, decision_blocked, decision, plus}
use Rattle.steps_rwlock.specs.declared.enter.Decision.TheVariants as decisions
use Rattle.steps_rwlock.specs.declared.places.Admission.{Admission}

takes_no : (b : Bool) → park_or_mark b ≡ decisions.Take → ⊥
takes_no true e = cc
takes_no false e = cc

blocked_takes_no : (how : Patience) (v : ℕ) → decision_blocked how v ≡ decisions.Take → ⊥
blocked_takes_no Try v e = cc
blocked_takes_no Patient v e = takes_no (has_parked v) e
blocked_takes_no Timed v e = takes_no (has_parked v) e

marks_unset : (b : Bool) → park_or_mark b ≡ decisions.Mark → b ≡ false
marks_unset true e = absurd cc
marks_unset false e = refl

blocked_unset : (how : Patience) (v : ℕ) → decision_blocked how v ≡ decisions.Mark → has_parked v ≡ false
blocked_unset Try v e = absurd cc
blocked_unset Patient v e = marks_unset (has_parked v) e
blocked_unset Timed v e = marks_unset (has_parked v) e

refuses_no : (b : Bool) (answer : Answer) → park_or_mark b ≡ decisions.Refuse answer → ⊥
refuses_no true answer e = cc
refuses_no false answer e = cc

-- each thread that comes while the lock is blocked is refused only as it tries
blocked_tries : (how : Patience) (v : ℕ) (answer : Answer) → decision_blocked how v ≡ decisions.Refuse answer
    → (answer ≡ No) × (how ≡ Try)
blocked_tries Try v answer e = (cc, refl)
blocked_tries Patient v answer e = absurd (refuses_no (has_parked v) answer e)
blocked_tries Timed v answer e = absurd (refuses_no (has_parked v) answer e)

-- the operation that sets a parked bit which is clear changes nothing else
pub marks : (v : ℕ) → v < 2 ^ 64 → has_parked v ≡ false → (plus v 1 ≡ v + 1) × (v % 2 ≡ 0)
marks v small e = (grind (arith, nat_tests), grind (arith, nat_tests))

pub marks_aside : (v : ℕ) → v < 2 ^ 64 → has_aside v ≡ false → (plus v 2 ≡ v + 2) × (v / 2 % 2 ≡ 0)
marks_aside v small e = (grind (arith, nat_tests), grind (arith, nat_tests))

-- beside no writer there is room for a reader, and so there is beside one that lets readers in
reader_free : (recursive : Bool) (v : ℕ) → is_blocked recursive wants.Shared v ≡ false → (v / 8 % 2 ≡ 0)
    ⊎ (0 < v / 16)
reader_free true v e = grind (arith, nat_tests)
reader_free false v e = grind (arith, nat_tests)

module _ (a : Admission) (how : Patience) (v : ℕ) where
  abbrev full : Want → Bool
  full x = is_counted x && nat_le a.limit (count_in v)

  takes_free : (x : Want) → decision a x how v ≡ decisions.Take → (is_blocked a.recursive x v ≡ false)
      × ((is_counted x && nat_le a.limit (count_in v)) ≡ false)
  takes_free x e = by_tests (is_blocked a.recursive x v) (is_counted x && nat_le a.limit (count_in v)) e
    where
      by_tests : (b c : Bool) → (if b then decision_blocked how v else if c then decisions.Refuse ReadersFull
          else decisions.Take) ≡ decisions.Take → (b ≡ false) × (c ≡ false)
      by_tests false false f = (refl, refl)
      by_tests false true f = absurd cc
      by_tests true c f = absurd (blocked_takes_no how v f)

  pub marks_clear : (x : Want) → decision a x how v ≡ decisions.Mark → has_parked v ≡ false
  marks_clear x e = by_tests (is_blocked a.recursive x v) (is_counted x && nat_le a.limit (count_in v)) e
    where
      by_tests : (b c : Bool) → (if b then decision_blocked how v else if c then decisions.Refuse ReadersFull
          else decisions.Take) ≡ decisions.Mark → has_parked v ≡ false
      by_tests true c f = blocked_unset how v f
      by_tests false true f = absurd cc
      by_tests false false f = absurd cc

  -- a try is refused where the lock is blocked, and each thread that counts where it is full
  pub refuses : (x : Want) (answer : Answer) → decision a x how v ≡ decisions.Refuse answer
      → ((answer ≡ No) × (how ≡ Try)) ⊎ ((answer ≡ ReadersFull) × (is_counted x ≡ true))
  refuses x answer e = by_tests (is_blocked a.recursive x v) (is_counted x) (nat_le a.limit (count_in v)) e
    where
      by_tests : (b c d : Bool) → (if b then decision_blocked how v else if c && d then decisions.Refuse
          ReadersFull else decisions.Take) ≡ decisions.Refuse answer → ((answer ≡ No) × (how ≡ Try))
          ⊎ ((answer ≡ ReadersFull) × (c ≡ true))
      by_tests true c d f = inl (blocked_tries how v answer f)
      by_tests false true true f = inr (cc, refl)
      by_tests false true false f = absurd cc
      by_tests false false d f = absurd cc

  pub takes_shared : a.limit < 2 ^ 60 - 1 → decision a wants.Shared how v ≡ decisions.Take
      → (plus v 16 ≡ v + 16) × (v / 16 < 2 ^ 60 - 2) × ((v / 8 % 2 ≡ 0) ⊎ (0 < v / 16))
  takes_shared few e = let t = takes_free wants.Shared e in let open_count = t.1
      in (grind (arith, nat_tests), grind (arith, nat_tests), reader_free a.recursive v t.0)

  pub takes_upgradable : a.limit < 2 ^ 60 - 1 → decision a wants.Upgradable how v ≡ decisions.Take
      → (plus v 20 ≡ v + 20) × (v / 16 < 2 ^ 60 - 2) × (v / 4 % 4 ≡ 0)
  takes_upgradable few e = let t = takes_free wants.Upgradable e in let open_count = t.1 in let no_writer =
      t.0 in (grind (arith, nat_tests), grind (arith, nat_tests), grind (arith, nat_tests))

  pub takes_exclusive : v < 2 ^ 64 → decision a wants.Exclusive how v ≡ decisions.Take → (plus v 8 ≡ v + 8)
      × (v / 4 % 4 ≡ 0)
  takes_exclusive small e = let t = takes_free wants.Exclusive e in let no_writer = t.0
      in (grind (arith, nat_tests), grind (arith, nat_tests))

-- an upgrade that tries is the only reader
pub upgrades : (v : ℕ) → v < 2 ^ 64 → count_in v ≡ 1 → plus v (2 ^ 64 - 12) ≡ v - 12
upgrades v small one = omega arith
