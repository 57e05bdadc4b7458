-- One at most of the waiters that a thread picks wants more than to share: so one at most succeeds
-- it.
use Rattle.std.proofs.Common.{ℕ, Bool, true, false, Option, if◌then◌else◌, ◌≡◌, ◌+◌, ◌≤◌, List, [], ◌∷◌, refl}
use Rattle.std.proofs.Common.{arith}
use Rattle.core_base.specs.declared.lock_picker.LockPicker.{LockPicker}
use Rattle.core_base.specs.declared.lock_picker.LockPicker.TheVariants.{Anyone, Readers, Nobody}
use Rattle.core_base.specs.declared.wants.Waiter.{Waiter}
use Rattle.core_base.specs.declared.wants.Want.{Want}
use Rattle.core_base.specs.declared.wants.Want.TheVariants.{Exclusive, Upgradable, Shared, Wait, CallOnce}
use Rattle.core_base.specs.Picks.{lock_answer, lock_picked, lock_picker, next_picker, picked}
use Rattle.spec_locks.specs.Locks.{wants_shared}

-- how many want more than to share
abbrev pub wanting_more : List Waiter → ℕ
wanting_more [] = 0
wanting_more (x ∷ xs) = (if wants_shared x.want then 0 else 1) + wanting_more xs

abbrev most : LockPicker → ℕ
most (Anyone recursive) = 1
most picker = 0

pub few_more : (picker : LockPicker) (xs : List Waiter)
    → wanting_more (picked lock_answer next_picker picker xs) ≤ most picker
few_more (Anyone recursive) [] = omega arith
few_more Readers [] = omega arith
few_more Nobody [] = omega arith
few_more picker (x ∷ xs) = by_want (λ p. few_more p xs) picker x.want refl
  where
    by_want : ((p : LockPicker) → wanting_more (picked lock_answer next_picker p xs) ≤ most p)
        → (p : LockPicker) (y : Want) → x.want ≡ y → wanting_more (picked lock_answer next_picker p (x ∷ xs))
        ≤ most p
    by_want rest Nobody y e = omega arith
    by_want rest Readers Shared e = let h : wanting_more (picked lock_answer next_picker Readers xs) ≤ 0 =
        rest Readers in rw e (omega arith)
    by_want rest Readers Exclusive e = rw e (rest Readers)
    by_want rest Readers Upgradable e = rw e (rest Readers)
    by_want rest Readers Wait e = rw e (rest Readers)
    by_want rest Readers CallOnce e = rw e (rest Readers)
    by_want rest (Anyone r) Shared e = let h : wanting_more (picked lock_answer next_picker (Anyone r) xs)
        ≤ 1 = rest (Anyone r) in rw e (omega arith)
    by_want rest (Anyone true) Exclusive e = let h : wanting_more (picked lock_answer next_picker Readers xs)
        ≤ 0 = rest Readers in rw e (omega arith)
    by_want rest (Anyone false) Exclusive e = let h : wanting_more (picked lock_answer next_picker Nobody xs)
        ≤ 0 = rest Nobody in rw e (omega arith)
    by_want rest (Anyone true) Upgradable e = let h : wanting_more (picked lock_answer next_picker Readers xs)
        ≤ 0 = rest Readers in rw e (omega arith)
    by_want rest (Anyone false) Upgradable e =
        let h : wanting_more (picked lock_answer next_picker Readers xs) ≤ 0 = rest Readers
        in rw e (omega arith)
    by_want rest (Anyone true) Wait e = let h : wanting_more (picked lock_answer next_picker Readers xs) ≤ 0 =
        rest Readers in rw e (omega arith)
    by_want rest (Anyone false) Wait e = let h : wanting_more (picked lock_answer next_picker Readers xs)
        ≤ 0 = rest Readers in rw e (omega arith)
    by_want rest (Anyone true) CallOnce e = let h : wanting_more (picked lock_answer next_picker Readers xs)
        ≤ 0 = rest Readers in rw e (omega arith)
    by_want rest (Anyone false) CallOnce e = let h : wanting_more (picked lock_answer next_picker Readers xs)
        ≤ 0 = rest Readers in rw e (omega arith)

pub one_more_picked : (start : Option Want) (recursive : Bool) (xs : List Waiter)
    → wanting_more (lock_picked start recursive xs) ≤ 1
one_more_picked start recursive xs = let few : wanting_more (lock_picked start recursive xs)
    ≤ most (lock_picker start recursive) = few_more (lock_picker start recursive) xs in
    let one : most (lock_picker start recursive) ≤ 1 = at_most (lock_picker start recursive) in omega arith
  where
    at_most : (picker : LockPicker) → most picker ≤ 1
    at_most (Anyone recursive) = omega arith
    at_most picker = omega arith
