-- Each case keeps the limit.
use Rattle.std.proofs.Common.{ℕ, Bool, true, false, Option, Some, None, if◌then◌else◌, ◌==◌, ◌≡◌, ◌≤◌, ◌<◌}
use Rattle.std.proofs.Common.{refl, length, arith}
use Rattle.std.proofs.lemmas.Bool.Decides.{nat_tests}
use Rattle.core_base.specs.declared.wants.Want.TheVariants.{Exclusive, Upgradable, Shared}
use Rattle.spec_locks.specs.Locks.{LockState, Pending, Rules, LockCase, OfOnce, once_after, Enter, Pend}
use Rattle.spec_locks.specs.Locks.{Settle, Leave, Convert, HandOff, Rollback, Needs, IsLockState, readers}
use Rattle.spec_locks.specs.Onces.{OnceCase, Start, Finish, Fail, Rest, TakeAll}
use Rattle.spec_locks.specs.Locks as locks
use Rattle.spec_locks.specs.Codes.{HasLimit, LimitKept, IsHandOff}
use Rattle.spec_locks.proofs.SiteFacts.{fewer_share}
use Rattle.spec_locks.proofs.CodeLaws.{one_more}

module _ (r : Rules) (s : LockState) (t : ℕ) (there : t < length s.shared) (some : 1 ≤ r.limit)
    (c : IsLockState r s) (h : HasLimit r s) where
  upgrades : (b : Bool) → (readers s == 0) ≡ b → Needs r (Convert Upgradable Exclusive) s t
      → HasLimit r (if b then locks.with_owner t Exclusive (locks.without_owner t Upgradable s)
      else locks.pending_for t true (locks.without_owner t Upgradable s))
  upgrades true e n = grind (arith, nat_tests, c.exclusive_alone, c.pending_alone)
  upgrades false e n = grind (arith, nat_tests, c.exclusive_alone, c.pending_alone)

  rolls : (p : Pending) → s.pending ≡ Some p → (b : Bool) → p.falls_back ≡ b
      → HasLimit r (if b then locks.with_owner t Upgradable (record s { pending = None }) else record s
      { pending = None })
  rolls p e true f = grind (arith, c.pending_alone)
  rolls p e false f = grind (arith, c.pending_alone)

  rolls_by : (o : Option Pending) → s.pending ≡ o
      → HasLimit r (locks.falling_back t o (record s { pending = None }))
  rolls_by None e = grind arith
  rolls_by (Some p) e = rolls p e p.falls_back refl

  once_keeps : (case : OnceCase) → HasLimit r (once_after case s t)
  once_keeps (Start forced) = record {
    top = h.top;
    normal = h.normal;
    falls = h.falls;
    falls_normal = h.falls_normal;
  }
  once_keeps Finish = record {
    top = h.top;
    normal = h.normal;
    falls = h.falls;
    falls_normal = h.falls_normal;
  }
  once_keeps Fail = record { top = h.top; normal = h.normal; falls = h.falls; falls_normal = h.falls_normal }
  once_keeps (Rest wanted forced) = record {
    top = h.top;
    normal = h.normal;
    falls = h.falls;
    falls_normal = h.falls_normal;
  }
  once_keeps TakeAll = record {
    top = h.top;
    normal = h.normal;
    falls = h.falls;
    falls_normal = h.falls_normal;
  }

  keeps : (case : LockCase) → Needs r case s t → (IsHandOff case → ⊥)
      → HasLimit r (locks.after_case r case s t)
  keeps (Enter Shared) n other = grind (arith, one_more s.shared t there)
  keeps (Enter Upgradable) n other = grind arith
  keeps (Enter Exclusive) n other = grind arith
  keeps Pend n other = grind arith
  keeps Settle n other = grind arith
  keeps (Leave Shared) n other = grind (arith, fewer_share s.shared t)
  keeps (Leave Upgradable) n other = grind arith
  keeps (Leave Exclusive) n other = grind arith
  keeps (Convert Exclusive Shared) n other = grind (arith, one_more s.shared t there, c.exclusive_alone t)
  keeps (Convert Exclusive Upgradable) n other = grind (arith, c.exclusive_alone t)
  keeps (Convert Upgradable Shared) n other = grind (arith, one_more s.shared t there)
  keeps (Convert Upgradable Exclusive) n other = upgrades (readers s == 0) refl n
  keeps Rollback n other = rolls_by s.pending refl
  keeps (HandOff x y) n other = absurd (other tt)
  keeps (OfOnce case) n other = once_keeps case
  keeps case n other = grind arith

pub limit_kept : LimitKept
limit_kept r case s t rw_sort there some c h n other = keeps r s t there some c h case n other
