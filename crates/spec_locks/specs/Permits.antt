-- At a semaphore at least as many threads look after the line as permits are free.
use Rattle.std.specs.Prelude.{ℕ, true, Option, Some, None, zero, suc, false, ◌+◌, ◌<◌, ◌≤◌, ◌≡◌, ◌≢◌, ◌⊎◌, []}
use Rattle.std.specs.Prelude.{length}
use Rattle.spec_locks.specs.Locks.{Semaphore, Rules, readers, standing, one_if_some}
use Rattle.spec_locks.specs.Sites.{Line, Main, Role, Site, IsSite, Deed, Needed, after_deed}
use Rattle.spec_locks.specs.Codes.{bit}

-- the sum of the first n values
abbrev pub sum_to : ℕ → (ℕ → ℕ) → ℕ
sum_to zero f = 0
sum_to (suc n) f = sum_to n f + f n

abbrev pub wakes_main : Option Line → ℕ
wakes_main (Some Main) = 1
wakes_main line = 0

-- a thread is to wake the next, has it in hand, or tries again
abbrev pub debt : Role → ℕ
debt d = wakes_main d.wakes + bit d.owes_taken + one_if_some d.retries

abbrev pub debts : Site → ℕ
debts s = sum_to (length s.lock.shared) (λ t. debt (s.role t))

pub record HasPermits (r : Rules) (s : Site) : Type 0 where
  -- while somebody waits, those that hold a permit and those that look after the line are no fewer
  -- than the permits
  pub enough : s.lock.queue ≢ [] → r.limit ≤ readers s.lock + debts s
  -- nobody brings waiters from elsewhere
  pub unset : (t : ℕ) → (s.role t).bit_pending ≡ false
  -- each waiter is a thread of the lot
  pub known : (u : ℕ) → 1 ≤ standing u s.lock → u < length s.lock.shared

abbrev pub EachDeedKeepsPermits : Type 0
EachDeedKeepsPermits =
    (r : Rules) (deed : Deed) (s : Site) (t : ℕ) → r.sort ≡ Semaphore → t < length s.lock.shared
    → IsSite r s
    → HasPermits r s → Needed r deed s t → HasPermits r (after_deed r deed s t)

-- each thread that waits while a permit is free is looked after
abbrev pub PermitsAreLookedAfter : Type 0
PermitsAreLookedAfter = (r : Rules) (s : Site) → HasPermits r s → s.lock.queue ≢ []
    → readers s.lock < r.limit
    → (t : ℕ) × (((s.role t).wakes ≡ Some Main)
    ⊎ (((s.role t).owes_taken ≡ true) ⊎ ((s.role t).retries ≢ None)))
