-- A lock that was full once is as good as one that never was, where nobody waited as it ceased to be full.
use Rattle.std.proofs.Common.{ℕ, Bool, true, false, ◌≡◌, ◌≢◌, ◌⊎◌, [], inl, inr, refl, sym, ◌∙◌, ap, subst}
use Rattle.spec_locks.specs.Locks.{LockState, Rules, Sort, Semaphore, OfOnce, putting, without_owner}
use Rattle.core_base.specs.declared.wants.Want.TheVariants.{Exclusive, Shared}
use Rattle.spec_locks.specs.Onces.{Start, Finish, Fail, Rest, TakeAll}
use Rattle.spec_locks.specs.Locks.{Enter, Leave, Convert, HandOff}
use Rattle.spec_locks.specs.Sites.{Role, Site, IsSite, Deed, Mark, Clear, Bring, Case, Main, Second}
use Rattle.spec_locks.specs.Sites.{has_readers, is_full, after_deed, Needed, IsOpen, IsDebtorRole}
use Rattle.spec_locks.specs.Sites.{shares_less}
use Rattle.spec_locks.proofs.SiteKeeps.{deed_keeps}
use Rattle.lot_world.specs.Drained.{EachDeedKeepsNow}

-- a site with another memory of having been full
abbrev pub with_filled : Bool → Site → Site
with_filled b s = record s { filled = b }

-- the needs of a deed don't speak of that memory
pub needed_all : (r : Rules) (d : Deed) (s : Site) (t : ℕ) (b : Bool) → Needed r d s t
    → Needed r d (with_filled b s) t
needed_all r (Case (Enter x)) s t b n = n
needed_all r (Case (Leave x)) s t b n = n
needed_all r (Case (OfOnce (Start forced))) s t b n = n
needed_all r (Case (OfOnce Finish)) s t b n = n
needed_all r (Case (OfOnce Fail)) s t b n = n
needed_all r (Case (OfOnce (Rest x forced))) s t b n = n
needed_all r (Case (OfOnce TakeAll)) s t b n = n
needed_all r (Case case) s t b n = n
needed_all r (Bring taken moved) s t b n = n
needed_all r d s t b n = n

-- nor does what it leads to, but for that memory
shares_less_all : (sort : Sort) (s : Site) (d : Role) (b : Bool) → shares_less sort (with_filled b s) d
    ≡ shares_less sort s d
shares_less_all Semaphore s d b = refl
shares_less_all sort s d b = refl

pub led : (r : Rules) (d : Deed) (s : Site) (t : ℕ) (b c : Bool)
    → with_filled c (after_deed r d (with_filled b s) t) ≡ with_filled c (after_deed r d s t)
led r (Mark Main) s t b c = refl
led r (Mark Second) s t b c = refl
led r (Clear Main) s t b c = refl
led r (Clear Second) s t b c = refl
led r (Case (Leave Shared)) s t b c = λ i. record {
  lock = without_owner t Shared s.lock;
  parked = s.parked;
  aside_parked = s.aside_parked;
  filled = c;
  role = putting s.role t (shares_less_all r.sort s (s.role t) b i);
}
led r (Case (Leave x)) s t b c = refl
led r (Case (Convert x Exclusive)) s t b c = refl
led r (Case (Convert x y)) s t b c = refl
led r (Case (HandOff Exclusive x)) s t b c = refl
led r (Case (HandOff y x)) s t b c = refl
led r (Case (OfOnce (Start forced))) s t b c = refl
led r (Case (OfOnce Finish)) s t b c = refl
led r (Case (OfOnce Fail)) s t b c = refl
led r (Case (OfOnce (Rest x forced))) s t b c = refl
led r (Case (OfOnce TakeAll)) s t b c = refl
led r (Case case) s t b c = refl
led r d s t b c = refl

led_lock : (r : Rules) (d : Deed) (s : Site) (t : ℕ) (b : Bool) → (after_deed r d (with_filled b s) t).lock
    ≡ (after_deed r d s t).lock
led_lock r d s t b = ap (λ (x : Site). x.lock) (led r d s t b true)

-- the note before, and the note now
noted : (r : Rules) (d : Deed) (s : Site) (t : ℕ) (b : Bool) → b ≡ false → is_full r (after_deed r d s t).lock
    ≡ false
    → (after_deed r d (with_filled b s) t).filled ≡ false
noted r (Mark Main) s t b e f = e
noted r (Mark Second) s t b e f = e
noted r (Clear Main) s t b e f = e
noted r (Clear Second) s t b e f = e
noted r (Case case) s t b e f = rw e f
noted r d s t b e f = e

-- the memory may be another where the lock is not full, or where nobody waits
pub another : (r : Rules) (s : Site) (b : Bool) → IsSite r s → (is_full r s.lock ≡ true → b ≡ true)
    → (b ≡ false → (s.filled ≡ false) ⊎ ((s.lock.queue ≡ []) × (has_readers r.sort ≡ true)))
    → IsSite r (with_filled b s)
another r s b h full spare = record {
  state = h.state;
  alone = h.alone;
  parked = h.parked;
  aside_parked = h.aside_parked;
  emptied = h.emptied;
  covered = h.covered;
  carried = h.carried;
  brought = h.brought;
  setting = h.setting;
  held = h.held;
  unwoken = h.unwoken;
  full = full;
  main = λ some is_open room. by_spare some is_open (spare room);
  second = h.second;
}
  where
    by_spare : (s.lock.queue ≢ []) ⊎ ((t : ℕ) × ((s.role t).will_bring ≡ true)) → IsOpen r.sort s.lock
        → (s.filled ≡ false) ⊎ ((s.lock.queue ≡ []) × (has_readers r.sort ≡ true))
        → (t : ℕ) × IsDebtorRole r.sort (s.role t)
    by_spare some is_open (inl room) = h.main some is_open room
    by_spare (inl some) is_open (inr none) = absurd (some none.0)
    by_spare (inr will_bring) is_open (inr none) = absurd (let mutex = (h.brought will_bring.0 will_bring.1).2
        in let readers = none.1 in let g : has_readers r.sort ≡ false = ap has_readers mutex in cc)

pub keeps_now : EachDeedKeepsNow
keeps_now r d s t h n empty =
    subst (IsSite r) (led r d s t b now) (another r next now after (λ e. sym same ∙ e) spare)
  where
    b : Bool
    b = is_full r s.lock

    next : Site
    next = after_deed r d (with_filled b s) t

    now : Bool
    now = is_full r (after_deed r d s t).lock

    after : IsSite r next
    after = deed_keeps r d (with_filled b s) t h (needed_all r d s t b n)

    same : is_full r next.lock ≡ now
    same = ap (is_full r) (led_lock r d s t b)

    readers_of : (c : Bool) → has_readers r.sort ≡ c → b ≡ true → has_readers r.sort ≡ true
    readers_of true e f = e
    readers_of false e f = absurd (let g : b ≡ false = rw e refl in cc)

    by_full : (c : Bool) → b ≡ c → now ≡ false → (next.filled ≡ false) ⊎ ((next.lock.queue ≡ [])
        × (has_readers r.sort ≡ true))
    by_full true e f = inr (
      ap (λ (x : LockState). x.queue) (led_lock r d s t b) ∙ empty e,
      readers_of (has_readers r.sort) refl e,
    )
    by_full false e f = inl (noted r d s t b e f)

    spare : now ≡ false → (next.filled ≡ false) ⊎ ((next.lock.queue ≡ []) × (has_readers r.sort ≡ true))
    spare f = by_full b refl f
