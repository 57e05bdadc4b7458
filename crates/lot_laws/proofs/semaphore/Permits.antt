-- Deeds of threads of the world keep what holds of a semaphore's permits.
use Rattle.lot_laws.proofs.Imports
use Imports.{ℕ, ◌≡◌, ◌<◌, List, [], ◌∷◌, length, refl, sym, ◌∙◌, subst, Rules, HasPermits, Deed, Site, IsSite}
use Imports.{after_deed, IsTended, semaphore, one_keeps, same_sharers, acts, ActsNeeded, AllBy, after_acts}
use Rattle.spec_locks.specs.Locks.{Semaphore}
use Rattle.lot_laws.specs.ThreadDeeds as deeds

-- a thread's own deeds are its own
pub all_by : (n t : ℕ) (ds : List Deed) → t < n → AllBy n (acts t ds)
all_by n t [] lt = tt
all_by n t (d ∷ ds) lt = (lt, all_by n t ds lt)

acts_tend : (permits threads : ℕ) (ds : List deeds.Act) (s : Site) → IsTended permits s → length s.lock.shared
    ≡ threads
    → AllBy threads ds → ActsNeeded (semaphore permits) ds s
    → IsTended permits (after_acts (semaphore permits) ds s)
acts_tend permits threads [] s h e by n = h
acts_tend permits threads (a ∷ ds) s h e by n =
    let lt : a.by < length s.lock.shared = subst (λ m. a.by < m) (sym e) by.0 in
    acts_tend permits threads ds (after_deed (semaphore permits) a.deed s a.by)
    (one_keeps permits s a.by lt h a.deed n.0) (same_sharers permits s a.by lt h a.deed n.0 ∙ e) by.1 n.1

pub permits_by : (r : Rules) (threads : ℕ) (ds : List deeds.Act) (s : Site) → r.sort ≡ Semaphore → IsSite r s
    → HasPermits r s
    → length s.lock.shared ≡ threads → AllBy threads ds → ActsNeeded r ds s
    → HasPermits r (after_acts r ds s)
permits_by r threads ds s sort site permits e by needed =
    let is : semaphore r.limit ≡ r = (λ i. record { sort = sym sort i; limit = r.limit }) in
    subst (λ x. IsSite x s → HasPermits x s → ActsNeeded x ds s → HasPermits x (after_acts x ds s)) is
    (λ h k n. (acts_tend r.limit threads ds s (record {
      site = h;
      looked_after = k;
      few = h.state.within refl;
    }) e by n).looked_after) site permits needed
