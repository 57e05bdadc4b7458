-- A lock all of whose threads rest, and of which nobody owns anything, is empty.
use Rattle.std.proofs.Common.{ℕ, false, Option, Some, None, ◌≡◌, List, [], ◌∷◌, inl, inr, refl, sym, ◌∙◌, ap}
use Rattle.spec_locks.specs.Locks.{Pending, Queued, Rules, Sort, Mutex, Normal, Recursive, Taken}
use Rattle.spec_locks.specs.Sites.{Role, Site, IsSite, IsOpen, IsDebtorRole, counts_some}
use Rattle.lot_world.specs.Drained.{IsResting, OwnsNothing, Drains, RestingIsEmpty}

-- a thread that rests looks after nobody
no_debtor : (sort : Sort) (d : Role) → IsResting d → IsDebtorRole sort d → ⊥
no_debtor sort d rest (inl e) = let f = rest.wakes in cc
no_debtor sort d rest (inr (inl e)) = let f = rest.owes_taken in cc
no_debtor sort d rest (inr (inr e)) = absurd (let f : counts_some sort d.retries ≡ false =
    ap (counts_some sort) rest.retries in cc)

module _ (r : Rules) (s : Site) (site : IsSite r s) (resting : (t : ℕ) → IsResting (s.role t))
    (none : OwnsNothing s.lock) where
  nobody_aside : (o : Option ℕ) → s.lock.aside ≡ o → s.lock.aside ≡ None
  nobody_aside None e = e
  nobody_aside (Some u) e = absurd (
      let wakes = site.second (λ h. let g : ◌≡◌ {A = Option ℕ} None (Some u) = sym h ∙ e in cc) none.readers
      in
      let rest = (resting wakes.0).wakes in
      let h = wakes.1 in cc)

  nobody_pending : s.lock.aside ≡ None → (o : Option Pending) → s.lock.pending ≡ o → s.lock.pending ≡ None
  nobody_pending away None e = e
  nobody_pending away (Some p) e = absurd (none.pending (λ h. let g : ◌≡◌ {A = Option Pending} None (Some p) =
      sym h ∙ e in cc) away)

  nobody_taken : (u : ℕ) (o : Option Taken) → s.lock.taken u ≡ o → s.lock.taken u ≡ None
  nobody_taken u None e = e
  nobody_taken u (Some h) e = absurd (let c = site.carried u h e in let n = (resting h.by).has_taken in cc)

  open_now : Drains r.sort → s.lock.pending ≡ None → IsOpen r.sort s.lock
  open_now drains away = by_sort r.sort drains
    where
      by_sort : (sort : Sort) → Drains sort → IsOpen sort s.lock
      by_sort Mutex h = none.exclusive
      by_sort Normal h = (none.exclusive, away, none.upgradable)
      by_sort Recursive h = (none.exclusive, away, none.upgradable)
      by_sort sort h = absurd h

  nobody_queued : IsOpen r.sort s.lock → s.filled ≡ false → (q : List Queued) → s.lock.queue ≡ q
      → s.lock.queue ≡ []
  nobody_queued is_open unfilled [] e = e
  nobody_queued is_open unfilled (x ∷ q) e = absurd (
      let debt = site.main (inl (λ h. let g : ◌≡◌ {A = List Queued} [] (x ∷ q) = sym h ∙ e in cc)) is_open
      unfilled in
      no_debtor r.sort (s.role debt.0) (resting debt.0) debt.1)

pub resting_is_empty : RestingIsEmpty
resting_is_empty r s site drains resting none unfilled =
    let aside = nobody_aside r s site resting none s.lock.aside refl in
    let away = nobody_pending r s site resting none aside s.lock.pending refl in
    record {
      queue = nobody_queued r s site resting none (open_now r s site resting none drains away) unfilled
          s.lock.queue refl;
      aside = aside;
      pending = away;
      taken = λ u. nobody_taken r s site resting none u (s.lock.taken u) refl;
    }
