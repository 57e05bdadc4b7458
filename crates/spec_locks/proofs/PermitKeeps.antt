-- Each deed keeps the count of those that look after a semaphore's line.
use Rattle.std.proofs.Common.{ℕ, Bool, true, false, Option, Some, None, if◌then◌else◌, ◌==◌, ◌≡◌, ◌≢◌, ◌<◌}
use Rattle.std.proofs.Common.{◌≤◌, ◌+◌, ◌⊎◌, inl, inr, List, [], ◌∷◌, refl, ap, arith, length-set}
use Rattle.std.proofs.lemmas.Bool.{cases_eq, cases_lt}
use Rattle.std.proofs.lemmas.Bool.Decides.{nat_tests}
use Rattle.std.specs.Prelude.{zero, suc, length, slice_index}
use Rattle.std.proofs.lemmas.List.Sums.{sum_by-set}
use Rattle.core_base.specs.declared.wants.Want.{Want}
use Rattle.core_base.specs.declared.wants.Want.TheVariants.{Exclusive, Upgradable, Shared}
use Rattle.spec_locks.specs.Locks.{Queued, Taken, Sort, Mutex, Normal, Recursive, Semaphore, Once, Rules}
use Rattle.spec_locks.specs.Locks.{LockCase, OfOnce, Enter, Pend, Settle, Leave, Convert, Park, Aside}
use Rattle.spec_locks.specs.Locks.{TakeFirst, TakeAside, TakePicked, Wake, HandOff, Late, Rollback, Knows}
use Rattle.spec_locks.specs.Locks.{IsBlocked, readers, standing, times, one_if_thread, one_if_some, putting}
use Rattle.spec_locks.specs.Locks.{OfCondvar, SeeOwner, Condvar}
use Rattle.spec_locks.specs.Sites.{Line, Main, Second, Role, Site, IsSite, Begin, End, In, Out, Mark, Clear}
use Rattle.spec_locks.specs.Sites.{FindNobody, MarkOwned, MarkBrought, Send, LeaveLine, Bring, Case, Needed}
use Rattle.spec_locks.specs.Sites.{after_deed, done, case_role, idle, leaves, wakened, counts_taken}
use Rattle.spec_locks.specs.Codes.{bit}
use Rattle.spec_locks.specs.Permits.{sum_to, debt, debts, HasPermits, EachDeedKeepsPermits}
use Rattle.spec_locks.specs.Permits.{PermitsAreLookedAfter}
use Rattle.spec_locks.specs.Locks as locks
use Rattle.spec_locks.proofs.LockKeeps.{no_aside, times_append}
use Rattle.spec_locks.proofs.Hands.{without_fewer, kept_few}
use Rattle.spec_locks.proofs.SiteFacts.{fewer_share}
use Rattle.spec_locks.proofs.Turns.{Changed}

-- ---------------------------------------------------------------- sums

total_same : (n : ℕ) (f g : ℕ → ℕ) → ((u : ℕ) → u < n → g u ≡ f u) → sum_to n g ≡ sum_to n f
total_same zero f g same = refl
total_same (suc n) f g same = let a = total_same n f g (λ u lt. same u (omega arith)) in let b =
    same n (omega arith) in omega arith

total_changed : (n : ℕ) (f g : ℕ → ℕ) (t : ℕ) → t < n → ((u : ℕ) → u ≢ t → g u ≡ f u) → sum_to n g + f t
    ≡ sum_to n f + g t
total_changed zero f g t lt same = absurd (omega arith)
total_changed (suc n) f g t lt same = elim (cases_eq n t) [
  | inl e ↦ let a = total_same n f g (λ u k. same u (λ i. omega arith)) in let b : f n ≡ f t = ap f e
      in let d : g n ≡ g t = ap g e in omega arith
  | inr ne ↦ let a = total_changed n f g t (omega arith) same in let b = same n ne in omega arith
]

total_less : (n : ℕ) (f g : ℕ → ℕ) → ((u : ℕ) → f u ≤ g u) → sum_to n f ≤ sum_to n g
total_less zero f g less = omega arith
total_less (suc n) f g less = let a = total_less n f g less in let b = less n in omega arith

abbrev one_at : ℕ → ℕ → ℕ
one_at x u = if u == x then 1 else 0

-- one value is at most one less, and another, or the same, is one more
total_moved : (n : ℕ) (f g : ℕ → ℕ) (t x : ℕ) → t < n → x < n
    → ((u : ℕ) → f u + one_at x u ≤ g u + one_at t u) → sum_to n f ≤ sum_to n g
total_moved n f g t x lt xlt less =
    let a : sum_to n (λ u. f u + one_at x u) + f x ≡ sum_to n f + (f x + one_at x x) =
    total_changed n f (λ u. f u + one_at x u) x xlt (λ u ne. grind (arith, nat_tests)) in
    let b : sum_to n (λ u. g u + one_at t u) + g t ≡ sum_to n g + (g t + one_at t t) =
    total_changed n g (λ u. g u + one_at t u) t lt (λ u ne. grind (arith, nat_tests)) in
    let c = total_less n (λ u. f u + one_at x u) (λ u. g u + one_at t u) less in
    let d : one_at x x ≡ 1 = grind (arith, nat_tests) in
    let e : one_at t t ≡ 1 = grind (arith, nat_tests) in
    omega arith

some_of : (n : ℕ) (f : ℕ → ℕ) → 1 ≤ sum_to n f → (t : ℕ) × (1 ≤ f t)
some_of zero f one = absurd (omega arith)
some_of (suc n) f one = by_last (f n) refl (some_of n f)
  where
    by_last : (k : ℕ) → f n ≡ k → (1 ≤ sum_to n f → (t : ℕ) × (1 ≤ f t)) → (t : ℕ) × (1 ≤ f t)
    by_last zero e before = before (omega arith)
    by_last (suc k) e before = (n, omega arith)

-- ------------------------------------------------------------- one thread changes the lock, and what it does

module _ (r : Rules) (s : Site) (t : ℕ) (lt : t < length s.lock.shared) (h : IsSite r s) (p : HasPermits r s)
  where
    turns : (v : Site) (e : Role) → Changed s.role v.role t e → length v.lock.shared ≡ length s.lock.shared
        → (v.lock.queue ≢ [] → (r.limit ≤ readers v.lock) ⊎ ((s.lock.queue ≢ [])
        × (readers s.lock + debt (s.role t) ≤ readers v.lock + debt e)))
        → ((u : ℕ) → u ≢ t → 1 ≤ standing u v.lock → 1 ≤ standing u s.lock) → e.bit_pending ≡ false → HasPermits r v
    turns v e changed same enough stood unset = record {
      enough = λ left. elim (enough left) [
        | inl k ↦ omega arith
        | inr k ↦
            let a = p.enough k.0 in
            let b = total_changed (length s.lock.shared) (λ u. debt (s.role u)) (λ u. debt (v.role u)) t lt
            (λ u ne. ap debt (changed.other u ne)) in
            let d : debt (v.role t) ≡ debt e = ap debt changed.here in
            let f : debts v ≡ sum_to (length s.lock.shared) (λ u. debt (v.role u)) =
            ap (λ (n : ℕ). sum_to n (λ u. debt (v.role u))) same in
            let l = k.1 in
            omega arith
      ];
      unset = λ u. elim (cases_eq u t) [
        | inl f ↦ rw (f, changed.here) unset
        | inr ne ↦ rw (changed.other u ne) (p.unset u)
      ];
      known = λ u one. elim (cases_eq u t) [
        | inl e ↦ rw (e, same) lt
        | inr ne ↦ rw same (p.known u (stood u ne one))
      ];
    }

put_changed : {A : Type 0} (f : ℕ → A) (t : ℕ) (x : A) → Changed f (putting f t x) t x
put_changed f t x = record { here = grind (arith, nat_tests); other = λ j ne. grind (arith, nat_tests) }

module _ (r : Rules) (s : Site) (t : ℕ) (sort : r.sort ≡ Semaphore) (lt : t < length s.lock.shared)
    (h : IsSite r s) (p : HasPermits r s) where
  -- nobody owns more than a permit, and nobody stands aside
  plain : (s.lock.exclusive ≡ None) × (s.lock.pending ≡ None) × (s.lock.upgradable ≡ None)
      × (s.lock.aside ≡ None)
  plain =
      let a = h.state.unwritten (λ k. let g : Knows Semaphore Exclusive = rw sort at k in g) in
      let b = h.state.unpending (λ k. let g : Knows Semaphore Upgradable = rw sort at k in g) in
      (a, b.0, b.1, no_aside r s.lock h.state b.0)

  -- t does something else, and the lock stays
  does : (e : Role) (pk ap : Bool) → (s.lock.queue ≢ [] → debt (s.role t) ≤ debt e) → e.bit_pending ≡ false
      → HasPermits r (record s {
        parked = pk;
        aside_parked = ap;
        role = putting s.role t e;
      })
  does e pk ap more unset = turns r s t lt h p (record s {
    parked = pk;
    aside_parked = ap;
    role = putting s.role t e;
  }) e (put_changed s.role t e) refl (λ left. inr (left, let a = more left in omega arith)) (λ u ne one. one)
      unset

  acts : (c : LockCase) → length (locks.after_case r c s.lock t).shared ≡ length s.lock.shared
      → ((locks.after_case r c s.lock t).queue ≢ [] → (r.limit ≤ readers (locks.after_case r c s.lock t))
      ⊎ ((s.lock.queue ≢ []) × (readers s.lock + debt (s.role t) ≤ readers (locks.after_case r c s.lock t)
      + debt (case_role r.sort s (locks.after_case r c s.lock t) c (s.role t)))))
      → ((u : ℕ) → u ≢ t → 1 ≤ standing u (locks.after_case r c s.lock t) → 1 ≤ standing u s.lock)
      → (case_role r.sort s (locks.after_case r c s.lock t) c (s.role t)).bit_pending ≡ false
      → HasPermits r (after_deed r (Case c) s t)
  acts c same enough stood unset = turns r s t lt h p (done r c s t (locks.after_case r c s.lock t)) _
      (put_changed s.role t _) same enough stood unset

  no_debt : Needed r End s t → debt (s.role t) ≡ 0
  no_debt n = grind (arith, sort, h.covered t)

  ends : Needed r End s t → HasPermits r (after_deed r End s t)
  ends n = does idle s.parked s.aside_parked (λ left. let e = no_debt n in omega arith) refl

  finds : (m : Line) → Needed r (FindNobody m) s t → HasPermits r (after_deed r (FindNobody m) s t)
  finds Main n = does _ s.parked s.aside_parked (λ left. absurd (left n.2)) (p.unset t)
  finds Second n = does _ s.parked s.aside_parked (λ left. grind (arith, h.covered t)) (p.unset t)

  one_more : readers (locks.with_owner t Shared s.lock) ≡ readers s.lock + 1
  one_more = let e = sum_by-set (λ (n : ℕ). n) s.lock.shared t (slice_index s.lock.shared t + 1) 0 lt
      in omega arith

  entered_debt : debt (s.role t) ≤ 1 + debt (record (s.role t) { retries = None; claims = None })
  entered_debt = grind arith

  seen : s.lock.queue ≢ [] → s.parked ≡ true
  seen left = elim (h.parked left) [
    | inl k ↦ k
    | inr one ↦ absurd (let e = p.unset one.0 in let f = one.1 in cc)
  ]

  left_debt : (so : Sort) → so ≡ Semaphore → s.parked ≡ true → (s.role t).wakes ≡ None
      → debt (case_role so s (locks.without_owner t Shared s.lock) (Leave Shared) (s.role t)) ≡ 1
      + debt (s.role t)
  left_debt Semaphore e parked none = grind arith
  left_debt Mutex e parked none = absurd cc
  left_debt Normal e parked none = absurd cc
  left_debt Recursive e parked none = absurd cc
  left_debt Once e parked none = absurd cc
  left_debt Condvar e parked none = absurd cc

  full : (x : Want) → IsBlocked r s.lock x → r.limit ≤ readers s.lock
  full x blocked = elim (cases_lt (readers s.lock) r.limit) [
    | inl lt ↦ absurd (blocked.1 (rw sort lt))
    | inr past ↦ past
  ]

  unset_left : (so : Sort) → so ≡ Semaphore
      → (case_role so s (locks.without_owner t Shared s.lock) (Leave Shared) (s.role t)).bit_pending ≡ false
  unset_left Semaphore e = p.unset t
  unset_left Mutex e = p.unset t
  unset_left Normal e = p.unset t
  unset_left Recursive e = p.unset t
  unset_left Once e = p.unset t
  unset_left Condvar e = p.unset t

  some_first : (x : Queued) → (rest : List Queued) → s.lock.queue ≡ x ∷ rest → s.lock.queue ≢ []
  some_first x rest e = λ f. cc

  took : (x : Queued) → Needed r (Case (TakeFirst x)) s t → readers s.lock + debt (s.role t) ≤ readers s.lock
      + debt (case_role r.sort s (locks.after_case r (TakeFirst x) s.lock t) (TakeFirst x) (s.role t))
  took x n = let w = n.1.2 in let f = n.1.1 in grind (arith, h.covered t)

  cases_keep : (c : LockCase) → Needed r (Case c) s t → HasPermits r (after_deed r (Case c) s t)
  cases_keep (Enter Shared) n = acts (Enter Shared) (length-set s.lock.shared t _)
      (λ left. inr (left, let a = one_more in let b = entered_debt in omega arith)) (λ u ne one. one)
      (p.unset t)
  cases_keep (Leave Shared) n = acts (Leave Shared) (length-set s.lock.shared t _)
      (λ left. inr (
        left,
        let a = fewer_share s.lock.shared t n.0 in let b =
            left_debt r.sort sort (seen left) n.1 in omega arith,
      )) (λ u ne one. one) (unset_left r.sort sort)
  cases_keep (Park x) n = acts (Park x) refl (λ left. inl (full x n.0.0)) (λ u ne one. grind (
    arith,
    nat_tests,
    times_append,
  )) (p.unset t)
  cases_keep (TakeFirst x) n = acts (TakeFirst x) refl (λ left. inr (some_first x n.0.0.0 n.0.0.1, took x n))
      (λ u ne one. let e = n.0.0.1 in grind (arith, nat_tests)) (p.unset t)
  cases_keep Late n = acts Late refl (λ left. inr ((λ e. left (rw e refl)), omega arith)) (λ u ne one. let a =
      without_fewer u t s.lock.queue in grind (arith, nat_tests)) (p.unset t)
  cases_keep (Enter x) n = absurd (grind (arith, sort))
  cases_keep (Leave x) n = absurd (grind (arith, sort, plain))
  cases_keep Pend n = absurd (grind (arith, sort))
  cases_keep Settle n = absurd (grind (arith, plain))
  cases_keep (Convert x y) n = absurd (grind (arith, plain))
  cases_keep Aside n = absurd (grind (arith, plain))
  cases_keep (TakeAside u) n = absurd (grind (arith, plain))
  cases_keep (TakePicked start) n = absurd (grind (arith, sort))
  cases_keep Wake n = absurd n.1
  cases_keep (HandOff x successor) n = absurd (grind (arith, plain))
  cases_keep Rollback n = absurd (grind (arith, plain))
  cases_keep (OfOnce case) n = absurd (let e = n.0.0 in cc)
  cases_keep (OfCondvar case) n = absurd (let e = n.0.0 in cc)
  cases_keep (SeeOwner owned) n = absurd (let e = n.0.0 in cc)

  -- t leaves, and the thread that it has taken tries again: its debt goes to that one
  abbrev v : Site
  v = after_deed r Out s t

  wakened_more : (o : Option Taken) (d : Role) → debt d ≤ debt (wakened t o d)
  wakened_more None d = omega arith
  wakened_more (Some a) d = grind (arith, nat_tests)

  wakened_one : (o : Option Taken) (d : Role) → counts_taken r.sort t o ≡ true → d.retries ≡ None
      → debt (wakened t o d) ≡ debt d + 1
  wakened_one None d c e = absurd cc
  wakened_one (Some a) d c e = grind (arith, nat_tests)

  left_few : (u : ℕ) → debt (s.role u) ≤ debt (putting s.role t (leaves (s.role t)) u)
      + (if u == t then bit (s.role t).owes_taken else 0)
  left_few u = grind (arith, nat_tests)

  unset_out : (u : ℕ) → (v.role u).bit_pending ≡ false
  unset_out u = grind (arith, nat_tests, p.unset u)

  known_out : (u : ℕ) → 1 ≤ standing u v.lock → u < length s.lock.shared
  known_out u one = p.known u (let k = kept_few t (s.lock.taken u) in omega arith)

  same_debts : (s.role t).owes_taken ≡ false → debts s ≤ debts v
  same_debts e = total_less (length s.lock.shared) (λ u. debt (s.role u)) (λ u. debt (v.role u)) (λ u.
      let a = wakened_more (s.lock.taken u) (putting s.role t (leaves (s.role t)) u) in
      let b = left_few u in
      let z : (if u == t then bit (s.role t).owes_taken else 0) ≡ 0 = grind (arith, e) in
      omega arith)

  in_hand : (x : ℕ) → counts_taken r.sort t (s.lock.taken x) ≡ true → 1 ≤ standing x s.lock
  in_hand x c = by_hand (s.lock.taken x) refl
    where
      by_hand : (o : Option Taken) → s.lock.taken x ≡ o → 1 ≤ standing x s.lock
      by_hand None e = absurd (let g : counts_taken r.sort t None ≡ true = rw e at c in cc)
      by_hand (Some a) e = let g : standing x s.lock ≡ times x s.lock.queue + one_if_thread x s.lock.aside
          + 1 = ap (λ (o : Option Taken). times x s.lock.queue + one_if_thread x s.lock.aside + one_if_some o)
          e in omega arith

  moved_debts : (x : ℕ) → counts_taken r.sort t (s.lock.taken x) ≡ true → debts s ≤ debts v
  moved_debts x c = total_moved (length s.lock.shared) (λ u. debt (s.role u)) (λ u. debt (v.role u)) t x lt
      (p.known x (in_hand x c)) (λ u. each u)
    where
      few : (u : ℕ) → (if u == t then bit (s.role t).owes_taken else 0) ≤ one_at t u
      few u = grind arith

      each : (u : ℕ) → debt (s.role u) + one_at x u ≤ debt (v.role u) + one_at t u
      each u = elim (cases_eq u x) [
        | inl e ↦
            let a : debt (v.role u) ≡ debt (putting s.role t (leaves (s.role t)) u) + 1 =
            wakened_one (s.lock.taken u) (putting s.role t (leaves (s.role t)) u) (rw e c) (let w =
            h.unwoken x (in_hand x c) in grind (arith, nat_tests)) in
            let b = left_few u in
            let d = few u in
            let one : one_at x u ≡ 1 = grind (arith, nat_tests) in
            omega arith
        | inr ne ↦
            let a = wakened_more (s.lock.taken u) (putting s.role t (leaves (s.role t)) u) in
            let b = left_few u in
            let d = few u in
            let none : one_at x u ≡ 0 = grind (arith, nat_tests) in
            omega arith
      ]

  out_debts : s.lock.queue ≢ [] → (b : Bool) → (s.role t).owes_taken ≡ b → debts s ≤ debts v
  out_debts left false e = same_debts e
  out_debts left true e = let one = (h.covered t e).2 left in moved_debts one.0 one.1

  outs : HasPermits r v
  outs = record {
    enough = λ left. let a = p.enough left in let b = out_debts left (s.role t).owes_taken refl in omega arith;
    unset = unset_out;
    known = known_out;
  }

pub permits_kept : EachDeedKeepsPermits
permits_kept r (Begin c) s t sort lt h p n = does r s t sort lt h p _ s.parked s.aside_parked
    (λ left. omega arith) (p.unset t)
permits_kept r End s t sort lt h p n = ends r s t sort lt h p n
permits_kept r (In m) s t sort lt h p n = does r s t sort lt h p _ s.parked s.aside_parked
    (λ left. omega arith) (p.unset t)
permits_kept r MarkBrought s t sort lt h p n = does r s t sort lt h p _ true s.aside_parked
    (λ left. omega arith) refl
permits_kept r (Mark Main) s t sort lt h p n = record { enough = p.enough; unset = p.unset; known = p.known }
permits_kept r (Mark Second) s t sort lt h p n = record {
  enough = p.enough;
  unset = p.unset;
  known = p.known;
}
permits_kept r (Clear Main) s t sort lt h p n = does r s t sort lt h p _ false s.aside_parked
    (λ left. omega arith) (p.unset t)
permits_kept r (Clear Second) s t sort lt h p n = does r s t sort lt h p _ s.parked false
    (λ left. omega arith) (p.unset t)
permits_kept r (FindNobody m) s t sort lt h p n = finds r s t sort lt h p m n
permits_kept r MarkOwned s t sort lt h p n = does r s t sort lt h p _ true s.aside_parked
    (λ left. omega arith) (p.unset t)
permits_kept r (Bring taken moved) s t sort lt h p n = absurd (let a = n.0 in cc)
permits_kept r (Send all) s t sort lt h p n = absurd (let a = n.0 in cc)
permits_kept r LeaveLine s t sort lt h p n = absurd (let a = n.0 in cc)
permits_kept r Out s t sort lt h p n = outs r s t sort lt h p
permits_kept r (Case c) s t sort lt h p n = cases_keep r s t sort lt h p c n

pub looked_after : PermitsAreLookedAfter
looked_after r s p left free = by_debt one.0 one.1
  where
    one : (t : ℕ) × (1 ≤ debt (s.role t))
    one = some_of (length s.lock.shared) (λ t. debt (s.role t)) (let a = p.enough left in omega arith)

    by_debt : (t : ℕ) → 1 ≤ debt (s.role t) → (t : ℕ) × (((s.role t).wakes ≡ Some Main)
        ⊎ (((s.role t).owes_taken ≡ true) ⊎ ((s.role t).retries ≢ None)))
    by_debt t k = (t, grind arith)
