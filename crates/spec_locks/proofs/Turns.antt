-- One thread changes a lock of the lot, and what it does itself: what holds between steps holds again.
use Rattle.std.proofs.Common.{ℕ, Bool, true, false, Some, None, ◌≡◌, ◌≢◌, ◌≤◌, ◌⊎◌, inl, inr, [], refl, sym}
use Rattle.std.proofs.Common.{◌∙◌}
use Rattle.std.proofs.lemmas.Bool.{cases_eq}
use Rattle.spec_locks.specs.Locks.{Taken, Mutex, Rules, IsLockState, standing, readers}
use Rattle.spec_locks.specs.Sites.{Line, Main, Second, Claim, Role, Site, IsSite, IsEmpty, IsOpen}
use Rattle.spec_locks.specs.Sites.{IsDebtorRole, LooksAfter, Holds, is_full, counts_taken}

-- The conditions on a step of thread t: it leads from s to v, and what t does goes from d to d2.
-- They speak of t alone, and of no other thread's doing.
pub record Local (r : Rules) (s v : Site) (t : ℕ) (d d2 : Role) : Type 0 where
  pub state : IsLockState r v.lock
  pub parked : v.lock.queue ≢ [] → (v.parked ≡ true)
      ⊎ ((d2.bit_pending ≡ true) ⊎ ((s.lock.queue ≢ []) × (s.parked ≡ false) × (d.bit_pending ≡ false)))
  -- the bit stays where waiters may be brought: to a mutex, by a thread that is inside
  pub bit_stays : s.parked ≡ true → (v.parked ≡ true) ⊎ ((d.inside ≡ Some Main) ⊎ (r.sort ≢ Mutex))
  pub aside_parked : v.lock.aside ≢ None → v.aside_parked ≡ true
  pub full : is_full r v.lock ≡ true → v.filled ≡ true
  pub filled : s.filled ≡ true → v.filled ≡ true
  -- the thread goes into a free section, and a line fills up only by a thread that is inside
  pub inside : (m : Line) → d2.inside ≡ Some m → (d.inside ≡ Some m) ⊎ ((u : ℕ) → (s.role u).inside ≢ Some m)
  pub fills : (m : Line) → IsEmpty s.lock m → IsEmpty v.lock m ⊎ (d.inside ≡ Some m)
  -- the claims of the thread about itself are true
  pub emptied : (m : Line) → d2.empty ≡ Some m → (d2.inside ≡ Some m) × IsEmpty v.lock m
  pub covered : d2.owes_taken ≡ true → (d2.inside ≡ Some Main) × (d2.has_taken ≡ true)
      × (v.lock.queue ≢ [] → (u : ℕ) × (counts_taken r.sort t (v.lock.taken u) ≡ true))
  pub brought : d2.will_bring ≡ true → (d2.inside ≡ Some Main) × (v.parked ≡ true) × (r.sort ≡ Mutex)
  pub setting : d2.bit_pending ≡ true → LooksAfter r.sort d2
  pub held : (c : Claim) → d2.claims ≡ Some c → Holds v.lock t c
  pub unwoken : 1 ≤ standing t v.lock → d2.retries ≡ None
  -- nobody else loses what it has, or comes to stand while it tries again
  pub others_stand : (u : ℕ) → u ≢ t → 1 ≤ standing u v.lock → (1 ≤ standing u s.lock)
      ⊎ ((s.role u).retries ≡ None)
  pub others_hold : (u : ℕ) (c : Claim) → u ≢ t → Holds s.lock u c → Holds v.lock u c
  pub others_carry : (x u : ℕ) → u ≢ t → counts_taken r.sort u (s.lock.taken x) ≡ true
      → counts_taken r.sort u (v.lock.taken x) ≡ true
  pub taken_by : (x : ℕ) (h : Taken) → v.lock.taken x ≡ Some h → ((h.by ≡ t) × (d2.has_taken ≡ true))
      ⊎ ((h.by ≢ t) × (s.lock.taken x ≡ Some h))
  -- a thread that is forgotten by it is another's
  pub main : (v.lock.queue ≢ []) ⊎ (d2.will_bring ≡ true) → IsOpen r.sort v.lock → v.filled ≡ false
      → IsDebtorRole r.sort d2 ⊎ ((((s.lock.queue ≢ []) ⊎ (d.will_bring ≡ true)) × IsOpen r.sort s.lock
      × (IsDebtorRole r.sort d → IsDebtorRole r.sort d2)) ⊎ ((s.lock.queue ≢ []) × (s.parked ≡ false)
      × (d.bit_pending ≡ false)))
  -- nor a thread that is to be brought by another, inside the main section
  pub main_brought : s.parked ≡ true → d.inside ≢ Some Main → IsOpen r.sort v.lock → v.filled ≡ false
      → IsDebtorRole r.sort d2 ⊎ (IsOpen r.sort s.lock × (IsDebtorRole r.sort d → IsDebtorRole r.sort d2))
  pub second : v.lock.aside ≢ None → readers v.lock ≡ 0 → (d2.wakes ≡ Some Second)
      ⊎ ((s.lock.aside ≢ None) × (readers s.lock ≡ 0) × (d.wakes ≢ Some Second))

-- g is f, but for x at i
pub record Changed {A : Type 0} (f g : ℕ → A) (i : ℕ) (x : A) : Type 0 where
  pub here : g i ≡ x
  pub other : (j : ℕ) → j ≢ i → g j ≡ f j

module _ (r : Rules) (s v : Site) (t : ℕ) (d d2 : Role) (h : IsSite r s) (is : s.role t ≡ d)
    (role : Changed s.role v.role t d2) (local : Local r s v t d d2) where
  -- nobody else is inside where t is
  apart : (u : ℕ) (m : Line) → u ≢ t → (s.role u).inside ≡ Some m → (v.role t).inside ≡ Some m → ⊥
  apart u m ne i j = elim (local.inside m (rw role.here at j)) [
    | inl k ↦ ne (h.alone u t m i (rw is k))
    | inr free ↦ free u i
  ]

  -- a line that another has seen empty stays so
  stays_empty : (u : ℕ) (m : Line) → u ≢ t → (s.role u).inside ≡ Some m → IsEmpty s.lock m → IsEmpty v.lock m
  stays_empty u m ne i e = elim (local.fills m e) [
    | inl k ↦ k
    | inr k ↦ absurd (ne (h.alone u t m i (rw is k)))
  ]

  still_alone : (u x : ℕ) (m : Line) → (v.role u).inside ≡ Some m → (v.role x).inside ≡ Some m → u ≡ x
  still_alone u x m i j = elim (cases_eq u t) [
    | inl e ↦ elim (cases_eq x t) [
      | inl f ↦ e ∙ sym f
      | inr ne ↦ absurd (apart x m ne (rw (role.other x ne) at j) (rw e at i))
    ]
    | inr ne ↦ elim (cases_eq x t) [
      | inl f ↦ absurd (apart u m ne (rw (role.other u ne) at i) (rw f at j))
      | inr nx ↦ h.alone u x m (rw (role.other u ne) at i) (rw (role.other x nx) at j)
    ]
  ]

  still_emptied : (u : ℕ) (m : Line) → (v.role u).empty ≡ Some m → ((v.role u).inside ≡ Some m)
      × IsEmpty v.lock m
  still_emptied u m e = elim (cases_eq u t) [
    | inl f ↦ rw (f, role.here) (local.emptied m (rw (f, role.here) at e))
    | inr ne ↦ let was = h.emptied u m (rw (role.other u ne) at e) in rw (role.other u ne) (
      was.0,
      stays_empty u m ne was.0 was.1,
    )
  ]

  -- another that took waiters is inside, so t can't have filled the line
  hands_on : (u : ℕ) → u ≢ t → (s.role u).owes_taken ≡ true → v.lock.queue ≢ [] → (x : ℕ)
      × (counts_taken r.sort u (v.lock.taken x) ≡ true)
  hands_on u ne c left =
      let was = h.covered u c in
      let one = was.2 (λ none. left (stays_empty u Main ne was.0 none)) in
      (one.0, local.others_carry one.0 u ne one.1)

  still_covered : (u : ℕ) → (v.role u).owes_taken ≡ true → ((v.role u).inside ≡ Some Main)
      × ((v.role u).has_taken ≡ true) × (v.lock.queue ≢ [] → (x : ℕ)
      × (counts_taken r.sort u (v.lock.taken x) ≡ true))
  still_covered u c = elim (cases_eq u t) [
    | inl f ↦ rw (f, role.here) (local.covered (rw (f, role.here) at c))
    | inr ne ↦ let was = h.covered u (rw (role.other u ne) at c) in rw (role.other u ne) (
      was.0,
      was.1,
      hands_on u ne (rw (role.other u ne) at c),
    )
  ]

  still_carried : (x : ℕ) (a : Taken) → v.lock.taken x ≡ Some a → (v.role a.by).has_taken ≡ true
  still_carried x a e = elim (local.taken_by x a e) [
    | inl k ↦ rw (k.0, role.here) k.1
    | inr k ↦ rw (role.other a.by k.0) (h.carried x a k.1)
  ]

  still_brought : (u : ℕ) → (v.role u).will_bring ≡ true → ((v.role u).inside ≡ Some Main) × (v.parked ≡ true)
      × (r.sort ≡ Mutex)
  still_brought u e = elim (cases_eq u t) [
    | inl f ↦ rw (f, role.here) (local.brought (rw (f, role.here) at e))
    | inr ne ↦ let was = h.brought u (rw (role.other u ne) at e) in rw (role.other u ne) (
      was.0,
      elim (local.bit_stays was.1) [
        | inl k ↦ k
        | inr (inl k) ↦ absurd (ne (h.alone u t Main was.0 (rw is k)))
        | inr (inr k) ↦ absurd (k was.2)
      ],
      was.2,
    )
  ]

  still_setting : (u : ℕ) → (v.role u).bit_pending ≡ true → LooksAfter r.sort (v.role u)
  still_setting u e = elim (cases_eq u t) [
    | inl f ↦ rw (f, role.here) (local.setting (rw (f, role.here) at e))
    | inr ne ↦ rw (role.other u ne) (h.setting u (rw (role.other u ne) at e))
  ]

  -- where the bit is clear beside a waiter, and t is not the one that sets it, another is
  other_sets : s.lock.queue ≢ [] → s.parked ≡ false → d.bit_pending ≡ false → (u : ℕ) × ((v.role u).bit_pending ≡ true)
  other_sets left clear none = elim (h.parked left) [
    | inl k ↦ absurd (let g = k in cc)
    | inr one ↦ elim (cases_eq one.0 t) [
      | inl e ↦ absurd (let g : d.bit_pending ≡ true = rw (e, is) at one.1 in cc)
      | inr ne ↦ (one.0, rw (role.other one.0 ne) one.1)
    ]
  ]

  still_parked : v.lock.queue ≢ [] → (v.parked ≡ true) ⊎ ((u : ℕ) × ((v.role u).bit_pending ≡ true))
  still_parked left = elim (local.parked left) [
    | inl k ↦ inl k
    | inr (inl k) ↦ inr (t, rw role.here k)
    | inr (inr k) ↦ inr (other_sets k.0 k.1 k.2)
  ]

  still_held : (u : ℕ) (c : Claim) → (v.role u).claims ≡ Some c → Holds v.lock u c
  still_held u c e = elim (cases_eq u t) [
    | inl f ↦ rw f (local.held c (rw (f, role.here) at e))
    | inr ne ↦ local.others_hold u c ne (h.held u c (rw (role.other u ne) at e))
  ]

  still_unwoken : (u : ℕ) → 1 ≤ standing u v.lock → (v.role u).retries ≡ None
  still_unwoken u e = elim (cases_eq u t) [
    | inl f ↦ rw (f, role.here) (local.unwoken (rw f at e))
    | inr ne ↦ rw (role.other u ne) (elim (local.others_stand u ne e) [ inl k ↦ h.unwoken u k | inr k ↦ k ])
  ]

  -- a debtor is one still
  other_debtor : ((u : ℕ) × IsDebtorRole r.sort (s.role u)) → (IsDebtorRole r.sort d → IsDebtorRole r.sort d2)
      → (u : ℕ) × IsDebtorRole r.sort (v.role u)
  other_debtor one still = elim (cases_eq one.0 t) [
    | inl e ↦ (t, rw role.here (still (rw (e, is) at one.1)))
    | inr ne ↦ (one.0, rw (role.other one.0 ne) one.1)
  ]

  unfilled : v.filled ≡ false → s.filled ≡ false
  unfilled f = either s.filled refl
    where
      either : (b : Bool) → s.filled ≡ b → b ≡ false
      either false e = refl
      either true e = absurd (let g = local.filled e in cc)

  awaited : (s.lock.queue ≢ []) ⊎ (d.will_bring ≡ true) → (s.lock.queue ≢ [])
      ⊎ ((u : ℕ) × ((s.role u).will_bring ≡ true))
  awaited (inl k) = inl k
  awaited (inr k) = inr (t, rw is k)

  -- a thread that looks after the line is a debtor
  in_debt : (e : Role) → LooksAfter r.sort e → IsDebtorRole r.sort e
  in_debt e (inl owes_taken) = inr (inl owes_taken)
  in_debt e (inr wakes) = inl wakes.1

  own_main : (v.lock.queue ≢ []) ⊎ (d2.will_bring ≡ true) → IsOpen r.sort v.lock → v.filled ≡ false → (u : ℕ)
      × IsDebtorRole r.sort (v.role u)
  own_main one free room = elim (local.main one free room) [
    | inl own ↦ (t, rw role.here own)
    | inr (inl k) ↦ other_debtor (h.main (awaited k.0) k.1 (unfilled room)) k.2
    | inr (inr k) ↦ let bit_pending = other_sets k.0 k.1 k.2
        in (bit_pending.0, in_debt (v.role bit_pending.0) (still_setting bit_pending.0 bit_pending.1))
  ]

  still_main : (v.lock.queue ≢ []) ⊎ ((u : ℕ) × ((v.role u).will_bring ≡ true)) → IsOpen r.sort v.lock
      → v.filled ≡ false → (u : ℕ) × IsDebtorRole r.sort (v.role u)
  still_main (inl left) free room = own_main (inl left) free room
  still_main (inr one) free room = elim (cases_eq one.0 t) [
    | inl e ↦ own_main (inr (rw (e, role.here) at one.1)) free room
    | inr ne ↦
        let will_bring = rw (role.other one.0 ne) at one.1 in
        let was = h.brought one.0 will_bring in
        elim (local.main_brought was.1 (λ k. ne (h.alone one.0 t Main was.0 (rw is k))) free room) [
          | inl own ↦ (t, rw role.here own)
          | inr k ↦ other_debtor (h.main (inr (one.0, will_bring)) k.0 (unfilled room)) k.1
        ]
  ]

  other_waker : ((u : ℕ) × ((s.role u).wakes ≡ Some Second)) → d.wakes ≢ Some Second → (u : ℕ)
      × ((v.role u).wakes ≡ Some Second)
  other_waker one gone = elim (cases_eq one.0 t) [
    | inl e ↦ absurd (gone (rw (e, is) at one.1))
    | inr ne ↦ (one.0, rw (role.other one.0 ne) one.1)
  ]

  still_second : v.lock.aside ≢ None → readers v.lock ≡ 0 → (u : ℕ) × ((v.role u).wakes ≡ Some Second)
  still_second stands none = elim (local.second stands none) [
    | inl own ↦ (t, rw role.here own)
    | inr k ↦ other_waker (h.second k.0 k.1) k.2
  ]

  pub turn_keeps : IsSite r v
  turn_keeps = record {
    state = local.state;
    alone = still_alone;
    parked = still_parked;
    aside_parked = local.aside_parked;
    emptied = still_emptied;
    covered = still_covered;
    carried = still_carried;
    brought = still_brought;
    setting = still_setting;
    held = still_held;
    unwoken = still_unwoken;
    full = local.full;
    main = still_main;
    second = still_second;
  }
