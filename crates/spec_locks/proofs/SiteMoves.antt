-- A notification, which moves waiters from one line to another, keeps what holds of both between steps.
use Rattle.std.proofs.Common.{ℕ, Bool, true, false, Option, Some, None, ◌≡◌, ◌≢◌, ◌≤◌, ◌+◌, ◌⊎◌, inl, inr}
use Rattle.std.proofs.Common.{List, [], ◌∷◌, ◌++◌, refl, sym, ap, arith}
use Rattle.std.proofs.lemmas.Bool.Decides.{nat_tests}
use Rattle.core_base.specs.declared.wants.Want.TheVariants.{Exclusive, Upgradable, Shared}
use Rattle.spec_locks.specs.Locks.{LockState, Queued, Taken, Rules, Late, IsLockState, KnowsAll, Mutex, times}
use Rattle.spec_locks.specs.Locks.{taking, standing, one_if_thread, one_if_some, readers, putting, Condvar}
use Rattle.spec_locks.specs.Locks.{left_after}
use Rattle.spec_locks.specs.Sites.{Line, Main, Second, Claim, Site, IsSite, Bring, Send, LeaveLine, Needed}
use Rattle.spec_locks.specs.Sites.{after_deed, IsEmpty, IsOpen, IsDebtorRole, bringing, Has, Pends, Runs, Ran}
use Rattle.spec_locks.specs.Sites.{Holds, counts_taken}
use Rattle.spec_locks.specs.Locks as locks
use Rattle.spec_locks.proofs.LockKeeps.{case_keeps, times_taking, times_append, known_append, known_taking}
use Rattle.spec_locks.proofs.Hands.{taking_others, taking_by, without_fewer}
use Rattle.spec_locks.proofs.Left.{left_fewer, left_keeps, left_none}
use Rattle.spec_locks.proofs.Turns.{Local, turn_keeps}
use Rattle.spec_locks.proofs.SiteFacts.{put_changed}

module _ (r : Rules) (s : Site) (t : ℕ) (h : IsSite r s) where
  -- a notification brings waiters
  module _ (gone moved : List Queued) (n : Needed r (Bring gone moved) s t) where
    abbrev brings_now : LockState
    brings_now = record s.lock { queue = s.lock.queue ++ moved; taken = taking t gone s.lock.taken }

    stands : (u : ℕ) → (standing u brings_now ≤ standing u s.lock + times u (gone ++ moved))
        × (times u (gone ++ moved) ≡ times u gone + times u moved)
    stands u =
        let a = times_append u s.lock.queue moved in
        let b = times_append u gone moved in
        let c = times_taking u t gone s.lock.taken in
        (omega arith, b)

    known : KnowsAll Mutex gone × KnowsAll Mutex moved
    known = (known_append Mutex gone moved).0 n.6

    brings_state : IsLockState r brings_now
    brings_state = let c = h.state in record {
      exclusive_alone = c.exclusive_alone;
      pending_alone = c.pending_alone;
      aside_pending = c.aside_pending;
      unshared = c.unshared;
      unpending = c.unpending;
      unwritten = c.unwritten;
      within = c.within;
      once = λ u. let a = (stands u).0 in let b = n.5 u in let c = h.state.once u in grind arith;
      known_queue = rw n.0 ((known_append Mutex s.lock.queue moved).1 (
        rw n.0 at h.state.known_queue,
        known.1,
      ));
      known_taken = λ u a e. rw n.0 (known_taking Mutex t gone s.lock.taken known.0
          (λ x b f. rw n.0 at (h.state.known_taken x b f)) u a e);
    }

    -- a thread that was in a hand isn't among those that come
    hands_kept : (x u : ℕ) → u ≢ t → counts_taken r.sort u (s.lock.taken x) ≡ true
        → counts_taken r.sort u (taking t gone s.lock.taken x) ≡ true
    hands_kept x u ne c = by_hand (s.lock.taken x) refl
      where
        by_hand : (o : Option Taken) → s.lock.taken x ≡ o
            → counts_taken r.sort u (taking t gone s.lock.taken x) ≡ true
        by_hand None e = absurd (let g : false ≡ true = rw e at c in cc)
        by_hand (Some a) e =
            let o : standing x s.lock ≡ times x s.lock.queue + one_if_thread x s.lock.aside + 1 =
            ap (λ (a : Option Taken). times x s.lock.queue + one_if_thread x s.lock.aside + one_if_some a)
            e in
            let b = n.5 x in
            let p = (stands x).1 in
            let absent : times x gone ≡ 0 = grind arith in
            rw (taking_others t x gone s.lock.taken absent) c

    -- the first of them is in t's hand
    first_in_hand : (xs : List Queued) → xs ≡ gone → xs ≢ [] → (u : ℕ)
        × (counts_taken r.sort t (taking t xs s.lock.taken u) ≡ true)
    first_in_hand [] e some = absurd (some refl)
    first_in_hand (x ∷ xs) e some =
        let a = n.5 x.thread in
        let p = (stands x.thread).1 in
        let one : times x.thread gone ≡ 1 + times x.thread xs = rw (← e) (grind (arith, nat_tests)) in
        let gone_once : times x.thread xs ≡ 0 = (let l = a.0 in omega arith) in (
          x.thread,
          rw (
            n.0,
            taking_others t x.thread xs (putting s.lock.taken x.thread
                (Some (record { by = t; want = x.want }))) gone_once,
          ) (grind (arith, nat_tests)),
        )

    not_covers : (s.role t).owes_taken ≡ true → ⊥
    not_covers c = let g = (h.covered t c).1 in let f = n.2 in cc

    not_sets : (s.role t).bit_pending ≡ true → ⊥
    not_sets k = elim (h.setting t k) [
      | inl owes_taken ↦ not_covers owes_taken
      | inr wakes ↦ let mutex = n.0 in let once = wakes.0 in cc
    ]

    still_bit_there : s.lock.queue ≢ [] → (s.parked ≡ true) ⊎ (((bringing gone moved (s.role t)).bit_pending ≡ true)
        ⊎ ((s.lock.queue ≢ []) × (s.parked ≡ false) × ((s.role t).bit_pending ≡ false)))
    still_bit_there left = grind (arith, not_sets)

    brings_local : Local r s (after_deed r (Bring gone moved) s t) t (s.role t)
        (bringing gone moved (s.role t))
    brings_local = record {
      state = brings_state;
      parked = λ e. bit_by gone refl moved refl e;
      bit_stays = λ e. inl e;
      aside_parked = h.aside_parked;
      full = h.full;
      filled = λ e. e;
      inside = λ m e. inl e;
      fills = λ m e. fills_by m e;
      emptied = λ m e. absurd cc;
      covered = λ c. (n.1, refl, λ left. first_in_hand gone refl (λ e. grind arith));
      brought = λ e. absurd cc;
      setting = λ e. grind arith;
      held = λ c e. grind (arith, h.held t c);
      unwoken = λ e. n.4;
      others_hold = λ u c ne e. grind arith;
      others_stand = λ u ne e. let a = (stands u).0 in let b = n.5 u in grind arith;
      others_carry = λ x u ne c. hands_kept x u ne c;
      taken_by = λ x a e. elim (taking_by t x gone s.lock.taken a e) [
        | inl k ↦ inl (k, refl)
        | inr k ↦
            grind (arith, h.carried x a k)
      ];
      main = λ e free room. debt_by (rw n.0 (let none : IsOpen Mutex brings_now = rw n.0 at free in none))
          gone refl;
      main_brought = λ e apart free room. absurd (apart n.1);
      second = λ e none. grind arith;
    }
      where
        fills_by : (m : Line) → IsEmpty s.lock m → IsEmpty brings_now m ⊎ ((s.role t).inside ≡ Some m)
        fills_by Main e = inr n.1
        fills_by Second e = inl e

        bit_by : (xs : List Queued) → xs ≡ gone → (ys : List Queued) → ys ≡ moved → s.lock.queue ++ moved ≢ []
            → (s.parked ≡ true) ⊎ (((bringing gone moved (s.role t)).bit_pending ≡ true)
            ⊎ ((s.lock.queue ≢ []) × (s.parked ≡ false) × ((s.role t).bit_pending ≡ false)))
        bit_by [] e ys f left = inl (h.brought t (n.7 (sym e))).1
        bit_by (x ∷ xs) e [] f left = still_bit_there (λ k. left (rw (k, ← f) refl))
        bit_by (x ∷ xs) e (y ∷ ys) f left = inr (inl (rw (← e, ← f) refl))

        debt_by : IsOpen r.sort s.lock → (xs : List Queued) → xs ≡ gone → IsDebtorRole r.sort
            (bringing gone moved (s.role t))
            ⊎ ((((s.lock.queue ≢ []) ⊎ ((s.role t).will_bring ≡ true)) × IsOpen r.sort s.lock
            × (IsDebtorRole r.sort (s.role t) → IsDebtorRole r.sort (bringing gone moved (s.role t))))
            ⊎ ((s.lock.queue ≢ []) × (s.parked ≡ false) × ((s.role t).bit_pending ≡ false)))
        debt_by free [] e = inr (inl (inr (n.7 (sym e)), free, λ debt. absurd (grind (arith, not_covers))))
        debt_by free (x ∷ xs) e = inl (inr (inl (rw (← e) refl)))

    pub bring_keeps : IsSite r (after_deed r (Bring gone moved) s t)
    bring_keeps = turn_keeps r s (after_deed r (Bring gone moved) s t) t (s.role t) _ h refl
        (put_changed s.role t _) brings_local

  -- the waiters that a notification moves leave the condition variable, where no way is barred
  pub send_keeps : (all : Bool) → Needed r (Send all) s t → IsSite r (after_deed r (Send all) s t)
  send_keeps all n = turn_keeps r s (after_deed r (Send all) s t) t (s.role t) (s.role t) h refl (record {
    here = refl;
    other = λ j ne. refl;
  }) (record {
    state = left_keeps r all s.lock h.state;
    parked = λ e. still_parked (λ none. e (still_empty Main none));
    bit_stays = λ e. inl e;
    aside_parked = h.aside_parked;
    full = h.full;
    filled = λ e. e;
    inside = λ m e. inl e;
    fills = λ m e. inl (still_empty m e);
    emptied = λ m e. let k = h.emptied t m e in (k.0, still_empty m k.1);
    covered = λ c. let k = h.covered t c in (k.0, k.1, λ some. k.2 (λ none. some (still_empty Main none)));
    brought = h.brought t;
    setting = h.setting t;
    held = λ c e. still_held t c (h.held t c e);
    unwoken = λ e. h.unwoken t (stood t e);
    others_stand = λ u ne e. inl (stood u e);
    others_hold = λ u c ne e. still_held u c e;
    others_carry = λ x u ne e. e;
    taken_by = λ x a e. grind (arith, h.carried x);
    main = λ e free room. absurd (let none : IsOpen Condvar (left_after all s.lock) = rw n.0 at free
        in none);
    main_brought = λ e apart free room. absurd (let none : IsOpen Condvar (left_after all s.lock) =
        rw n.0 at free in none);
    second = λ e none. grind arith;
  })
    where
      still_empty : (m : Line) → IsEmpty s.lock m → IsEmpty (left_after all s.lock) m
      still_empty Main e = left_none all s.lock.queue e
      still_empty Second e = e

      still_parked : s.lock.queue ≢ [] → (s.parked ≡ true)
          ⊎ (((s.role t).bit_pending ≡ true) ⊎ ((s.lock.queue ≢ []) × (s.parked ≡ false)
          × ((s.role t).bit_pending ≡ false)))
      still_parked some = grind arith

      stood : (u : ℕ) → 1 ≤ standing u (left_after all s.lock) → 1 ≤ standing u s.lock
      stood u e = let a = left_fewer all u s.lock.queue in omega arith

      still_held : (u : ℕ) (c : Claim) → Holds s.lock u c → Holds (left_after all s.lock) u c
      still_held u (Has Exclusive) e = e
      still_held u (Has Upgradable) e = e
      still_held u (Has Shared) e = e
      still_held u (Has x) e = absurd e
      still_held u (Pends falls_back) e = e
      still_held u Runs e = e
      still_held u Ran e = e

  abbrev late_lock : LockState
  late_lock = locks.after_case r Late s.lock t

  -- A waiter that leaves because its time is up keeps the site.
  pub leave_keeps : Needed r LeaveLine s t → IsSite r (after_deed r LeaveLine s t)
  leave_keeps n = turn_keeps r s (after_deed r LeaveLine s t) t (s.role t) (s.role t) h refl (record {
    here = refl;
    other = λ j ne. refl;
  }) (record {
    state = case_keeps r Late s.lock t h.state n.1;
    parked = λ e. still_parked (λ none. e (still_empty Main none));
    bit_stays = λ e. inl e;
    aside_parked = λ e. h.aside_parked (λ k. e (rw k refl));
    full = h.full;
    filled = λ e. e;
    inside = λ m e. inl e;
    fills = λ m e. inl (still_empty m e);
    emptied = λ m e. let k = h.emptied t m e in (k.0, still_empty m k.1);
    covered = λ e. absurd (let k = (h.covered t e).1 in let i = n.2.1 in cc);
    brought = h.brought t;
    setting = h.setting t;
    held = λ c e. still_held t c (h.held t c e);
    unwoken = λ e. h.unwoken t (stood t e);
    others_stand = λ u ne e. inl (stood u e);
    others_hold = λ u c ne e. still_held u c e;
    others_carry = λ x u ne e. e;
    taken_by = λ x a e. grind (arith, h.carried x);
    main = λ e free room. absurd (let none : IsOpen Condvar late_lock = rw n.0 at free in none);
    main_brought = λ e apart free room. absurd (let none : IsOpen Condvar late_lock = rw n.0 at free in none);
    second = λ e none. still_second (s.role t).wakes (λ k. e (rw k refl)) none;
  })
    where
      still_empty : (m : Line) → IsEmpty s.lock m → IsEmpty late_lock m
      still_empty Main e = rw e refl
      still_empty Second e = rw e refl

      still_parked : s.lock.queue ≢ [] → (s.parked ≡ true)
          ⊎ (((s.role t).bit_pending ≡ true) ⊎ ((s.lock.queue ≢ []) × (s.parked ≡ false)
          × ((s.role t).bit_pending ≡ false)))
      still_parked some = grind arith

      stood : (u : ℕ) → 1 ≤ standing u late_lock → 1 ≤ standing u s.lock
      stood u e = let a = without_fewer u t s.lock.queue in grind (arith, nat_tests)

      still_held : (u : ℕ) (c : Claim) → Holds s.lock u c → Holds late_lock u c
      still_held u (Has Exclusive) e = e
      still_held u (Has Upgradable) e = e
      still_held u (Has Shared) e = e
      still_held u (Has x) e = absurd e
      still_held u (Pends falls_back) e = e
      still_held u Runs e = e
      still_held u Ran e = e

      still_second : (o : Option Line) → s.lock.aside ≢ None → readers s.lock ≡ 0 → (o ≡ Some Second)
          ⊎ ((s.lock.aside ≢ None) × (readers s.lock ≡ 0) × (o ≢ Some Second))
      still_second None e none = inr (e, none, λ k. cc)
      still_second (Some Main) e none = inr (e, none, λ k. cc)
      still_second (Some Second) e none = inl refl
