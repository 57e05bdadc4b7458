-- Each deed keeps what holds of a lock of the lot between steps.
use Rattle.std.proofs.Common.{ℕ, Bool, true, false, Option, Some, None, if◌then◌else◌, ◌==◌, ◌≡◌, ◌≢◌, ◌≤◌}
use Rattle.std.proofs.Common.{subst, ◌⊎◌, inl, inr, [], refl, arith}
use Rattle.std.proofs.lemmas.Bool.Decides.{nat_tests}
use Rattle.core_base.specs.declared.wants.Want.TheVariants.{Exclusive, Upgradable, Shared}
use Rattle.spec_locks.specs.Locks.{LockState, Pending, Sort, Rules, LockCase, Enter, Pend, Settle, Leave}
use Rattle.spec_locks.specs.Locks.{Convert, Park, Aside, TakeFirst, TakeAside, TakePicked, Wake, HandOff}
use Rattle.spec_locks.specs.Locks.{Late, Rollback, OfOnce, IsLockState, Knows, Mutex, Normal, Recursive}
use Rattle.spec_locks.specs.Locks.{Semaphore, Once, standing, readers, OfCondvar, SeeOwner, Look, Show, Hide}
use Rattle.spec_locks.specs.Locks.{Condvar}
use Rattle.spec_locks.specs.Sites.{Line, Main, Second, Claim, Role, Site, IsSite, Begin, End, In, Out, Mark}
use Rattle.spec_locks.specs.Sites.{Clear, FindNobody, MarkOwned, MarkBrought, Bring, Send, LeaveLine, Case}
use Rattle.spec_locks.specs.Sites.{Needed, after_deed, done, case_role, IsEmpty, IsOpen, IsDebtorRole}
use Rattle.spec_locks.specs.Sites.{late_found, role_giving_way, shares_less, Has, Pends, Runs, Ran, Holds}
use Rattle.spec_locks.specs.Sites.{EachDeedKeeps}
use Rattle.spec_locks.specs.Locks as locks
use Rattle.spec_locks.proofs.LockKeeps.{no_aside, times_append}
use Rattle.spec_locks.proofs.Hands.{without_fewer}
use Rattle.spec_locks.proofs.Wakes.{out_keeps}
use Rattle.spec_locks.proofs.Turns.{Local}
use Rattle.spec_locks.proofs.SiteFacts.{share_other, more_share, share_own, fewer_share, same_open}
use Rattle.spec_locks.proofs.SiteFacts.{callers_filter, alone_aside, acts, state}
use Rattle.spec_locks.proofs.SiteBits.{begin_keeps, end_keeps, in_keeps, find_keeps, mark_keeps}
use Rattle.spec_locks.proofs.SiteBits.{brought_keeps, owned_keeps, clear_keeps}
use Rattle.spec_locks.proofs.SiteTakes.{first_keeps, picked_keeps}
use Rattle.spec_locks.proofs.SiteHands.{hands_local}
use Rattle.spec_locks.proofs.SiteOnces.{once_acts}
use Rattle.spec_locks.proofs.SiteMoves.{bring_keeps, send_keeps, leave_keeps}

module _ (r : Rules) (s : Site) (t : ℕ) (h : IsSite r s) where
  -- an upgrade owns where nobody shares, and is pending where somebody does
  upgrades : (n : Needed r (Case (Convert Upgradable Exclusive)) s t) (b : Bool) → (readers s.lock == 0) ≡ b
      → IsLockState r (if b then locks.with_owner t Exclusive (locks.without_owner t Upgradable s.lock)
      else locks.pending_for t true (locks.without_owner t Upgradable s.lock))
      → Local r s (done r (Convert Upgradable Exclusive) s t (if b then locks.with_owner t Exclusive
      (locks.without_owner t Upgradable s.lock) else locks.pending_for t true
      (locks.without_owner t Upgradable s.lock))) t (s.role t)
      (case_role r.sort s (if b then locks.with_owner t Exclusive (locks.without_owner t Upgradable s.lock)
      else locks.pending_for t true (locks.without_owner t Upgradable s.lock))
      (Convert Upgradable Exclusive) (s.role t))
  upgrades n true e now = grind (
    arith,
    nat_tests,
    h.emptied t,
    h.covered t,
    h.unwoken t,
    h.brought t,
    h.setting t,
  )
  upgrades n false e now = grind (
    arith,
    nat_tests,
    h.emptied t,
    h.covered t,
    h.unwoken t,
    h.brought t,
    h.setting t,
  )

  -- a writer that gives up has again what it had
  abbrev unpended : LockState
  unpended = record s.lock { pending = None }

  rolls : (n : Needed r (Case Rollback) s t) (p : Pending) → s.lock.pending ≡ Some p → (b : Bool)
      → p.falls_back ≡ b → IsLockState r (if b then locks.with_owner t Upgradable unpended else unpended)
      → Local r s (done r Rollback s t (if b then locks.with_owner t Upgradable unpended else unpended)) t
      (s.role t) (case_role r.sort s (if b then locks.with_owner t Upgradable unpended else unpended)
      Rollback (s.role t))
  rolls n p e true f now = grind (
    arith,
    nat_tests,
    h.emptied t,
    h.covered t,
    h.unwoken t,
    h.brought t,
    h.setting t,
  )
  rolls n p e false f now = grind (
    arith,
    nat_tests,
    h.emptied t,
    h.covered t,
    h.unwoken t,
    h.brought t,
    h.setting t,
  )

  rolls_by : (n : Needed r (Case Rollback) s t) (p : Option Pending) → s.lock.pending ≡ p
      → IsLockState r (locks.falling_back t p unpended)
      → Local r s (done r Rollback s t (locks.falling_back t p unpended)) t (s.role t)
      (case_role r.sort s (locks.falling_back t p unpended) Rollback (s.role t))
  rolls_by n None e now = absurd (rw e at n.0.0)
  rolls_by n (Some p) e now = rolls n p e p.falls_back refl now

  -- one more shares
  shares_debt : (d : Role) → Knows r.sort Shared → (d.retries ≡ None) ⊎ (d.retries ≡ Some Shared)
      → IsOpen r.sort (locks.with_owner t Shared s.lock) → IsDebtorRole r.sort d
      → IsDebtorRole r.sort (record d {
        retries = None;
        claims = None;
      })
  shares_debt d knows wanted free debt = grind arith

  shares_local : (n : Needed r (Case (Enter Shared)) s t)
      → Local r s (done r (Enter Shared) s t (locks.with_owner t Shared s.lock)) t (s.role t)
      (record (s.role t) {
        retries = None;
        claims = None;
      })
  shares_local n = record {
    state = state r s t h (Enter Shared) n;
    parked = λ e. grind arith;
    bit_stays = λ e. inl e;
    aside_parked = h.aside_parked;
    full = λ e. grind arith;
    filled = λ e. grind arith;
    inside = λ m e. inl e;
    fills = λ m e. inl (grind arith);
    emptied = λ m e. let k = h.emptied t m e in (k.0, grind arith);
    covered = h.covered t;
    brought = h.brought t;
    setting = h.setting t;
    held = λ c e. absurd cc;
    unwoken = λ e. refl;
    others_hold = λ u c ne e. grind (arith, share_other);
    others_stand = λ u ne e. inl e;
    others_carry = λ x u ne e. e;
    taken_by = λ x a e. grind (arith, h.carried x);
    main = λ e free room. inr (inl (
      e,
      same_open r.sort _ s.lock refl refl refl refl (λ k. k) free,
      shares_debt (s.role t) n.0.0.0 n.1 free,
    ));
    main_brought = λ e apart free room. inr (
      same_open r.sort _ s.lock refl refl refl refl (λ k. k) free,
      shares_debt (s.role t) n.0.0.0 n.1 free,
    );
    second = λ e none. grind (arith, more_share s.lock.shared t);
  }

  -- one shares less
  shares_less_local : (n : Needed r (Case (Leave Shared)) s t) (sort : Sort) → r.sort ≡ sort
      → Local r s (done r (Leave Shared) s t (locks.without_owner t Shared s.lock)) t (s.role t)
      (shares_less sort s (s.role t))
  shares_less_local n Mutex e = grind (
    arith,
    state r s t h (Leave Shared) n,
    h.emptied t,
    h.covered t,
    h.unwoken t,
    h.brought t,
    h.setting t,
    share_other,
    fewer_share s.lock.shared t,
    alone_aside r s.lock h.state,
  )
  shares_less_local n Normal e = grind (
    arith,
    state r s t h (Leave Shared) n,
    h.emptied t,
    h.covered t,
    h.unwoken t,
    h.brought t,
    h.setting t,
    share_other,
    fewer_share s.lock.shared t,
    alone_aside r s.lock h.state,
  )
  shares_less_local n Recursive e = grind (
    arith,
    state r s t h (Leave Shared) n,
    h.emptied t,
    h.covered t,
    h.unwoken t,
    h.brought t,
    h.setting t,
    share_other,
    fewer_share s.lock.shared t,
    alone_aside r s.lock h.state,
  )
  shares_less_local n Once e = absurd (let none = h.state.unshared (λ k. let g : Knows Once Shared = rw e at k
      in g) in let some = fewer_share s.lock.shared t n.0 in omega arith)
  shares_less_local n Condvar e = absurd (let none = h.state.unshared (λ k. let g : Knows Condvar Shared =
      rw e at k in g) in let some = fewer_share s.lock.shared t n.0 in omega arith)
  shares_less_local n Semaphore e = grind (
    arith,
    state r s t h (Leave Shared) n,
    h.emptied t,
    h.covered t,
    h.unwoken t,
    h.brought t,
    h.setting t,
    share_other,
    fewer_share s.lock.shared t,
    no_aside r s.lock h.state (h.state.unpending (λ k. let g : Knows Semaphore Upgradable = rw e at k
        in g)).0,
  )

  -- a thread that is to set the bit, and has seen no waiters, has taken some
  covers_still : (s.role t).wakes ≢ Some Main → (s.role t).bit_pending ≡ true → (s.role t).owes_taken ≡ true
  covers_still none e = elim (h.setting t e) [
    | inl owes_taken ↦ owes_taken
    | inr wakes ↦ absurd (none wakes.1)
  ]

  -- a thread that gives way sees the bit, or has the next in hand
  way_debt : (claims : Option Claim) → (s.role t).wakes ≡ None → (s.lock.queue ≢ [])
      ⊎ ((s.role t).will_bring ≡ true) → IsDebtorRole r.sort (role_giving_way s (s.role t) claims)
      ⊎ ((s.lock.queue ≢ []) × (s.parked ≡ false) × ((s.role t).bit_pending ≡ false))
  way_debt claims none one = grind (arith, h.brought t, h.setting t)

  shared_local : (n : Needed r (Case (Convert Exclusive Shared)) s t)
      → Local r s (done r (Convert Exclusive Shared) s t
      (locks.with_owner t Shared (locks.without_owner t Exclusive s.lock))) t (s.role t)
      (role_giving_way s (s.role t) (Some (Has Shared)))
  shared_local n = record {
    state = state r s t h (Convert Exclusive Shared) n;
    parked = λ e. grind arith;
    bit_stays = λ e. inl e;
    aside_parked = h.aside_parked;
    full = λ e. grind arith;
    filled = λ e. grind arith;
    inside = λ m e. inl e;
    fills = λ m e. inl (grind arith);
    emptied = λ m e. let k = h.emptied t m e in (k.0, grind arith);
    covered = h.covered t;
    brought = h.brought t;
    setting = λ e. inl (covers_still (λ k. let none = n.1.0 in cc) e);
    held = λ c e. let claim : Has Shared ≡ c = cc
        in subst (Holds (locks.with_owner t Shared (locks.without_owner t Exclusive s.lock)) t) claim
        (share_own s.lock.shared t n.1.2);
    unwoken = λ e. h.unwoken t e;
    others_hold = λ u c ne e. grind (arith, share_other);
    others_stand = λ u ne e. inl e;
    others_carry = λ x u ne e. e;
    taken_by = λ x a e. grind (arith, h.carried x);
    main = λ e free room. elim (way_debt (Some (Has Shared)) n.1.0 e) [ inl k ↦ inl k | inr k ↦ inr (inr k) ];
    main_brought = λ e apart free room. inl (grind (arith, h.covered t));
    second = λ e none. grind (arith, more_share s.lock.shared t);
  }

  -- beside a writer aside the lock isn't open
  barred_aside : (u : ℕ) → s.lock.aside ≡ Some u → (sort : Sort) → r.sort ≡ sort → IsOpen sort s.lock → ⊥
  barred_aside u e Mutex f free = let none =
      no_aside r s.lock h.state (h.state.unpending (λ k. let g : Knows Mutex Upgradable = rw f at k in g)).0
      in cc
  barred_aside u e Once f free = let none =
      no_aside r s.lock h.state (h.state.unpending (λ k. let g : Knows Once Upgradable = rw f at k in g)).0
      in cc
  barred_aside u e Normal f free = grind (arith, h.state.aside_pending u e)
  barred_aside u e Recursive f free = grind (arith, h.state.aside_pending u e)
  barred_aside u e Semaphore f free = free
  barred_aside u e Condvar f free = free

  aside_local : (u : ℕ) (n : Needed r (Case (TakeAside u)) s t)
      → Local r s (done r (TakeAside u) s t (locks.after_case r (TakeAside u) s.lock t)) t (s.role t)
      (record (s.role t) {
        wakes = None;
        has_taken = true;
        empty = Some Second;
      })
  aside_local u n = record {
    state = state r s t h (TakeAside u) n;
    parked = λ e. grind arith;
    bit_stays = λ e. inl e;
    aside_parked = λ e. absurd (e refl);
    full = λ e. grind arith;
    filled = λ e. grind arith;
    inside = λ m e. inl e;
    fills = λ m e. inl (grind arith);
    emptied = λ m e. grind arith;
    covered = λ e. let k = (h.covered t e).0 in let i = n.1.0 in absurd cc;
    brought = λ e. h.brought t e;
    setting = λ e. inl (covers_still n.1.2 e);
    held = λ c e. grind (arith, h.held t c);
    unwoken = λ e. h.unwoken t (grind (arith, nat_tests));
    others_hold = λ x c ne e. grind arith;
    others_stand = λ x ne e. inl (grind (arith, nat_tests));
    others_carry = λ x y ne e. grind (arith, nat_tests, n.0.1, h.state.once u);
    taken_by = λ x a e. grind (arith, nat_tests, n.0.1);
    main = λ e free room. absurd (barred_aside u n.0.0 r.sort refl (same_open r.sort _ s.lock refl refl refl
        refl (λ k. k) free));
    main_brought = λ e apart free room. absurd (barred_aside u n.0.0 r.sort refl
        (same_open r.sort _ s.lock refl refl refl refl (λ k. k) free));
    second = λ e none. absurd (e refl);
  }

  -- a thread that gives up leaves its line, from inside
  abbrev late_lock : LockState
  late_lock = locks.after_case r Late s.lock t

  late_stood : (u : ℕ) → 1 ≤ standing u late_lock → 1 ≤ standing u s.lock
  late_stood u e = let a = without_fewer u t s.lock.queue in grind (arith, nat_tests)

  late_found_so : (m : Line) → late_found late_lock (s.role t).inside ≡ Some m → ((s.role t).inside ≡ Some m)
      × IsEmpty late_lock m
  late_found_so m e = grind arith

  late_local : (n : Needed r (Case Late) s t) → Local r s (done r Late s t late_lock) t (s.role t)
      (record (s.role t) { empty = late_found late_lock (s.role t).inside })
  late_local n = record {
    state = state r s t h Late n;
    parked = λ e. late_bit (λ k. e (rw k refl));
    bit_stays = λ e. inl e;
    aside_parked = λ e. h.aside_parked (λ k. e (rw k refl));
    full = λ e. grind arith;
    filled = λ e. grind arith;
    inside = λ m e. inl e;
    fills = λ m e. inl (late_fills m e);
    emptied = λ m e. late_found_so m e;
    covered = λ e. absurd (let k = (h.covered t e).1 in let i = n.1.1 in cc);
    brought = λ e. h.brought t e;
    setting = λ e. h.setting t e;
    held = λ c e. grind (arith, h.held t c);
    unwoken = λ e. h.unwoken t (late_stood t e);
    others_hold = λ x c ne e. grind arith;
    others_stand = λ x ne e. inl (late_stood x e);
    others_carry = λ x y ne e. e;
    taken_by = λ x a e. grind (arith, h.carried x a);
    main = λ e free room. inr (inl (
      late_awaited e,
      same_open r.sort _ s.lock refl refl refl refl
          (callers_filter _ s.lock.queue) free,
      λ debt. debt,
    ));
    main_brought = λ e apart free room. inr (
      same_open r.sort _ s.lock refl refl refl refl
          (callers_filter _ s.lock.queue) free,
      λ debt. debt,
    );
    second = λ e none. late_second (s.role t).wakes (λ k. e (rw k refl)) none;
  }
    where
      late_fills : (m : Line) → IsEmpty s.lock m → IsEmpty late_lock m
      late_fills Main e = rw e refl
      late_fills Second e = rw e refl

      late_awaited : (late_lock.queue ≢ []) ⊎ ((s.role t).will_bring ≡ true) → (s.lock.queue ≢ [])
          ⊎ ((s.role t).will_bring ≡ true)
      late_awaited (inl k) = inl (λ e. k (rw e refl))
      late_awaited (inr k) = inr k

      late_second : (o : Option Line) → s.lock.aside ≢ None → readers s.lock ≡ 0 → (o ≡ Some Second)
          ⊎ ((s.lock.aside ≢ None) × (readers s.lock ≡ 0) × (o ≢ Some Second))
      late_second None e none = inr (e, none, λ k. cc)
      late_second (Some Main) e none = inr (e, none, λ k. cc)
      late_second (Some Second) e none = inl refl

      late_bit : s.lock.queue ≢ [] → (s.parked ≡ true) ⊎ (((s.role t).bit_pending ≡ true)
          ⊎ ((s.lock.queue ≢ []) × (s.parked ≡ false) × ((s.role t).bit_pending ≡ false)))
      late_bit left = grind arith

  -- the mutex that is shown is no matter of owners, waiters or hands
  still_holds : (m : Option ℕ) (u : ℕ) (c : Claim) → Holds s.lock u c → Holds (record s.lock { shown = m }) u
      c
  still_holds m u (Has Exclusive) e = e
  still_holds m u (Has Upgradable) e = e
  still_holds m u (Has Shared) e = e
  still_holds m u (Has x) e = absurd e
  still_holds m u (Pends falls_back) e = e
  still_holds m u Runs e = e
  still_holds m u Ran e = e

  still_open : (m : Option ℕ) (sort : Sort) → IsOpen sort (record s.lock { shown = m }) → IsOpen sort s.lock
  still_open m sort free = same_open sort (record s.lock { shown = m }) s.lock refl refl refl refl (λ e. e)
      free

  act_keeps : (c : LockCase) → Needed r (Case c) s t → IsSite r (after_deed r (Case c) s t)
  act_keeps (Enter Exclusive) n = acts r s t h (Enter Exclusive)
      (grind (
        arith,
        state r s t h (Enter Exclusive) n,
        h.emptied t,
        h.covered t,
        h.unwoken t,
        h.brought t,
        h.setting t,
      ))
  act_keeps (Enter Upgradable) n = acts r s t h (Enter Upgradable)
      (grind (
        arith,
        state r s t h (Enter Upgradable) n,
        h.emptied t,
        h.covered t,
        h.unwoken t,
        h.brought t,
        h.setting t,
      ))
  act_keeps (Enter Shared) n = acts r s t h (Enter Shared) (shares_local n)
  act_keeps Pend n = acts r s t h Pend (grind (
    arith,
    state r s t h Pend n,
    h.emptied t,
    h.covered t,
    h.unwoken t,
    h.brought t,
    h.setting t,
  ))
  act_keeps Settle n = acts r s t h Settle (grind (
    arith,
    state r s t h Settle n,
    h.emptied t,
    h.covered t,
    h.unwoken t,
    h.brought t,
    h.setting t,
  ))
  act_keeps (Leave Exclusive) n = acts r s t h (Leave Exclusive)
      (grind (
        arith,
        state r s t h (Leave Exclusive) n,
        h.emptied t,
        h.covered t,
        h.unwoken t,
        h.brought t,
        h.setting t,
      ))
  act_keeps (Leave Upgradable) n = acts r s t h (Leave Upgradable)
      (grind (
        arith,
        state r s t h (Leave Upgradable) n,
        h.emptied t,
        h.covered t,
        h.unwoken t,
        h.brought t,
        h.setting t,
      ))
  act_keeps (Leave Shared) n = acts r s t h (Leave Shared) (shares_less_local n r.sort refl)
  act_keeps (Park x) n = acts r s t h (Park x) (grind (
    arith,
    nat_tests,
    times_append,
    state r s t h (Park x) n,
    h.emptied t,
    h.covered t,
    h.unwoken t,
    h.brought t,
    h.setting t,
    h.held t,
  ))
  act_keeps Aside n = acts r s t h Aside (grind (
    arith,
    nat_tests,
    state r s t h Aside n,
    h.emptied t,
    h.covered t,
    h.unwoken t,
    h.brought t,
    h.setting t,
    h.held t,
  ))
  act_keeps (Enter x) n = absurd (grind arith)
  act_keeps (Leave x) n = absurd (grind arith)
  act_keeps Wake n = absurd n.1
  act_keeps (TakeFirst x) n = first_keeps r s t h x n
  act_keeps (TakePicked start) n = picked_keeps r s t h start n
  act_keeps (TakeAside u) n = acts r s t h (TakeAside u) (aside_local u n)
  act_keeps Late n = acts r s t h Late (late_local n)
  act_keeps Rollback n = acts r s t h Rollback (rolls_by n s.lock.pending refl (state r s t h Rollback n))
  act_keeps (Convert Exclusive Shared) n = acts r s t h (Convert Exclusive Shared) (shared_local n)
  act_keeps (Convert Exclusive Upgradable) n = acts r s t h (Convert Exclusive Upgradable)
      (grind (
        arith,
        nat_tests,
        state r s t h (Convert Exclusive Upgradable) n,
        h.emptied t,
        h.covered t,
        h.unwoken t,
        h.brought t,
        h.setting t,
      ))
  act_keeps (Convert Upgradable Shared) n = acts r s t h (Convert Upgradable Shared)
      (grind (
        arith,
        nat_tests,
        state r s t h (Convert Upgradable Shared) n,
        h.emptied t,
        h.covered t,
        h.unwoken t,
        h.brought t,
        h.setting t,
        share_other,
        share_own s.lock.shared t,
        more_share s.lock.shared t,
      ))
  act_keeps (Convert Upgradable Exclusive) n = acts r s t h (Convert Upgradable Exclusive)
      (upgrades n (readers s.lock == 0) refl (state r s t h (Convert Upgradable Exclusive) n))
  act_keeps (Convert x y) n = absurd (grind arith)
  act_keeps (OfOnce c) n = once_acts r s t h c n
  act_keeps (OfCondvar (Look seen)) n = acts r s t h (OfCondvar (Look seen))
      (grind (
        arith,
        state r s t h (OfCondvar (Look seen)) n,
        h.emptied t,
        h.covered t,
        h.unwoken t,
        h.brought t,
        h.setting t,
      ))
  act_keeps (OfCondvar (Show m)) n = acts r s t h (OfCondvar (Show m))
      (grind (
        arith,
        state r s t h (OfCondvar (Show m)) n,
        h.emptied t,
        h.covered t,
        h.unwoken t,
        h.brought t,
        h.setting t,
        still_holds (Some m),
        still_open (Some m),
      ))
  act_keeps (OfCondvar Hide) n = acts r s t h (OfCondvar Hide)
      (grind (
        arith,
        state r s t h (OfCondvar Hide) n,
        h.emptied t,
        h.covered t,
        h.unwoken t,
        h.brought t,
        h.setting t,
        still_holds None,
        still_open None,
      ))
  act_keeps (SeeOwner owned) n = acts r s t h (SeeOwner owned)
      (grind (
        arith,
        state r s t h (SeeOwner owned) n,
        h.emptied t,
        h.covered t,
        h.unwoken t,
        h.brought t,
        h.setting t,
      ))
  act_keeps (HandOff x successor) n = acts r s t h (HandOff x successor) (hands_local r s t h x successor n)

pub deed_keeps : EachDeedKeeps
deed_keeps r (Begin c) s t h n = begin_keeps r s t h c n
deed_keeps r End s t h n = end_keeps r s t h n
deed_keeps r (In m) s t h n = in_keeps r s t h m n
deed_keeps r Out s t h n = out_keeps r s t h n
deed_keeps r (Mark m) s t h n = mark_keeps r s t h m
deed_keeps r (Clear m) s t h n = clear_keeps r s t h m n
deed_keeps r (FindNobody m) s t h n = find_keeps r s t h m n
deed_keeps r MarkOwned s t h n = owned_keeps r s t h n
deed_keeps r MarkBrought s t h n = brought_keeps r s t h
deed_keeps r (Bring taken moved) s t h n = bring_keeps r s t h taken moved n
deed_keeps r (Send all) s t h n = send_keeps r s t h all n
deed_keeps r LeaveLine s t h n = leave_keeps r s t h n
deed_keeps r (Case c) s t h n = act_keeps r s t h c n
