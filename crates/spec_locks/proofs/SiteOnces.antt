-- Each deed of a thread at a `Once` keeps what holds of it between steps.
use Rattle.std.proofs.Common.{ℕ, Bool, true, false, Option, Some, None, ◌≡◌, ◌≤◌, ◌⊎◌, inl, inr, refl, arith}
use Rattle.std.proofs.lemmas.Bool.Decides.{nat_tests}
use Rattle.core_base.specs.declared.wants.Want.{Want}
use Rattle.core_base.specs.declared.wants.Want.TheVariants.{Upgradable}
use Rattle.spec_locks.specs.Locks.{Taken, Rules, OfOnce, once_after, Knows, Once, standing}
use Rattle.spec_locks.specs.Sites.{Line, Main, Second, Site, IsSite, Case, Needed, after_deed, done, IsEmpty}
use Rattle.spec_locks.specs.Sites.{IsOpen, counts_taken}
use Rattle.spec_locks.specs.Onces.{OnceCase, Start, Finish, Fail, Rest, TakeAll}
use Rattle.spec_locks.proofs.LockKeeps.{no_aside, times_taking, times_append}
use Rattle.spec_locks.proofs.Hands.{taking_by}
use Rattle.spec_locks.proofs.Turns.{Local}
use Rattle.spec_locks.proofs.SiteFacts.{callers_append, callers_stand, acts, state}

module _ (r : Rules) (s : Site) (t : ℕ) (h : IsSite r s) where
  -- the deed of a thread at a `Once`: nobody has a right to it, and nobody brings waiters to it
  all_taken : (u : ℕ) → standing u (once_after TakeAll s.lock t) ≤ standing u s.lock
  all_taken u = let a = times_taking u t s.lock.queue s.lock.taken in omega arith

  -- a thread that comes to wait stands after the last: while nobody runs it, another waited to run it
  -- already
  rests_local : (wanted : Want) (forced : Bool) (n : Needed r (Case (OfOnce (Rest wanted forced))) s t)
      → Local r s (done r (OfOnce (Rest wanted forced)) s t (once_after (Rest wanted forced) s.lock t)) t
      (s.role t) (record (s.role t) {
        retries = None;
        empty = None;
      })
  rests_local wanted forced n = record {
    state = state r s t h (OfOnce (Rest wanted forced)) n;
    parked = λ e. inl n.1.1;
    bit_stays = λ e. inl e;
    aside_parked = h.aside_parked;
    full = λ e. grind arith;
    filled = λ e. grind arith;
    inside = λ m e. inl e;
    fills = λ m e. inr_main m e;
    emptied = λ m e. absurd cc;
    covered = λ e. absurd (let none = n.1.3 in cc);
    brought = λ e. absurd (let k = (h.brought t e).2 in let once = n.0.0 in cc);
    setting = λ e. h.setting t e;
    held = λ c e. grind (arith, h.held t c);
    unwoken = λ e. refl;
    others_hold = λ u c ne e. grind arith;
    others_stand = λ u ne e. inl (grind (arith, nat_tests, times_append));
    others_carry = λ x u ne e. e;
    taken_by = λ x a e. grind (arith, h.carried x);
    main = λ e free room. grind (arith, callers_append, callers_stand);
    main_brought = λ e apart free room. absurd (apart n.1.0);
    second = λ e none. grind arith;
  }
    where
      inr_main : (m : Line) → IsEmpty s.lock m → IsEmpty (once_after (Rest wanted forced) s.lock t) m
          ⊎ ((s.role t).inside ≡ Some m)
      inr_main Main e = inr n.1.0
      inr_main Second e = inl e

  -- a thread that takes all leaves nobody
  takes_all_local : (n : Needed r (Case (OfOnce TakeAll)) s t)
      → Local r s (done r (OfOnce TakeAll) s t (once_after TakeAll s.lock t)) t (s.role t)
      (record (s.role t) {
        wakes = None;
        bit_pending = false;
        has_taken = true;
      })
  takes_all_local n = record {
    state = state r s t h (OfOnce TakeAll) n;
    parked = λ e. absurd (e refl);
    bit_stays = λ e. inl e;
    aside_parked = h.aside_parked;
    full = λ e. grind arith;
    filled = λ e. grind arith;
    inside = λ m e. inl e;
    fills = λ m e. fills_main m e;
    emptied = λ m e. let k = h.emptied t m e in (k.0, none_left m k.1);
    covered = λ e. absurd (let k = (h.covered t e).1 in let none = n.1.1 in cc);
    brought = λ e. absurd (let k = (h.brought t e).2 in let once = n.0.0 in cc);
    setting = λ e. absurd cc;
    held = λ c e. grind (arith, h.held t c);
    unwoken = λ e. h.unwoken t (let a = all_taken t in omega arith);
    others_hold = λ u c ne e. grind arith;
    others_stand = λ u ne e. inl (let a = all_taken u in omega arith);
    others_carry = λ x u ne e. absurd (nobody_counts (s.lock.taken x) u e);
    taken_by = λ x a e. elim (taking_by t x s.lock.queue s.lock.taken a e) [
      | inl k ↦ inl (k, refl)
      | inr k ↦
          grind (arith, n.0.1 x a.want, h.carried x a k)
    ];
    main = λ e free room. absurd (let call = free_call free in cc);
    main_brought = λ e apart free room. absurd (apart n.1.0);
    second = λ e none. absurd (e (no_aside r s.lock h.state
        (h.state.unpending (λ k. let g : Knows Once Upgradable = rw n.0.0 at k in g)).0));
  }
    where
      none_left : (m : Line) → IsEmpty s.lock m → IsEmpty (once_after TakeAll s.lock t) m
      none_left Main e = refl
      none_left Second e = e

      fills_main : (m : Line) → IsEmpty s.lock m → IsEmpty (once_after TakeAll s.lock t) m
          ⊎ ((s.role t).inside ≡ Some m)
      fills_main m e = inl (none_left m e)

      free_call : IsOpen r.sort (once_after TakeAll s.lock t) → false ≡ true
      free_call free = let open_now : IsOpen Once (once_after TakeAll s.lock t) = rw n.0.0 at free
          in open_now.0

      nobody_counts : (o : Option Taken) (u : ℕ) → counts_taken r.sort u o ≡ true → ⊥
      nobody_counts o u e = grind (arith, n.0.0)

  pub once_acts : (c : OnceCase) → Needed r (Case (OfOnce c)) s t
      → IsSite r (after_deed r (Case (OfOnce c)) s t)
  once_acts (Start forced) n = acts r s t h (OfOnce (Start forced)) (grind (
    arith,
    nat_tests,
    state r s t h (OfOnce (Start forced)) n,
    h.emptied t,
    h.covered t,
    h.unwoken t,
    h.brought t,
    h.setting t,
    n.0.0,
  ))
  once_acts Finish n = acts r s t h (OfOnce Finish) (grind (
    arith,
    nat_tests,
    state r s t h (OfOnce Finish) n,
    h.emptied t,
    h.covered t,
    h.unwoken t,
    h.brought t,
    h.setting t,
    n.0.0,
    callers_stand,
  ))
  once_acts Fail n = acts r s t h (OfOnce Fail) (grind (
    arith,
    nat_tests,
    state r s t h (OfOnce Fail) n,
    h.emptied t,
    h.covered t,
    h.unwoken t,
    h.brought t,
    h.setting t,
    n.0.0,
    callers_stand,
  ))
  once_acts (Rest wanted forced) n = acts r s t h (OfOnce (Rest wanted forced)) (rests_local wanted forced n)
  once_acts TakeAll n = acts r s t h (OfOnce TakeAll) (takes_all_local n)
