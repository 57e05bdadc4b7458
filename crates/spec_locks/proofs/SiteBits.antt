-- A thread that begins, ends, enters a section or sets a bit keeps what holds of a lock of the lot
-- between steps.
use Rattle.std.proofs.Common.{ℕ, Bool, true, false, Option, inl, inr, refl, arith}
use Rattle.spec_locks.specs.Locks.{Rules, putting}
use Rattle.spec_locks.specs.Sites.{Line, Main, Second, Claim, Role, Site, IsSite, Begin, End, In, Mark, Clear}
use Rattle.spec_locks.specs.Sites.{FindNobody, MarkOwned, MarkBrought, Needed, after_deed, with_role}
use Rattle.spec_locks.proofs.Turns.{Local, turn_keeps}
use Rattle.spec_locks.proofs.SiteFacts.{put_changed}

module _ (r : Rules) (s : Site) (t : ℕ) (h : IsSite r s) where
  -- t does something else, and the lock stays
  does : (d2 : Role) → Local r s (with_role s t d2) t (s.role t) d2 → IsSite r (with_role s t d2)
  does d2 local = turn_keeps r s (with_role s t d2) t (s.role t) d2 h refl (put_changed s.role t d2) local

  pub begin_keeps : (c : Option Claim) → Needed r (Begin c) s t → IsSite r (after_deed r (Begin c) s t)
  begin_keeps c n = does _ (record {
    state = h.state;
    parked = λ e. grind arith;
    bit_stays = λ e. inl e;
    aside_parked = h.aside_parked;
    full = h.full;
    filled = λ e. e;
    inside = λ m e. inl e;
    fills = λ m e. inl e;
    emptied = h.emptied t;
    covered = h.covered t;
    brought = h.brought t;
    setting = h.setting t;
    held = λ d e. grind arith;
    unwoken = h.unwoken t;
    others_hold = λ u d ne e. e;
    others_stand = λ u ne e. inl e;
    others_carry = λ x u ne e. e;
    taken_by = λ x a e. grind (arith, h.carried x);
    main = λ e free room. inr (inl (e, free, λ one. one));
    main_brought = λ e apart free room. inr (free, λ one. one);
    second = λ e none. grind arith;
  })

  pub end_keeps : Needed r End s t → IsSite r (after_deed r End s t)
  end_keeps n = does _ (grind (arith, h.unwoken t, h.covered t, h.brought t, h.setting t))

  pub in_keeps : (m : Line) → Needed r (In m) s t → IsSite r (after_deed r (In m) s t)
  in_keeps m n = does _ (grind (arith, h.unwoken t, h.covered t, h.brought t, h.setting t))

  pub find_keeps : (m : Line) → Needed r (FindNobody m) s t → IsSite r (after_deed r (FindNobody m) s t)
  find_keeps Main n = does _ (grind (arith, h.unwoken t, h.covered t, h.brought t, h.setting t))
  find_keeps Second n = does _ (grind (arith, h.unwoken t, h.covered t, h.brought t, h.setting t))

  -- a bit changes alone
  changed_bits : (p a : Bool) → Local r s (record s {
    parked = p;
    aside_parked = a;
  }) t (s.role t) (s.role t) → IsSite r (record s { parked = p; aside_parked = a })
  changed_bits p a local = turn_keeps r s (record s {
    parked = p;
    aside_parked = a;
  }) t (s.role t) (s.role t) h refl (record { here = refl; other = λ j ne. refl }) local

  mark_second : IsSite r (after_deed r (Mark Second) s t)
  mark_second = changed_bits s.parked true (grind (
    arith,
    h.emptied t,
    h.covered t,
    h.unwoken t,
    h.brought t,
    h.setting t,
  ))

  -- a bit, and what t does
  cleared : (p a : Bool) (d2 : Role) → Local r s (record s {
    parked = p;
    aside_parked = a;
    role = putting s.role t d2;
  }) t (s.role t) d2 → IsSite r (record s { parked = p; aside_parked = a; role = putting s.role t d2 })
  cleared p a d2 local = turn_keeps r s (record s {
    parked = p;
    aside_parked = a;
    role = putting s.role t d2;
  }) t (s.role t) d2 h refl (put_changed s.role t d2) local

  pub mark_keeps : (m : Line) → IsSite r (after_deed r (Mark m) s t)
  mark_keeps Main = changed_bits true s.aside_parked (grind (
    arith,
    h.emptied t,
    h.covered t,
    h.unwoken t,
    h.brought t,
    h.setting t,
  ))
  mark_keeps Second = mark_second

  -- a thread that has brought waiters sets the bit
  pub brought_keeps : IsSite r (after_deed r MarkBrought s t)
  brought_keeps = cleared true s.aside_parked _ (grind (
    arith,
    h.emptied t,
    h.covered t,
    h.unwoken t,
    h.brought t,
  ))

  -- a notification marks a mutex that somebody owns
  pub owned_keeps : Needed r MarkOwned s t → IsSite r (after_deed r MarkOwned s t)
  owned_keeps n = cleared true s.aside_parked _ (grind (
    arith,
    h.emptied t,
    h.covered t,
    h.unwoken t,
    h.setting t,
  ))

  pub clear_keeps : (m : Line) → Needed r (Clear m) s t → IsSite r (after_deed r (Clear m) s t)
  clear_keeps Main n = let none = h.emptied t Main n in cleared false s.aside_parked _
      (grind (arith, h.emptied t, h.covered t, h.unwoken t, h.brought t, h.setting t))
  clear_keeps Second n = let none = h.emptied t Second n
      in cleared s.parked false _ (grind (
        arith,
        h.emptied t,
        h.covered t,
        h.unwoken t,
        h.brought t,
        h.setting t,
      ))
