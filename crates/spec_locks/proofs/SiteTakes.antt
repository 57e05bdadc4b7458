-- A thread that takes some of the queue keeps what holds of a lock of the lot between steps.
use Rattle.std.proofs.Common.{ℕ, Bool, true, false, Option, Some, None, ◌≡◌, ◌≢◌, ◌≤◌, ◌+◌, ◌⊎◌, inl, inr}
use Rattle.std.proofs.Common.{List, [], ◌∷◌, refl, ap, arith}
use Rattle.std.proofs.Math.Seq.{take-nil, drop-nil}
use Rattle.std.specs.Prelude.{not, drop, ◌||◌}
use Rattle.std.proofs.lemmas.Bool.Decides.{nat_tests}
use Rattle.core_base.specs.declared.wants.Want.{Want}
use Rattle.core_base.specs.declared.wants.Want.TheVariants.{Exclusive, Upgradable, Shared}
use Rattle.spec_locks.specs.Locks.{LockState, Queued, Taken, Rules, TakeFirst, TakePicked, TakesOneAtATime}
use Rattle.spec_locks.specs.Locks.{IsLockState, HasTakenNobody, Knows, Once, keeps_more, picked, unpicked}
use Rattle.spec_locks.specs.Locks.{times, taking, standing, one_if_thread, one_if_some, putting}
use Rattle.spec_locks.specs.Sites.{Main, Second, Site, IsSite, Case, Needed, after_deed, taking_main, IsOpen}
use Rattle.spec_locks.specs.Sites.{KeepsOwned, counts_taken, is_full}
use Rattle.spec_locks.proofs.LockKeeps.{times_taking}
use Rattle.spec_locks.proofs.Hands.{taking_others, taking_by, times_picked, passes_on}
use Rattle.spec_locks.proofs.Turns.{Local, turn_keeps}
use Rattle.spec_locks.proofs.SiteFacts.{put_changed, state}

module _ (r : Rules) (s : Site) (t : ℕ) (h : IsSite r s) where
  -- t takes some of the main line
  module _ (gone left : List Queued) (owes_taken : Bool) (lock : r.sort ≢ Once) (n : (s.role t).inside
      ≡ Some Main) (free : (s.role t).has_taken ≡ false) (elsewhere : (s.role t).wakes ≢ Some Second)
      (nobody : HasTakenNobody s.lock t)
      (state_now : IsLockState r (record s.lock {
        queue = left;
        taken = taking t gone s.lock.taken;
      })) (part : (u : ℕ) → times u gone + times u left ≡ times u s.lock.queue) (none : s.lock.queue ≡ []
      → left ≡ [])
      (barred : owes_taken ≡ false → IsOpen r.sort s.lock → ⊥) (passes : owes_taken ≡ true → left ≢ [] → (u : ℕ)
      × (counts_taken r.sort t (taking t gone s.lock.taken u) ≡ true)) where
    abbrev now : LockState
    now = record s.lock { queue = left; taken = taking t gone s.lock.taken }

    hands_stay : (x u : ℕ) → u ≢ t → counts_taken r.sort u (s.lock.taken x) ≡ true
        → counts_taken r.sort u (taking t gone s.lock.taken x) ≡ true
    hands_stay x u ne c = by_hand (s.lock.taken x) refl
      where
        by_hand : (o : Option Taken) → s.lock.taken x ≡ o
            → counts_taken r.sort u (taking t gone s.lock.taken x) ≡ true
        by_hand None e = absurd (let g : false ≡ true = rw e at c in cc)
        by_hand (Some a) e =
            let one = h.state.once x in
            let absent : times x gone ≡ 0 =
            (let k = part x in let o : standing x s.lock ≡ times x s.lock.queue + one_if_thread x
            s.lock.aside + 1 = ap (λ (a : Option Taken). times x s.lock.queue + one_if_thread x
            s.lock.aside + one_if_some a) e in omega arith) in
            rw (taking_others t x gone s.lock.taken absent) c

    stood : (u : ℕ) → 1 ≤ standing u now → 1 ≤ standing u s.lock
    stood u e = let a = times_taking u t gone s.lock.taken in let b = part u in omega arith

    not_set : (s.role t).bit_pending ≡ true → ⊥
    not_set k = elim (h.setting t k) [
      | inl owes_taken ↦ let g = (h.covered t owes_taken).1 in let f = free in cc
      | inr once ↦ lock once.0
    ]

    still_bit : s.lock.queue ≢ [] → (s.parked ≡ true) ⊎ (((s.role t).bit_pending ≡ true)
        ⊎ ((s.lock.queue ≢ []) × (s.parked ≡ false) × ((s.role t).bit_pending ≡ false)))
    still_bit left = grind (arith, not_set)

    abbrev took : Site
    took = record s {
      lock = now;
      filled = s.filled || is_full r now;
      role = putting s.role t (taking_main owes_taken now (s.role t));
    }

    take_local : Local r s took t (s.role t) (taking_main owes_taken now (s.role t))
    take_local = record {
      state = state_now;
      parked = λ e. still_bit (λ k. e (none k));
      bit_stays = λ k. inl k;
      brought = λ k. h.brought t k;
      setting = λ k. absurd (not_set k);
      aside_parked = h.aside_parked;
      full = λ e. grind arith;
      filled = λ e. grind arith;
      inside = λ m e. inl e;
      fills = λ m e. grind arith;
      emptied = λ m e. grind arith;
      covered = λ c. (n, refl, passes c);
      held = λ c e. grind (arith, h.held t c e);
      unwoken = λ e. h.unwoken t (stood t e);
      others_hold = λ u c ne e. grind arith;
      others_stand = λ u ne e. inl (stood u e);
      others_carry = λ x u ne c. hands_stay x u ne c;
      taken_by = λ x a e. elim (taking_by t x gone s.lock.taken a e) [
        | inl k ↦ inl (k, refl)
        | inr k ↦
            inr ((λ by. nobody x a.want (grind arith)), k)
      ];
      main = λ e free_now room. grind arith;
      main_brought = λ k apart free_now room. absurd (apart n);
      second = λ e f. grind arith;
    }

    take_keeps : IsSite r took
    take_keeps = turn_keeps r s took t (s.role t) _ h refl (put_changed s.role t _) take_local

  once : (u : ℕ) → times u s.lock.queue ≤ 1
  once u = let a = h.state.once u in omega arith

  barred_by : (start : Option Want) → KeepsOwned s.lock t start → not (keeps_more start) ≡ false
      → Knows r.sort Upgradable → IsOpen r.sort s.lock → ⊥
  barred_by None k e knows free = cc
  barred_by (Some Exclusive) k e knows free = grind arith
  barred_by (Some Upgradable) k e knows free = grind arith
  barred_by (Some Shared) k e knows free = cc
  barred_by (Some x) k e knows free = cc

  nobody_picked : (start : Option Want) → s.lock.queue ≡ [] → unpicked r.sort start s.lock.queue ≡ []
  nobody_picked start e = rw e (grind (arith, take-nil {A = Queued}, drop-nil {A = Queued}))

  pub picked_keeps : (start : Option Want) → Needed r (Case (TakePicked start)) s t
      → IsSite r (after_deed r (Case (TakePicked start)) s t)
  picked_keeps start n = take_keeps (picked r.sort start s.lock.queue) (unpicked r.sort start s.lock.queue)
      (not (keeps_more start)) (λ e. let k : Knows Once Upgradable = rw e at n.0.1 in k) n.1.0 n.1.1 n.1.2
      n.0.0 (state r s t h (TakePicked start) n)
      (λ u. times_picked r.sort start u s.lock.queue) (nobody_picked start)
      (λ e. barred_by start n.1.3 e n.0.1)
      (λ e left. passes_on r.sort start t s.lock.queue s.lock.taken (grind arith) n.0.1 left once)

  -- the first of the queue of a mutex passes the turn on
  first_counts : (x : Queued) → TakesOneAtATime r.sort → counts_taken r.sort t
      (taking t (x ∷ []) s.lock.taken x.thread) ≡ true
  first_counts x first = grind (arith, nat_tests)

  pub first_keeps : (x : Queued) → Needed r (Case (TakeFirst x)) s t
      → IsSite r (after_deed r (Case (TakeFirst x)) s t)
  first_keeps x n = take_keeps (x ∷ []) (drop 1 s.lock.queue) true (λ e. let k : TakesOneAtATime Once =
      rw e at n.0.2 in k) n.1.0 n.1.1 n.1.2 n.0.1 (state r s t h (TakeFirst x) n)
      (λ u. let e = n.0.0.1 in grind (arith, nat_tests)) (λ e. rw e refl) (λ e. absurd cc)
      (λ e left. (x.thread, first_counts x n.0.2))
