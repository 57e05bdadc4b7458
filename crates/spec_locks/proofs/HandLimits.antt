-- After a hand-over the limit holds: those in a hand are fewer than the threads.
use Rattle.std.proofs.Common.{ℕ, zero, suc, Bool, true, false, Option, Some, None, if◌then◌else◌, ◌==◌, ◌&&◌}
use Rattle.std.proofs.Common.{◌≡◌, ◌≢◌, ◌≤◌, ◌<◌, ◌+◌, List, [], ◌∷◌, length, refl, sym, subst, ap, arith}
use Rattle.std.specs.Prelude.{sum}
use Rattle.std.proofs.lemmas.List.Sums.{sum_by-cons}
use Rattle.core_base.specs.declared.wants.Want.{Want}
use Rattle.core_base.specs.declared.wants.Want.TheVariants.{Exclusive, Upgradable, Shared}
use Rattle.spec_locks.specs.Locks.{LockState, Queued, Taken, Pending, Rules, HandOff, Needs, IsLockState}
use Rattle.spec_locks.specs.Locks.{IsSuccessor, count, readers, handed, sharing_from, sharing_handed}
use Rattle.spec_locks.specs.Locks.{shares_handed, wants_shared, with_owner, with_successor, without_owner}
use Rattle.spec_locks.specs.Locks.{pending_for, succeeding}
use Rattle.spec_locks.specs.Codes.{HasLimit}

pub sum_cons : (x : ℕ) (xs : List ℕ) → sum (x ∷ xs) ≡ x + sum xs
sum_cons x xs = sum_by-cons (λ (n : ℕ). n) x xs

one_share : (t : ℕ) (o : Option Taken) → shares_handed t o ≤ 1
one_share t None = omega arith
one_share t (Some h) = either (h.by == t && wants_shared h.want)
  where
    either : (b : Bool) → (if b then 1 else 0) ≤ 1
    either true = omega arith
    either false = omega arith

-- each thread has one right more at most
sharing_few : (t : ℕ) (taken : ℕ → Option Taken) (i : ℕ) (ns : List ℕ) → sum (sharing_from t taken i ns)
    ≤ sum ns + length ns
sharing_few t taken i [] = omega arith
sharing_few t taken i (n ∷ ns) =
    let a = sum_cons n ns in
    let b = sum_cons (n + shares_handed t (taken i)) (sharing_from t taken (i + 1) ns) in
    let c = one_share t (taken i) in
    let d = sharing_few t taken (i + 1) ns in
    omega arith

-- A thread that shares takes one share, and the other has none.
sharing_fewer : (t : ℕ) (taken : ℕ → Option Taken) (i u : ℕ) (ns : List ℕ) → u < length ns
    → shares_handed t (taken (i + u)) ≡ 0 → sum (sharing_from t taken i ns) + 1 ≤ sum ns + length ns
sharing_fewer t taken i u [] lt e = absurd (omega arith)
sharing_fewer t taken i zero (n ∷ ns) lt e =
    let a = sum_cons n ns in
    let b = sum_cons (n + shares_handed t (taken i)) (sharing_from t taken (i + 1) ns) in
    let c : shares_handed t (taken i) ≡ 0 = subst (λ k. shares_handed t (taken k) ≡ 0) (omega arith) e in
    let d = sharing_few t taken (i + 1) ns in
    omega arith
sharing_fewer t taken i (suc u) (n ∷ ns) lt e =
    let a = sum_cons n ns in
    let b = sum_cons (n + shares_handed t (taken i)) (sharing_from t taken (i + 1) ns) in
    let c = one_share t (taken i) in
    let d = sharing_fewer t taken (i + 1) u ns (omega arith) (subst (λ k. shares_handed t (taken k) ≡ 0)
    (omega arith) e) in
    omega arith

-- ---------------------------------------------------------------- the successor

-- a writer that is pending anew does not fall back to a lesser right
pends_anew : (b : Bool) (u : ℕ) (s : LockState) → s.pending ≡ None → (p : Pending)
    → (if b then with_owner u Exclusive s else pending_for u false s).pending ≡ Some p → p.falls_back ≡ false
pends_anew true u s none p e = absurd cc
pends_anew false u s none p e = let f : record {
  thread = u;
  falls_back = false;
} ≡ p = cc in ap (λ (q : Pending). q.falls_back) (sym f)

none_pends : (s : LockState) → s.pending ≡ None → (p : Pending) → s.pending ≡ Some p → p.falls_back ≡ false
none_pends s none p e = absurd cc

successor_pends : (successor : Option Queued) (s : LockState) → s.pending ≡ None → (p : Pending)
    → (with_successor successor s).pending ≡ Some p → p.falls_back ≡ false
successor_pends None s none p e = none_pends s none p e
successor_pends (Some x) s none p e = by_want x.want e
  where
    by_want : (w : Want) → (succeeding w x.thread s).pending ≡ Some p → p.falls_back ≡ false
    by_want Exclusive f = pends_anew (readers s == 0) x.thread s none p f
    by_want Upgradable f = none_pends s none p f
    by_want Shared f = none_pends s none p f
    by_want w f = none_pends s none p f

writer_counts : (b : Bool) (u : ℕ) (s : LockState) → s.upgradable ≡ None
    → count (if b then with_owner u Exclusive s else pending_for u false s) ≤ readers s + 1
writer_counts true u s none = grind arith
writer_counts false u s none = grind arith

-- A successor counts as one at most.
successor_counts : (successor : Option Queued) (s : LockState) → s.upgradable ≡ None
    → ((x : Queued) → successor ≡ Some x → x.want ≢ Shared) → count (with_successor successor s) ≤ readers s
    + 1
successor_counts None s none more = grind arith
successor_counts (Some x) s none more = by_want x.want (more x refl)
  where
    by_want : (w : Want) → w ≢ Shared → count (succeeding w x.thread s) ≤ readers s + 1
    by_want Exclusive ne = writer_counts (readers s == 0) x.thread s none
    by_want Upgradable ne = grind arith
    by_want Shared ne = absurd (ne refl)
    by_want w ne = grind arith

pub unshared_successor : (s : LockState) (t : ℕ) (successor : Option Queued) → IsSuccessor s t successor
    → (x : Queued) → successor ≡ Some x → x.want ≢ Shared
unshared_successor s t successor is x e = ((is x.thread x.want).0 e).1

-- ---------------------------------------------------------------- the limit

limited : (r : Rules) (s : LockState) → count s ≤ r.limit → ((p : Pending) → s.pending ≡ Some p
    → p.falls_back ≡ false) → HasLimit r s
limited r s few anew = record {
  top = omega arith;
  normal = λ e. few;
  falls = λ p e f. few;
  falls_normal = λ p e f normal. absurd (let g : p.falls_back ≡ false = anew p e in cc);
}

pub handed_limit : (r : Rules) (right : Want) (successor : Option Queued) (s : LockState) (t : ℕ)
    → IsLockState r s → Needs r (HandOff right successor) s t → t < length s.shared → s.taken t ≡ None
    → length s.shared ≤ r.limit → HasLimit r (handed t right successor s)
handed_limit r Exclusive successor s t state needs lt awake room = limited r (handed t Exclusive successor s)
    few (successor_pends successor given alone.0)
  where
    alone : (s.pending ≡ None) × (s.upgradable ≡ None) × (readers s ≡ 0)
    alone = state.exclusive_alone t needs.0

    given : LockState
    given = sharing_handed t (without_owner t Exclusive s)

    few : count (handed t Exclusive successor s) ≤ r.limit
    few =
        let a : sum (sharing_from t s.taken 0 s.shared) + 1 ≤ sum s.shared + length s.shared =
        sharing_fewer t s.taken 0 t s.shared lt (subst (λ k. shares_handed t (s.taken k) ≡ 0)
        (omega arith) (ap (shares_handed t) awake)) in
        let b : count (with_successor successor given) ≤ readers given + 1 =
        successor_counts successor given alone.1 (unshared_successor s t successor needs.2) in
        let c : readers s ≡ 0 = alone.2 in
        omega arith
handed_limit r Upgradable successor s t state needs lt awake room =
    limited r (handed t Upgradable successor s) needs.3 (successor_pends successor
    (sharing_handed t (without_owner t Upgradable s)) (none_beside s.pending refl))
  where
    none_beside : (o : Option Pending) → s.pending ≡ o → s.pending ≡ None
    none_beside None e = e
    none_beside (Some p) e = absurd (let none : s.upgradable ≡ None = state.pending_alone p e
        in let own : s.upgradable ≡ Some t = needs.0 in cc)
handed_limit r Shared successor s t state needs lt awake room = absurd (needs.1 refl)
handed_limit r x successor s t state needs lt awake room = absurd needs.0
