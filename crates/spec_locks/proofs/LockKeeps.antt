-- Each case of a lock keeps what holds in every state.
use Rattle.std.proofs.Common.{ℕ, Bool, Option, Some, None, ◌≡◌, ◌≢◌, ◌≤◌, ◌↔◌, ◌+◌, ◌-◌, inl, inr, List, []}
use Rattle.std.proofs.Common.{◌∷◌, ◌++◌, length, refl, ap, arith}
use Rattle.std.proofs.lemmas.Bool.{cases_lt}
use Rattle.std.proofs.lemmas.Bool.Decides.{nat_tests}
use Rattle.std.proofs.lemmas.List.{get_or_past, set_past, take-append-drop}
use Rattle.std.proofs.lemmas.List.Sums.{get_or-le-sum_by, sum_by-set}
use Rattle.std.proofs.lemmas.List.Folds.{sum_by-replicate}
use Rattle.std.specs.Prelude.{not, filter, take, drop, sum, slice_index, slice_set}
use Rattle.core_base.specs.declared.wants.Want.{Want}
use Rattle.core_base.specs.declared.wants.Want.TheVariants.{Shared, Wait, CallOnce}
use Rattle.spec_locks.specs.Onces.{Phase, OnceCase, Start, Finish, Fail, Rest, TakeAll, MayRest}
use Rattle.spec_locks.specs.Locks.{LockState, Queued, Taken, Sort, Rules, LockCase, OfOnce, OnceNeeds}
use Rattle.spec_locks.specs.Locks.{once_after, Once, Enter, Pend, Settle, Leave, Convert, Park, Aside}
use Rattle.spec_locks.specs.Locks.{TakeFirst, TakeAside, TakePicked, Wake, HandOff, Late, Rollback, Needs}
use Rattle.spec_locks.specs.Locks.{after_case, IsLockState, Knows, KnowsAll, NoWriter, Owns, without_owner}
use Rattle.spec_locks.specs.Locks.{sharing_from, sharing_handed, succeeding, times, one_if_some, taking}
use Rattle.spec_locks.specs.Locks.{wants_shared, front_of, stop_of, opening_lock, OfCondvar, SeeOwner, Look}
use Rattle.spec_locks.specs.Locks.{Show, Hide}

none_if_not : {A : Type 0} (o : Option A) → ((x : A) → o ≡ Some x → ⊥) → o ≡ None
none_if_not o h = grind arith

-- nobody sleeps aside where nobody is pending
pub no_aside : (r : Rules) (s : LockState) → IsLockState r s → s.pending ≡ None → s.aside ≡ None
no_aside r s c e = none_if_not s.aside (λ t h. rw e at (c.aside_pending t h))

-- ---------------------------------------------------------------- the queue and the taken

pub times_append : (u : ℕ) (xs ys : List Queued) → times u (xs ++ ys) ≡ times u xs + times u ys
times_append u [] ys = grind arith
times_append u (x ∷ xs) ys = grind (arith, times_append u xs ys)

pub times_filter : (u : ℕ) (p : Queued → Bool) (xs : List Queued) → times u (filter p xs) + times u
    (filter (λ x. not (p x)) xs) ≡ times u xs
times_filter u p [] = refl
times_filter u p (x ∷ xs) = grind (arith, times_filter u p xs)

pub times_taking : (u t : ℕ) (xs : List Queued) (taken : ℕ → Option Taken) → one_if_some (taking t xs taken u)
    ≤ times u xs + one_if_some (taken u)
times_taking u t [] taken = grind arith
times_taking u t (x ∷ xs) taken = grind (arith, nat_tests, times_taking u t xs)

pub known_append : (sort : Sort) (xs ys : List Queued) → KnowsAll sort (xs ++ ys) ↔ (KnowsAll sort xs
    × KnowsAll sort ys)
known_append sort [] ys = grind arith
known_append sort (x ∷ xs) ys = grind (arith, known_append sort xs ys)

known_filter : (sort : Sort) (p : Queued → Bool) (xs : List Queued) → KnowsAll sort xs
    → KnowsAll sort (filter p xs)
known_filter sort p [] all = tt
known_filter sort p (x ∷ xs) all = grind (arith, known_filter sort p xs all.1)

pub known_taking : (sort : Sort) (t : ℕ) (xs : List Queued) (taken : ℕ → Option Taken) → KnowsAll sort xs
    → ((u : ℕ) (h : Taken) → taken u ≡ Some h → Knows sort h.want) → (u : ℕ) (h : Taken) → taking t xs taken u
    ≡ Some h → Knows sort h.want
known_taking sort t [] taken all known = known
known_taking sort t (x ∷ xs) taken all known = known_taking sort t xs _ all.1
    (λ u h e. grind (arith, nat_tests))

-- a thread takes the first m of the first n, and of those after them each thread that p picks; the others
-- stay in order
takes : (r : Rules) (s : LockState) (t m n : ℕ) (p : Queued → Bool) → IsLockState r s
    → IsLockState r (record s {
      queue = filter (λ x. not (p x)) (drop m (take n s.queue)) ++ drop n s.queue;
      taken = taking t (take m (take n s.queue) ++ filter p (drop m (take n s.queue))) s.taken;
    })
takes r s t m n p c =
    let q = take n s.queue in
    let known = (known_append r.sort q (drop n s.queue)).0 (rw take-append-drop c.known_queue) in
    let known_front = (known_append r.sort (take m q) (drop m q)).0 (rw take-append-drop known.0) in
    grind (
      arith,
      take-append-drop n s.queue,
      take-append-drop m q,
      times_append,
      times_filter,
      times_taking,
      known_append,
      known_filter,
      known_taking,
    )

-- ---------------------------------------------------------------- the hand-over

-- where the lock knows no readers, nobody that is taken wants to share
pub sharing_same : (r : Rules) (s : LockState) (t i : ℕ) (xs : List ℕ) → IsLockState r s
    → (Knows r.sort Shared → ⊥) → sharing_from t s.taken i xs ≡ xs
sharing_same r s t i [] c none = refl
sharing_same r s t i (x ∷ xs) c none = grind (arith, c.known_taken i, sharing_same r s t (i + 1) xs c none)

-- the owner has left, and those that it has taken and that want to share do so: no writer is there
shares : (r : Rules) (s : LockState) (t : ℕ) (right : Want) → IsLockState r s → Owns s t right
    → right ≢ Shared → IsLockState r (sharing_handed t (without_owner t right s))
    × NoWriter (without_owner t right s)
shares r s t right c owns more = grind (arith, nat_tests, sharing_same r s t 0 s.shared c)

-- the successor owns then, or is pending
succeeds : (r : Rules) (s : LockState) (x : Queued) → IsLockState r s → NoWriter s → Knows r.sort x.want
    → x.want ≢ Shared → IsLockState r (succeeding x.want x.thread s)
succeeds r s x c free knows more = grind (arith, nat_tests, no_aside r s c)

-- ---------------------------------------------------------------- deeds on a `Once`

pub rephased : (r : Rules) (s : LockState) (p : Phase) → IsLockState r s
    → IsLockState r (record s { phase = p })
rephased r s p c = record {
  exclusive_alone = c.exclusive_alone;
  pending_alone = c.pending_alone;
  aside_pending = c.aside_pending;
  once = c.once;
  known_queue = c.known_queue;
  known_taken = c.known_taken;
  unshared = c.unshared;
  unpending = c.unpending;
  unwritten = c.unwritten;
  within = c.within;
}

-- another mutex is shown, or none
pub reshown : (r : Rules) (s : LockState) (m : Option ℕ) → IsLockState r s
    → IsLockState r (record s { shown = m })
reshown r s m c = record {
  exclusive_alone = c.exclusive_alone;
  pending_alone = c.pending_alone;
  aside_pending = c.aside_pending;
  once = c.once;
  known_queue = c.known_queue;
  known_taken = c.known_taken;
  unshared = c.unshared;
  unpending = c.unpending;
  unwritten = c.unwritten;
  within = c.within;
}

rests_known : (x : Want) (forced : Bool) (p : Phase) → MayRest x forced p → Knows Once x
rests_known CallOnce forced p may = tt
rests_known Wait forced p may = tt
rests_known x forced p may = absurd (grind arith)

once_keeps : (r : Rules) (case : OnceCase) (s : LockState) (t : ℕ) → IsLockState r s → r.sort ≡ Once
    → OnceNeeds case s t → IsLockState r (once_after case s t)
once_keeps r (Start forced) s t c sort n = rephased r s _ c
once_keeps r Finish s t c sort n = rephased r s _ c
once_keeps r Fail s t c sort n = rephased r s _ c
once_keeps r (Rest wanted forced) s t c sort n =
    let known = rests_known wanted forced s.phase n.0 in
    grind (arith, nat_tests, times_append, known_append, sort)
once_keeps r TakeAll s t c sort n = grind (arith, nat_tests, times_taking, known_taking, sort)

-- a shared right more is one more that shares, at most
more_share : (xs : List ℕ) (t : ℕ) → sum (slice_set xs t (slice_index xs t + 1)) ≤ sum xs + 1
more_share xs t = elim (cases_lt t (length xs)) [
  | inl lt ↦ let e = sum_by-set (λ (n : ℕ). n) xs t (slice_index xs t + 1) 0 lt in omega arith
  | inr past ↦ let e = ap sum (set_past xs t (slice_index xs t + 1) past) in omega arith
]

less_share : (xs : List ℕ) (t : ℕ) → sum (slice_set xs t (slice_index xs t - 1)) ≤ sum xs
less_share xs t = elim (cases_lt t (length xs)) [
  | inl lt ↦ let e = sum_by-set (λ (n : ℕ). n) xs t (slice_index xs t - 1) 0 lt in omega arith
  | inr past ↦ let e = ap sum (set_past xs t (slice_index xs t - 1) past) in omega arith
]

-- ---------------------------------------------------------------- all cases

pub case_keeps : (r : Rules) (c : LockCase) (s : LockState) (t : ℕ) → IsLockState r s → Needs r c s t
    → IsLockState r (after_case r c s t)
case_keeps r (Enter Shared) s t c n = grind (arith, more_share s.shared t)
case_keeps r (Enter x) s t c n = grind arith
case_keeps r Pend s t c n = grind (arith, no_aside r s c)
case_keeps r Settle s t c n = grind arith
case_keeps r (Leave right) s t c n = grind (arith, get_or-le-sum_by, get_or_past, less_share s.shared t)
case_keeps r (Convert right x) s t c n = grind (arith, nat_tests, no_aside r s c)
case_keeps r (Park x) s t c n = grind (arith, nat_tests, times_append, known_append)
case_keeps r Aside s t c n = grind (arith, nat_tests)
case_keeps r (TakeFirst x) s t c n = grind (arith, nat_tests)
case_keeps r (TakeAside u) s t c n = grind (arith, nat_tests, c.aside_pending u n.0)
case_keeps r (TakePicked start) s t c n = takes r s t (front_of start s.queue) (stop_of r.sort start s.queue)
    (λ x. wants_shared x.want) c
case_keeps r Wake s t c n = grind (arith, nat_tests)
case_keeps r (HandOff right None) s t c n = (shares r s t right c n.0 n.1).0
case_keeps r (HandOff right (Some x)) s t c n = let left = shares r s t right c n.0 n.1 in let is_taken =
    (n.2 x.thread x.want).0 refl in succeeds r (sharing_handed t (without_owner t right s)) x left.0 left.1
    (c.known_taken x.thread _ is_taken.0) is_taken.1
case_keeps r Late s t c n = grind (arith, nat_tests, times_filter, known_filter)
case_keeps r Rollback s t c n = grind arith
case_keeps r (OfOnce case) s t c n = once_keeps r case s t c n.0 n.1
case_keeps r (OfCondvar (Look seen)) s t c n = c
case_keeps r (OfCondvar (Show m)) s t c n = reshown r s _ c
case_keeps r (OfCondvar Hide) s t c n = reshown r s _ c
case_keeps r (SeeOwner owned) s t c n = c

pub opening_is_state : (r : Rules) (threads : ℕ) → IsLockState r (opening_lock threads)
opening_is_state r threads = grind (arith, sum_by-replicate)
