-- The waiters that are taken from a queue, and the turn that is passed on.
use Rattle.std.proofs.Common.{ℕ, Bool, true, false, Option, Some, None, ◌≡◌, ◌≢◌, ◌≤◌, ◌<◌, ◌+◌, ◌⊎◌, inl}
use Rattle.std.proofs.Common.{inr, List, [], ◌∷◌, ◌++◌, take, drop, subst, refl, ap, length, ◌∙◌, arith, suc}
use Rattle.std.specs.Prelude.{filter, not, zero, suc, slice_index, if◌then◌else◌, ◌==◌, ◌-◌}
use Rattle.std.proofs.lemmas.Bool.Decides.{nat_tests}
use Rattle.std.proofs.lemmas.List.{take-append-drop}
use Rattle.std.proofs.Math.Seq.{take-nil, drop-nil}
use Rattle.core_base.specs.declared.wants.Want.{Want}
use Rattle.core_base.specs.declared.wants.Want.TheVariants.{Exclusive, Upgradable, Shared}
use Rattle.spec_locks.specs.Locks.{LockState, sharing_handed, sharing_from, shares_handed, without_owner}
use Rattle.spec_locks.specs.Locks.{Queued, Taken, Sort, Mutex, Normal, Recursive, Semaphore, Once, Rules}
use Rattle.spec_locks.specs.Locks.{Knows, IsLockState, times, taking, picked, unpicked, front_of, keeps_more}
use Rattle.spec_locks.specs.Locks.{sharers, stop_of, wants_shared, one_if_some, putting, without, keep_from}
use Rattle.spec_locks.specs.Locks.{let_go, with_owner, pending_for, succeeding, with_successor, handed}
use Rattle.spec_locks.specs.Locks.{readers, Condvar}
use Rattle.spec_locks.specs.Sites.{IsOpen, counts, counts_taken}
use Rattle.spec_locks.proofs.LockKeeps.{times_append, times_filter}

-- a thread that isn't among those that are taken stays as it was
pub taking_others : (t u : ℕ) (xs : List Queued) (taken : ℕ → Option Taken) → times u xs ≡ 0
    → taking t xs taken u ≡ taken u
taking_others t u [] taken none = refl
taking_others t u (x ∷ xs) taken none = grind (arith, nat_tests, taking_others t u xs)

-- a thread that is taken is taken by t, or was before
pub taking_by : (t u : ℕ) (xs : List Queued) (taken : ℕ → Option Taken) (h : Taken) → taking t xs taken u
    ≡ Some h → (h.by ≡ t) ⊎ (taken u ≡ Some h)
taking_by t u [] taken h e = inr e
taking_by t u (x ∷ xs) taken h e = grind (arith, nat_tests, taking_by t u xs)

times_filtered : (u : ℕ) (p : Queued → Bool) (xs : List Queued) → times u (filter p xs) ≤ times u xs
times_filtered u p [] = grind arith
times_filtered u p (x ∷ xs) = grind (arith, times_filtered u p xs)

times_cut : (u n : ℕ) (xs : List Queued) → times u (take n xs) + times u (drop n xs) ≡ times u xs
times_cut u n xs = grind (arith, times_append u (take n xs) (drop n xs), take-append-drop n xs)

times_part : (u m n : ℕ) (p : Queued → Bool) (xs : List Queued)
    → times u (take m (take n xs) ++ filter p (drop m (take n xs))) + times u
    (filter (λ x. not (p x)) (drop m (take n xs)) ++ drop n xs) ≡ times u xs
times_part u m n p xs =
    let a = times_append u (take m (take n xs)) (filter p (drop m (take n xs))) in
    let b = times_append u (filter (λ (x : Queued). not (p x)) (drop m (take n xs))) (drop n xs) in
    let c = times_filter u p (drop m (take n xs)) in
    let d = times_cut u m (take n xs) in
    let e = times_cut u n xs in
    omega arith

pub times_picked : (sort : Sort) (start : Option Want) (u : ℕ) (q : List Queued)
    → times u (picked sort start q) + times u (unpicked sort start q) ≡ times u q
times_picked sort start u q = times_part u (front_of start q) (stop_of sort start q)
    (λ x. wants_shared x.want) q

-- ---------------------------------------------------------------- the turn is passed on

-- each thread that wants to share ahead of the others is picked
abbrev part : ℕ → ℕ → List Queued → List Queued
part m n q = take m (take n q) ++ sharers (drop m (take n q))

front_more : (start : Option Want) (x : Queued) (q : List Queued) → wants_shared x.want ≡ true
    → front_of start (x ∷ q) ≡ suc (front_of start q)
front_more start x q shares = grind arith

stop_more : (sort : Sort) (start : Option Want) (x : Queued) (q : List Queued) → wants_shared x.want ≡ true
    → stop_of sort start (x ∷ q) ≡ suc (stop_of sort start q)
stop_more sort start x q shares = grind arith

sharer_picked : (sort : Sort) (start : Option Want) (x : Queued) (q : List Queued) → wants_shared x.want
    ≡ true → picked sort start (x ∷ q) ≡ x ∷ picked sort start q
sharer_picked sort start x q shares =
    ap (λ m. part m (stop_of sort start (x ∷ q)) (x ∷ q)) (front_more start x q shares)
    ∙ ap (λ n. part (suc (front_of start q)) n (x ∷ q)) (stop_more sort start x q shares)

sharer_unpicked : (sort : Sort) (start : Option Want) (x : Queued) (q : List Queued) → wants_shared x.want
    ≡ true → unpicked sort start (x ∷ q) ≡ unpicked sort start q
sharer_unpicked sort start x q shares = grind arith

-- The first is picked, and then the first of the others.
pub record IsPickedFirst (sort : Sort) (start : Option Want) (x : Queued) (q : List Queued) : Type 0 where
  pub rest : List Queued
  pub is : picked sort start (x ∷ q) ≡ x ∷ rest
  pub few : (u : ℕ) → times u rest ≤ times u q

unshared_picked : (sort : Sort) (start : Option Want) (x : Queued) (q : List Queued) → wants_shared x.want
    ≡ false → keeps_more start ≡ false → IsPickedFirst sort start x q
unshared_picked sort start x q more none = either (stop_of sort start (x ∷ q)) refl
  where
    either : (n : ℕ) → stop_of sort start (x ∷ q) ≡ n → IsPickedFirst sort start x q
    either n e = record {
      rest = sharers (take (stop_of sort start (x ∷ q) - 1) q);
      is = grind arith;
      few = λ u. let a = times_filtered u (λ (y : Queued). wants_shared y.want)
          (take (stop_of sort start (x ∷ q) - 1) q) in let b = times_cut u (stop_of sort start (x ∷ q) - 1) q
          in omega arith;
    }

-- t has taken somebody whose turn it is, where somebody is left
pub passes_on : (sort : Sort) (start : Option Want) (t : ℕ) (q : List Queued) (taken : ℕ → Option Taken)
    → keeps_more start ≡ false → Knows sort Upgradable → unpicked sort start q ≢ []
    → ((u : ℕ) → times u q ≤ 1)
    → (u : ℕ) × (counts_taken sort t (taking t (picked sort start q) taken u) ≡ true)
passes_on sort start t [] taken none knows left once =
    absurd (left (grind (arith, take-nil {A = Queued}, drop-nil {A = Queued})))
passes_on sort start t (x ∷ q) taken none knows left once = either (wants_shared x.want) refl
    (passes_on sort start t q (putting taken x.thread (Some (record { by = t; want = x.want }))) none knows)
  where
    either : (b : Bool) → wants_shared x.want ≡ b
        → (unpicked sort start q ≢ [] → ((u : ℕ) → times u q ≤ 1) → (u : ℕ)
        × (counts_taken sort t (taking t (picked sort start q)
        (putting taken x.thread (Some (record { by = t; want = x.want }))) u) ≡ true))
        → (u : ℕ) × (counts_taken sort t (taking t (picked sort start (x ∷ q)) taken u) ≡ true)
    either true shares afterwards = rw (sharer_picked sort start x q shares)
        (afterwards (λ e. left (sharer_unpicked sort start x q shares ∙ e)) (λ u. let a = once u
        in grind (arith, nat_tests)))
    either false more afterwards =
        let first = unshared_picked sort start x q more none in
        let gone : times x.thread first.rest ≡ 0 = (let a = once x.thread in let b = first.few x.thread
        in grind (arith, nat_tests)) in (
          x.thread,
          rw first.is (rw (taking_others t x.thread first.rest (putting taken x.thread
              (Some (record { by = t; want = x.want }))) gone) (grind (arith, nat_tests))),
        )

-- each thread that leaves the queue, the others stand as often
pub without_fewer : (u t : ℕ) (q : List Queued) → times u (without t q) ≤ times u q
without_fewer u t q = times_filtered u (λ x. not (x.thread == t)) q

-- ---------------------------------------------------------------- waiters that t has taken are let go

pub kept_few : (t : ℕ) (o : Option Taken) → one_if_some (keep_from t o) ≤ one_if_some o
kept_few t None = grind arith
kept_few t (Some a) = grind arith

pub kept_counts : (sort : Sort) (t u : ℕ) (o : Option Taken) → u ≢ t → counts_taken sort u o ≡ true
    → counts_taken sort u (keep_from t o) ≡ true
kept_counts sort t u None ne c = absurd cc
kept_counts sort t u (Some a) ne c = grind (arith, nat_tests)

pub kept_by : (t : ℕ) (o : Option Taken) (a : Taken) → keep_from t o ≡ Some a → (a.by ≢ t) × (o ≡ Some a)
kept_by t None a e = absurd cc
kept_by t (Some b) a e = grind (arith, nat_tests)

-- ---------------------------------------------------------------- a right is handed on

-- a right that is handed on changes no line, and lets the threads that t has taken go
pub record IsHanded (s now : LockState) (t : ℕ) : Type 0 where
  pub queue : now.queue ≡ s.queue
  pub aside : now.aside ≡ s.aside
  pub taken : (u : ℕ) → now.taken u ≡ let_go t s.taken u
  pub phase : now.phase ≡ s.phase

writes : (t u : ℕ) (b : Bool) (s now : LockState) → IsHanded s now t
    → IsHanded s (if b then with_owner u Exclusive now else pending_for u false now) t
writes t u true s now e = record { queue = e.queue; aside = e.aside; taken = e.taken; phase = e.phase }
writes t u false s now e = record { queue = e.queue; aside = e.aside; taken = e.taken; phase = e.phase }

succeeds : (t : ℕ) (successor : Option Queued) (s now : LockState) → IsHanded s now t
    → IsHanded s (with_successor successor now) t
succeeds t None s now e = e
succeeds t (Some x) s now e = by_want x.want
  where
    by_want : (w : Want) → IsHanded s (succeeding w x.thread now) t
    by_want Exclusive = writes t x.thread (readers now == 0) s now e
    by_want Upgradable = record { queue = e.queue; aside = e.aside; taken = e.taken; phase = e.phase }
    by_want Shared = record { queue = e.queue; aside = e.aside; taken = e.taken; phase = e.phase }
    by_want w = record { queue = e.queue; aside = e.aside; taken = e.taken; phase = e.phase }

pub is_handed : (t : ℕ) (right : Want) (successor : Option Queued) (s : LockState)
    → IsHanded s (handed t right successor s) t
is_handed t Exclusive successor s = succeeds t successor s _ (record {
  queue = refl;
  aside = refl;
  taken = λ u. refl;
  phase = refl;
})
is_handed t Upgradable successor s = succeeds t successor s _ (record {
  queue = refl;
  aside = refl;
  taken = λ u. refl;
  phase = refl;
})
is_handed t Shared successor s = succeeds t successor s _ (record {
  queue = refl;
  aside = refl;
  taken = λ u. refl;
  phase = refl;
})
is_handed t x successor s = succeeds t successor s _ (record {
  queue = refl;
  aside = refl;
  taken = λ u. refl;
  phase = refl;
})

-- nobody shares less
pub sharing_more : (t : ℕ) (taken : ℕ → Option Taken) (i u : ℕ) (ns : List ℕ) → slice_index ns u
    ≤ slice_index (sharing_from t taken i ns) u
sharing_more t taken i u [] = grind arith
sharing_more t taken i zero (n ∷ ns) = grind arith
sharing_more t taken i (suc u) (n ∷ ns) = sharing_more t taken (i + 1) u ns

writes_on : (b : Bool) (u i n : ℕ) (now : LockState) → n ≤ slice_index now.shared i
    → n ≤ slice_index (if b then with_owner u Exclusive now else pending_for u false now).shared i
writes_on true u i n now h = h
writes_on false u i n now h = h

succeeds_on : (i n : ℕ) (successor : Option Queued) (now : LockState) → (successor ≡ None)
    ⊎ ((x : Queued) × ((successor ≡ Some x) × (x.want ≢ Shared))) → n ≤ slice_index now.shared i
    → n ≤ slice_index (with_successor successor now).shared i
succeeds_on i n None now e h = h
succeeds_on i n (Some x) now e h =
    by_want x.want (elim e [
      | inl k ↦ absurd cc
      | inr k ↦
          (λ f. k.1.1 (let g : k.0 ≡ x = (let m = k.1.0 in cc) in ap (λ (y : Queued). y.want) g ∙ f))
    ])
  where
    by_want : (w : Want) → w ≢ Shared → n ≤ slice_index (succeeding w x.thread now).shared i
    by_want Exclusive more = writes_on (readers now == 0) x.thread i n now h
    by_want Upgradable more = h
    by_want Shared more = absurd (more refl)
    by_want w more = h

pub shares_on : (t i n : ℕ) (right : Want) (successor : Option Queued) (s : LockState) → right ≢ Shared
    → ((successor ≡ None) ⊎ ((x : Queued) × ((successor ≡ Some x) × (x.want ≢ Shared)))) → n
    ≤ slice_index s.shared i → n ≤ slice_index (handed t right successor s).shared i
shares_on t i n Exclusive successor s more e h = let a = sharing_more t s.taken 0 i s.shared
    in succeeds_on i n successor _ e (omega arith)
shares_on t i n Upgradable successor s more e h = let a = sharing_more t s.taken 0 i s.shared
    in succeeds_on i n successor _ e (omega arith)
shares_on t i n Shared successor s more e h = absurd (more refl)
shares_on t i n x successor s more e h = let a = sharing_more t s.taken 0 i s.shared
    in succeeds_on i n successor _ e (omega arith)

-- where somebody passes the turn on, the lock is barred by each thread that has succeeded
writes_bar : (r : Rules) (b : Bool) (u : ℕ) (now : LockState) → Knows r.sort Exclusive
    → IsLockState r (if b then with_owner u Exclusive now else pending_for u false now)
    → IsOpen r.sort (if b then with_owner u Exclusive now else pending_for u false now) → ⊥
writes_bar r true u now knows c free = grind arith
writes_bar r false u now knows c free = grind (arith, c.unpending)

pub bars : (r : Rules) (u : ℕ) (w : Want) (now : LockState) → Knows r.sort w → counts r.sort w ≡ true
    → w ≢ Shared → IsLockState r (succeeding w u now) → IsOpen r.sort (succeeding w u now) → ⊥
bars r u Exclusive now knows turn more c free = writes_bar r (readers now == 0) u now knows c free
bars r u Upgradable now knows turn more c free = grind arith
bars r u Shared now knows turn more c free = more refl
bars r u w now knows turn more c free = grind arith

-- a thread that passes the turn on doesn't want to share
pub counts_more : (sort : Sort) (w : Want) → Knows sort w → sort ≢ Semaphore → counts sort w ≡ true
    → w ≢ Shared
counts_more Mutex Exclusive knows lock c e = cc
counts_more Normal w knows lock c e = let g : counts Normal Shared ≡ true = rw e at c in cc
counts_more Recursive w knows lock c e = let g : counts Recursive Shared ≡ true = rw e at c in cc
counts_more Semaphore w knows lock c e = lock refl
counts_more Mutex w knows lock c e = knows
counts_more Once w knows lock c e = cc
counts_more Condvar w knows lock c e = cc

-- -------------------------------------------------------------- after a hand-over each in hand has its right

shared_one : (t : ℕ) (taken : ℕ → Option Taken) (i u : ℕ) (ns : List ℕ) → u < length ns
    → shares_handed t (taken (i + u)) ≡ 1 → 1 ≤ slice_index (sharing_from t taken i ns) u
shared_one t taken i u [] lt e = absurd (omega arith)
shared_one t taken i zero (n ∷ ns) lt e = let f : shares_handed t (taken i) ≡ 1 =
    subst (λ k. shares_handed t (taken k) ≡ 1) (omega arith) e
    in let g : slice_index (sharing_from t taken i (n ∷ ns)) 0 ≡ n + shares_handed t (taken i) = refl
    in omega arith
shared_one t taken i (suc u) (n ∷ ns) lt e = shared_one t taken (i + 1) u ns (omega arith)
    (subst (λ k. shares_handed t (taken k) ≡ 1) (omega arith) e)

pub has_upgradable_handed : (t u : ℕ) (right : Want) (s : LockState)
    → (handed t right (Some (record { thread = u; want = Upgradable })) s).upgradable ≡ Some u
has_upgradable_handed t u right s = refl

pub has_exclusive_handed : (t u : ℕ) (right : Want) (s : LockState)
    → (readers (sharing_handed t (without_owner t right s)) == 0) ≡ true
    → (handed t right (Some (record { thread = u; want = Exclusive })) s).exclusive ≡ Some u
has_exclusive_handed t u right s e =
    ap (λ (b : Bool). (if b then with_owner u Exclusive (sharing_handed t (without_owner t right s))
    else pending_for u false (sharing_handed t (without_owner t right s))).exclusive) e

pub pends_handed : (t u : ℕ) (right : Want) (s : LockState)
    → (readers (sharing_handed t (without_owner t right s)) == 0) ≡ false
    → (handed t right (Some (record { thread = u; want = Exclusive })) s).pending ≡ Some (record {
      thread = u;
      falls_back = false;
    })
pends_handed t u right s e = ap
    (λ (b : Bool). (if b then with_owner u Exclusive (sharing_handed t (without_owner t right s))
    else pending_for u false (sharing_handed t (without_owner t right s))).pending) e

-- each in hand that wants to share does, whatever thread succeeds
pub shares_handed_on : (t u : ℕ) (right : Want) (successor : Option Queued) (s : LockState) (a : Taken)
    → right ≢ Shared → ((successor ≡ None) ⊎ ((x : Queued) × ((successor ≡ Some x) × (x.want ≢ Shared))))
    → u < length s.shared
    → s.taken u ≡ Some a → a.by ≡ t → a.want ≡ Shared → 1 ≤ slice_index (handed t right successor s).shared u
shares_handed_on t u right successor s a more e lt is mine wants = by_right right more
  where
    one_of : shares_handed t (s.taken u) ≡ 1
    one_of = rw (is, mine, wants) (grind (arith, nat_tests))

    one : shares_handed t (s.taken (0 + u)) ≡ 1
    one = subst (λ (k : ℕ). shares_handed t (s.taken k) ≡ 1) (omega arith) one_of

    by_right : (w : Want) → w ≢ Shared → 1 ≤ slice_index (handed t w successor s).shared u
    by_right Exclusive k = succeeds_on u 1 successor _ e (shared_one t s.taken 0 u s.shared lt one)
    by_right Upgradable k = succeeds_on u 1 successor _ e (shared_one t s.taken 0 u s.shared lt one)
    by_right Shared k = absurd (k refl)
    by_right w k = succeeds_on u 1 successor _ e (shared_one t s.taken 0 u s.shared lt one)
