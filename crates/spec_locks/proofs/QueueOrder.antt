-- Each step keeps the order of each queue: those that stay keep theirs, and a thread that joins stands after
-- them.
use Rattle.std.proofs.Common.{ℕ, zero, suc, Bool, true, false, Option, Some, None, if◌then◌else◌, ◌==◌, ◌≡◌}
use Rattle.std.proofs.Common.{◌≤◌, ◌+◌, inl, inr, List, [], ◌∷◌, ◌++◌, refl, sym, ◌∙◌, ap, subst, arith}
use Rattle.std.proofs.lemmas.Bool.{eqb-true}
use Rattle.std.proofs.lemmas.Bool.Decides.{nat_tests}
use Rattle.std.proofs.lemmas.List.{take-append-drop}
use Rattle.std.specs.Prelude.{not, filter, take, drop, map}
use Rattle.core_base.specs.declared.wants.Want.{Want}
use Rattle.core_base.specs.declared.wants.Want.TheVariants.{Exclusive, Upgradable, Shared, Wait, CallOnce}
use Rattle.spec_locks.specs.declared.calls.Turn.{Turn}
use Rattle.spec_locks.specs.declared.calls.Turn.TheVariants as turn
use Rattle.spec_locks.specs.declared.calls.Step.{Step}
use Rattle.spec_locks.specs.declared.outcomes.Outcome.{Outcome}
use Rattle.spec_locks.specs.Onces.{OnceCase, Start, Finish, Fail, Rest, TakeAll}
use Rattle.spec_locks.specs.Condvars.{moved_of, line_of, wanting_mutex}
use Rattle.spec_locks.specs.Locks as locks
use Rattle.spec_locks.specs.Locks.{LockState, LockCase, Queued, Rules, Needs, OnceNeeds, Enter, Pend, Settle}
use Rattle.spec_locks.specs.Locks.{Leave, Convert, Park, Aside, TakeFirst, TakeAside, TakePicked, Wake}
use Rattle.spec_locks.specs.Locks.{HandOff, Late, Rollback, OfOnce, OfCondvar, SeeOwner, Look, Show, Hide}
use Rattle.spec_locks.specs.Locks.{after_case, left_after, putting, standing, times, wants_shared}
use Rattle.spec_locks.specs.Runs.{LocksState, CallState, Event, Nothing, AtLock, Moves, GoesOn, Stays, Does}
use Rattle.spec_locks.specs.Runs.{MayHappen, Turned, IsStep, is_among, joined_by, locks_after, rules_at}
use Rattle.spec_locks.specs.EachStep.{IsPartOf, KeepsOrderOf, QueuesKeepOrder}
use Rattle.spec_locks.proofs.Runs.{needs_of}

-- ---------------------------------------------------------------- parts of a line

pub skip : (x : Queued) (xs q : List Queued) → IsPartOf xs q → IsPartOf xs (x ∷ q)
skip x [] q h = tt
skip x (y ∷ xs) q h = inr h

pub whole : (q : List Queued) → IsPartOf q q
whole [] = tt
whole (x ∷ q) = inl (refl, whole q)

kept_or_not : (x : Queued) (q xs : List Queued) → IsPartOf xs q → (b : Bool)
    → IsPartOf (if b then x ∷ xs else xs) (x ∷ q)
kept_or_not x q xs h true = inl (refl, h)
kept_or_not x q xs h false = skip x xs q h

filtered : (p : Queued → Bool) (q : List Queued) → IsPartOf (filter p q) q
filtered p [] = tt
filtered p (x ∷ q) = kept_or_not x q (filter p q) (filtered p q) (p x)

pub dropped : (n : ℕ) (q : List Queued) → IsPartOf (drop n q) q
dropped zero q = whole q
dropped (suc n) [] = tt
dropped (suc n) (x ∷ q) = skip x (drop n q) q (dropped n q)

filtered_rest : (p : Queued → Bool) (n : ℕ) (q : List Queued) → IsPartOf (filter p (drop n q)) q
filtered_rest p zero q = filtered p q
filtered_rest p (suc n) [] = tt
filtered_rest p (suc n) (x ∷ q) = skip x (filter p (drop n q)) q (filtered_rest p n q)

afterwards : (x : Queued) (xs q : List Queued) → IsPartOf xs q → (more : List Queued)
    → IsPartOf xs (more ++ q)
afterwards x xs q h [] = h
afterwards x xs q h (y ∷ more) = skip y xs (more ++ q) (afterwards x xs q h more)

both : (xs ys q r : List Queued) → IsPartOf xs q → IsPartOf ys r → IsPartOf (xs ++ ys) (q ++ r)
both [] [] [] r h g = tt
both [] (y ∷ ys) [] r h g = g
both [] ys (x ∷ q) r h g = skip x ys (q ++ r) (both [] ys q r tt g)
both (x ∷ xs) ys [] r h g = absurd h
both (x ∷ xs) ys (y ∷ q) r (inl h) g = inl (h.0, both xs ys q r h.1 g)
both (x ∷ xs) ys (y ∷ q) r (inr h) g = inr (both (x ∷ xs) ys q r h g)

-- ---------------------------------------------------------------- lines

pub append_none : (q : List Queued) → q ≡ q ++ []
append_none [] = refl
append_none (x ∷ q) = ap (λ r. x ∷ r) (append_none q)

part_so : (before now : List Queued) → IsPartOf now before → KeepsOrderOf before now
part_so before now h = record {
  left = now;
  joined = [];
  is = append_none now;
  order = h;
  anew = λ t some. absurd (let few : 1 ≤ 0 = some in omega arith);
}

same_so : (before now : List Queued) → now ≡ before → KeepsOrderOf before now
same_so before now e = part_so before now (subst (λ q. IsPartOf q before) (sym e) (whole before))

one_more : (t : ℕ) (x : Want) (q : List Queued) → times t q ≡ 0
    → KeepsOrderOf q (q ++ (record { thread = t; want = x }) ∷ [])
one_more t x q none = record {
  left = q;
  joined = (record { thread = t; want = x }) ∷ [];
  is = refl;
  order = whole q;
  anew = λ u some. grind (arith, nat_tests);
}

-- ---------------------------------------------------------------- a case

unpicked_part : (r : Rules) (start : Option Want) (q : List Queued) → IsPartOf (locks.unpicked r.sort start q)
    q
unpicked_part r start q =
    let n = locks.stop_of r.sort start q in
    let m = locks.front_of start q in
    subst (λ (whole : List Queued). IsPartOf (locks.unpicked r.sort start q) whole) (take-append-drop n q)
    (both (filter (λ (x : Queued). not (wants_shared x.want)) (drop m (take n q))) (drop n q) (take n q)
    (drop n q) (filtered_rest (λ (x : Queued). not (wants_shared x.want)) m (take n q))
    (whole (drop n q)))

module _ (r : Rules) (s : LockState) (t : ℕ) where
  pub owned : (x : Want) → (locks.with_owner t x s).queue ≡ s.queue
  owned Exclusive = refl
  owned Upgradable = refl
  owned Shared = refl
  owned Wait = refl
  owned CallOnce = refl

  pub disowned : (x : Want) → (locks.without_owner t x s).queue ≡ s.queue
  disowned Exclusive = refl
  disowned Upgradable = refl
  disowned Shared = refl
  disowned Wait = refl
  disowned CallOnce = refl

writes : (t : ℕ) (b : Bool) (s : LockState) → (locks.writing t b s).queue ≡ s.queue
writes t b s = either (locks.readers s == 0)
  where
    either : (c : Bool) → (if c then locks.with_owner t Exclusive s else locks.pending_for t b s).queue
        ≡ s.queue
    either true = refl
    either false = refl

pub converts : (t : ℕ) (x : Want) (s : LockState) → (locks.converted t x s).queue ≡ s.queue
converts t Exclusive s = writes t true s
converts t Upgradable s = refl
converts t Shared s = refl
converts t Wait s = refl
converts t CallOnce s = refl

succeeds : (x : Want) (t : ℕ) (s : LockState) → (locks.succeeding x t s).queue ≡ s.queue
succeeds Exclusive t s = writes t false s
succeeds Upgradable t s = refl
succeeds Shared t s = refl
succeeds Wait t s = refl
succeeds CallOnce t s = refl

pub succeeded : (o : Option Queued) (s : LockState) → (locks.with_successor o s).queue ≡ s.queue
succeeded None s = refl
succeeded (Some x) s = succeeds x.want x.thread s

pub falls : (t : ℕ) (o : Option locks.Pending) (s : LockState) → (locks.falling_back t o s).queue ≡ s.queue
falls t None s = refl
falls t (Some p) s = either p.falls_back
  where
    either : (b : Bool) → (if b then locks.with_owner t Upgradable s else s).queue ≡ s.queue
    either true = refl
    either false = refl

at_once : (case : OnceCase) (s : LockState) (t : ℕ) → OnceNeeds case s t → KeepsOrderOf s.queue
    (locks.once_after case s t).queue
at_once (Start forced) s t n = same_so s.queue s.queue refl
at_once Finish s t n = same_so s.queue s.queue refl
at_once Fail s t n = same_so s.queue s.queue refl
at_once (Rest wanted forced) s t n = one_more t wanted s.queue (let e : standing t s ≡ 0 = n.1 in omega arith)
at_once TakeAll s t n = part_so s.queue [] tt

case_orders : (r : Rules) (c : LockCase) (s : LockState) (t : ℕ) → Needs r c s t
    → KeepsOrderOf s.queue (after_case r c s t).queue
case_orders r (Enter x) s t n = same_so s.queue _ (owned r s t x)
case_orders r Pend s t n = same_so s.queue _ refl
case_orders r Settle s t n = same_so s.queue _ refl
case_orders r (Leave x) s t n = same_so s.queue _ (disowned r s t x)
case_orders r (Convert x y) s t n = same_so s.queue _ (converts t y (locks.without_owner t x s)
    ∙ disowned r s t x)
case_orders r (Park x) s t n = one_more t x s.queue (let e : standing t s ≡ 0 = n.1 in omega arith)
case_orders r Aside s t n = same_so s.queue _ refl
case_orders r (TakeFirst x) s t n = part_so s.queue _ (dropped 1 s.queue)
case_orders r (TakeAside u) s t n = same_so s.queue _ refl
case_orders r (TakePicked start) s t n = part_so s.queue _ (unpicked_part r start s.queue)
case_orders r Wake s t n = same_so s.queue _ refl
case_orders r (HandOff x successor) s t n =
    same_so s.queue _ (succeeded successor (locks.sharing_handed t (locks.without_owner t x s))
    ∙ disowned r s t x)
case_orders r Late s t n = part_so s.queue _ (filtered (λ (x : Queued). not (x.thread == t)) s.queue)
case_orders r Rollback s t n = same_so s.queue _ (falls t s.pending (record s { pending = None }))
case_orders r (OfOnce case) s t n = at_once case s t n.1
case_orders r (OfCondvar (Look seen)) s t n = same_so s.queue _ refl
case_orders r (OfCondvar (Show m)) s t n = same_so s.queue _ refl
case_orders r (OfCondvar Hide) s t n = same_so s.queue _ refl
case_orders r (SeeOwner b) s t n = same_so s.queue _ refl

-- ---------------------------------------------------------------- a notification

pub mapped_times : (u : ℕ) (q : List Queued) → times u (map wanting_mutex q) ≡ times u q
mapped_times u [] = refl
mapped_times u (x ∷ q) = ap (λ n. (if x.thread == u then 1 else 0) + n) (mapped_times u q)

pub dropped_times : (u : ℕ) (q : List Queued) → times u (drop 1 q) ≤ times u q
dropped_times u [] = grind arith
dropped_times u (x ∷ q) = grind arith

pub lined : (owned : Bool) (u : ℕ) (moved : List Queued) → times u (line_of owned moved) ≤ times u moved
lined true u moved = let e = mapped_times u moved in omega arith
lined false u moved = let e = mapped_times u moved in let f = dropped_times u (map wanting_mutex moved)
    in omega arith

event_orders : (w : LocksState) (t : ℕ) (e : Event) → MayHappen w t e → (l : ℕ)
    → KeepsOrderOf (w.locks l).queue (locks_after w t e l).queue
event_orders w t Nothing may l = same_so (w.locks l).queue _ refl
event_orders w t (Moves c m every owned n) may l = at_mutex (l == m) refl
  where
    at_condvar : (b : Bool) → (l == c) ≡ b → KeepsOrderOf (w.locks l).queue
        (if b then left_after every (w.locks c) else w.locks l).queue
    at_condvar false e = same_so (w.locks l).queue _ refl
    at_condvar true e = let same : l ≡ c = eqb-true l c e in rw same (left every)
      where
        left : (b : Bool) → KeepsOrderOf (w.locks c).queue (left_after b (w.locks c)).queue
        left true = part_so (w.locks c).queue [] tt
        left false = part_so (w.locks c).queue _ (dropped 1 (w.locks c).queue)

    at_mutex : (b : Bool) → (l == m) ≡ b
        → KeepsOrderOf (w.locks l).queue (if b then joined_by owned t (moved_of every (w.locks c).queue)
        (w.locks m) else putting w.locks c (left_after every (w.locks c)) l).queue
    at_mutex false e = at_condvar (l == c) refl
    at_mutex true e = let same : l ≡ m = eqb-true l m e in rw same (record {
      left = (w.locks m).queue;
      joined = line_of owned (moved_of every (w.locks c).queue);
      is = refl;
      order = whole (w.locks m).queue;
      anew = λ u some. joins u some;
    })
      where
        joins : (u : ℕ) → 1 ≤ times u (line_of owned (moved_of every (w.locks c).queue))
            → times u (w.locks m).queue ≡ 0
        joins u some =
            let more : times u (line_of owned (moved_of every (w.locks c).queue))
            ≤ times u (moved_of every (w.locks c).queue) =
            lined owned u (moved_of every (w.locks c).queue) in
            let among : is_among u (moved_of every (w.locks c).queue) ≡ true = grind (arith, nat_tests) in
            let none : standing u (w.locks m) ≡ 0 = (may.wait u among).1 in
            omega arith
event_orders w t (AtLock k case) may l = either (l == k) refl
  where
    either : (b : Bool) → (l == k) ≡ b
        → KeepsOrderOf (w.locks l).queue (if b then after_case (rules_at w k) case (w.locks k) t
        else w.locks l).queue
    either false e = same_so (w.locks l).queue _ refl
    either true e = let same : l ≡ k = eqb-true l k e
        in rw same (case_orders (rules_at w k) case (w.locks k) t (needs_of w t k case (w.calls t).purpose
        may))

-- ---------------------------------------------------------------- a step

module _ (w v : LocksState) (t : ℕ) (o : Outcome) where
  by_event : GoesOn w t o v → QueuesKeepOrder w v
  by_event g l = subst (λ (s : LockState). KeepsOrderOf (w.locks l).queue s.queue) (sym (g.locks l))
      (event_orders w t g.event g.may l)

  by_stay : (c : CallState) → Stays w t c o v → QueuesKeepOrder w v
  by_stay c s l = same_so (w.locks l).queue _ (ap (λ (k : LockState). k.queue) (s.locks l))

  by_turn : (x : Turn) → Does w t x o v → QueuesKeepOrder w v
  by_turn (turn.Begin c) d = by_stay _ d
  by_turn turn.Go d = by_event d
  by_turn turn.Spin d = by_event d.goes
  by_turn turn.Late d = by_stay _ d
  by_turn turn.Ok d = by_event d.goes
  by_turn turn.Err d = by_event d.goes

  turned_orders : (x : Turn) → Turned w t x o v → QueuesKeepOrder w v
  turned_orders x (inl d) = by_turn x d.1
  turned_orders x (inr r) = λ l. same_so (w.locks l).queue _ (ap (λ (u : LocksState). (u.locks l).queue)
      r.1.1)

pub queues_keep_order : (w v : LocksState) (s : Step) (o : Outcome) → IsStep w s o v → QueuesKeepOrder w v
queues_keep_order w v s o h = turned_orders w v s.thread o s.turn h.1
