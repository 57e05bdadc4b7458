-- Each deed keeps what holds of a condition variable between steps, and what a notification moves fits its
-- mutex.
use Rattle.std.proofs.Common.{ℕ, Bool, true, false, Option, Some, None, ◌≡◌, ◌≢◌, ◌≤◌, ◌⊎◌, inl, inr, List}
use Rattle.std.proofs.Common.{[], ◌∷◌, ◌++◌, refl, sym, subst, ◌∙◌, arith}
use Rattle.std.proofs.lemmas.Bool.{cases_eq}
use Rattle.std.proofs.lemmas.Bool.Decides.{nat_tests}
use Rattle.std.specs.Prelude.{drop, map}
use Rattle.spec_locks.specs.Locks.{Queued, Mutex, KnowsAll, putting, times, without}
use Rattle.spec_locks.specs.Sites.{Apart}
use Rattle.spec_locks.specs.Condvars.{CondvarPhase, NothingToDo, ToStandLast, SeesOther, Misses, Sees, Takes}
use Rattle.spec_locks.specs.Condvars.{Clears, Inside, CondvarSite, AllOf, IsSettledAt, IsSettled, StageHolds}
use Rattle.spec_locks.specs.Condvars.{IsAsInside, IsCondvar, BeginsWait, EndsWait, GoIn, GoOut, Show}
use Rattle.spec_locks.specs.Condvars.{SeeOther, StandLast, SeeAgain, MissIt, HideAndTakeAll, MoveFirst}
use Rattle.spec_locks.specs.Condvars.{MoveAll, LeaveList, ShowNone, IsInsideAt, at, clears_if, hidden}
use Rattle.spec_locks.specs.Condvars.{queued_to_wait, condvar_leads, MayLeaveSection, MayGoOut, IsInsideNot}
use Rattle.spec_locks.specs.Condvars.{CondvarNeeded, EachCondvarDeedKeeps, moved_of, wanting_mutex, taken_of}
use Rattle.spec_locks.specs.Condvars.{line_of, moving, EachMoveFits}
use Rattle.spec_locks.proofs.LockKeeps.{times_append}
use Rattle.spec_locks.proofs.Hands.{without_fewer}

nobody_waits : (u : ℕ) (xs : List Queued) → xs ≡ [] → 1 ≤ times u xs → ⊥
nobody_waits u xs e k = let g : 1 ≤ times u [] = rw e at k in omega arith

-- ---------------------------------------------------------------- a wait begins or ends

module _ (c : CondvarSite) (f : ℕ → Option ℕ) (agree : (u : ℕ) → 1 ≤ times u c.waiters → f u ≡ c.waits_with u)
  where
    abbrev d : CondvarSite
    d = record c { waits_with = f }

    still_all : (m : ℕ) → AllOf c m → AllOf d m
    still_all m all u k = agree u k ∙ all u k

    still_settled : (o : Option ℕ) → IsSettledAt o c → IsSettledAt o d
    still_settled None k = k
    still_settled (Some m) k = (k.0, still_all m k.1)

    still_at : (t : ℕ) (stage : CondvarPhase) → f t ≡ c.waits_with t → StageHolds c t stage
        → StageHolds d t stage
    still_at t NothingToDo e k = still_settled c.shown k
    still_at t (ToStandLast m) e k = (k.0, e ∙ k.1, still_all m k.2)
    still_at t (SeesOther m) e k = (still_settled c.shown k.0, k.1, k.2)
    still_at t (Misses m) e k = (still_settled c.shown k.0, k.1)
    still_at t (Sees m) e k = (k.0, k.1, still_all m k.2)
    still_at t (Takes m) e k = (k.0, k.1, still_all m k.2)
    still_at t Clears e k = k

    still_inside : (i : Option Inside) → ((j : Inside) → i ≡ Some j → f j.thread ≡ c.waits_with j.thread)
        → IsAsInside c i → IsAsInside d i
    still_inside None e k = still_settled c.shown k
    still_inside (Some j) e k = still_at j.thread j.stage (e j refl) k

put_other : (f : ℕ → Option ℕ) (t u : ℕ) (x : Option ℕ) → u ≢ t → putting f t x u ≡ f u
put_other f t u x ne = grind (arith, nat_tests)

-- ---------------------------------------------------------------- inside the section

module _ (c : CondvarSite) (t : ℕ) (h : IsCondvar c) where
  -- tells what t knows by its stage
  known : (stage : CondvarPhase) → IsInsideAt c t stage → StageHolds c t stage
  known stage e = subst (λ (i : Option Inside). IsAsInside c i) e h.inside

  settled_at : (o : Option ℕ) → c.shown ≡ o → IsSettled c → IsSettledAt o c
  settled_at o e k = subst (λ (o : Option ℕ). IsSettledAt o c) e k

  -- a condition variable stays settled whichever thread is inside
  settled_now : (i : Option Inside) → IsSettled c → IsSettled (record c { inside = i })
  settled_now i k = by_shown c.shown k
    where
      by_shown : (o : Option ℕ) → IsSettledAt o c → IsSettledAt o (record c { inside = i })
      by_shown None e = e
      by_shown (Some m) e = (e.0, e.1)

  all_of : (m : ℕ) → IsSettled c → (c.shown ≡ None) ⊎ (c.shown ≡ Some m) → AllOf c m
  all_of m k (inl e) = λ u one. absurd (nobody_waits u c.waiters (settled_at None e k) one)
  all_of m k (inr e) = (settled_at (Some m) e k).1

  -- where some are left, the mutex is shown still, and else nothing is to be
  left_over : (left : List Queued) (m : ℕ) → c.shown ≡ Some m
      → ((u : ℕ) → 1 ≤ times u left → c.waits_with u ≡ Some m)
      → StageHolds (at (record c { waiters = left }) t (clears_if left)) t (clears_if left)
  left_over [] m e all = refl
  left_over (x ∷ xs) m e all = subst (λ (o : Option ℕ). IsSettledAt o (at (record c { waiters = x ∷ xs }) t
      NothingToDo)) (sym e) ((λ k. cc), all)

  calls_keeps : (o : Option ℕ) → times t c.waiters ≡ 0 → IsInsideNot c.inside t
      → IsCondvar (record c { waits_with = putting c.waits_with t o })
  calls_keeps o none apart = record {
    once = h.once;
    inside = still_inside c (putting c.waits_with t o) (λ u k. put_other c.waits_with t u o (λ e. let g : 1
        ≤ times t c.waiters = rw e at k in omega arith)) c.inside
        (λ j e. put_other c.waits_with t j.thread o (let g : IsInsideNot (Some j) t =
        subst (λ (i : Option Inside). IsInsideNot i t) e apart in g)) h.inside;
  }

  -- nothing is left to do, so all is settled
  gone : (i : Option Inside) → MayGoOut i t → IsAsInside c i → IsSettled c
  gone None go k = absurd go
  gone (Some i) go k = by_stage i.stage go.1 k
    where
      by_stage : (stage : CondvarPhase) → MayLeaveSection stage → StageHolds c i.thread stage → IsSettled c
      by_stage NothingToDo g k = k
      by_stage (SeesOther m) g k = k.0
      by_stage (Misses m) g k = k.0
      by_stage (ToStandLast m) g k = absurd g
      by_stage (Sees m) g k = absurd g
      by_stage (Takes m) g k = absurd g
      by_stage Clears g k = absurd g

  last_of : (m : ℕ) → IsInsideAt c t (ToStandLast m) → (u : ℕ)
      → 1 ≤ times u (c.waiters ++ queued_to_wait t ∷ []) → c.waits_with u ≡ Some m
  last_of m n u k = elim (cases_eq u t) [
    | inl e ↦ rw e (known (ToStandLast m) n).1
    | inr ne ↦ (known (ToStandLast m) n).2 u (let a = times_append u c.waiters (queued_to_wait t ∷ [])
        in grind (arith, nat_tests))
  ]

  some_last : (xs : List Queued) → xs ++ queued_to_wait t ∷ [] ≢ []
  some_last [] = λ e. cc
  some_last (x ∷ xs) = λ e. cc

  leaves_keeps : CondvarNeeded LeaveList c t → IsCondvar (condvar_leads LeaveList c t)
  leaves_keeps n = record {
    once = λ u. let a = h.once u in let b = without_fewer u t c.waiters in omega arith;
    inside = by_shown c.shown refl (known NothingToDo n.0);
  }
    where
      by_shown : (o : Option ℕ) → c.shown ≡ o → IsSettled c → StageHolds (condvar_leads LeaveList c t) t
          (clears_if (without t c.waiters))
      by_shown None e k = absurd (nobody_waits t c.waiters (settled_at None e k) n.1)
      by_shown (Some m) e k = left_over (without t c.waiters) m e (λ u one. (settled_at (Some m) e k).1 u
          (let b = without_fewer u t c.waiters in omega arith))

  drop_fewer : (u : ℕ) (xs : List Queued) → times u (drop 1 xs) ≤ times u xs
  drop_fewer u [] = grind arith
  drop_fewer u (x ∷ xs) = grind arith

  first_keeps : (m : ℕ) → IsInsideAt c t (Sees m) → IsCondvar (condvar_leads MoveFirst c t)
  first_keeps m n = let k = known (Sees m) n in record {
    once = λ u. let a = h.once u in let b = drop_fewer u c.waiters in omega arith;
    inside = left_over (drop 1 c.waiters) m k.0 (λ u one. k.2 u (let b = drop_fewer u c.waiters
        in omega arith));
  }

  hide_keeps : (m : ℕ) → IsInsideAt c t (Sees m) → IsCondvar (condvar_leads HideAndTakeAll c t)
  hide_keeps m n = let k = known (Sees m) n in by_shown c.shown k.0 k
    where
      by_shown : (o : Option ℕ) → o ≡ Some m → StageHolds c t (Sees m)
          → IsCondvar (at (record c { shown = None }) t (hidden o))
      by_shown None e k = absurd cc
      by_shown (Some x) e k = let same : x ≡ m = cc in record {
        once = h.once;
        inside = (refl, k.1, rw same k.2);
      }

pub condvar_deed_keeps : EachCondvarDeedKeeps
condvar_deed_keeps (BeginsWait m) c t h n = calls_keeps c t h (Some m) n.0 n.1
condvar_deed_keeps EndsWait c t h n = calls_keeps c t h None n.0 n.1
condvar_deed_keeps GoIn c t h n = record {
  once = h.once;
  inside = settled_now c t h (Some (record {
    thread = t;
    stage = NothingToDo;
  })) (subst (λ (i : Option Inside). IsAsInside c i) n h.inside);
}
condvar_deed_keeps GoOut c t h n = record {
  once = h.once;
  inside = settled_now c t h None (gone c t h c.inside n h.inside);
}
condvar_deed_keeps (Show m) c t h n = record {
  once = h.once;
  inside = (refl, n.1, all_of c t h m (known c t h NothingToDo n.0) n.2);
}
condvar_deed_keeps (SeeOther m) c t h n = record {
  once = h.once;
  inside = (
    settled_now c t h (Some (record {
      thread = t;
      stage = SeesOther m;
    })) (known c t h NothingToDo n.0),
    n.1,
    n.2,
  );
}
condvar_deed_keeps StandLast c t h n = record {
  once = λ u. let a = times_append u c.waiters (queued_to_wait t ∷ []) in let b = h.once u in let e = n.1
      in grind (arith, nat_tests);
  inside = let k = known c t h (ToStandLast n.0.0) n.0.1
      in subst (λ (o : Option ℕ). IsSettledAt o (condvar_leads StandLast c t)) (sym k.0)
      (some_last c t h c.waiters, last_of c t h n.0.0 n.0.1);
}
condvar_deed_keeps (SeeAgain m) c t h n = let k = settled_at c t h (Some m) n.1 (known c t h NothingToDo n.0)
    in record {
      once = h.once;
      inside = (n.1, k.0, k.1);
    }
condvar_deed_keeps (MissIt m) c t h n = record {
  once = h.once;
  inside = (
    settled_now c t h (Some (record { thread = t; stage = Misses m })) (known c t h NothingToDo n.0),
    n.1,
  );
}
condvar_deed_keeps HideAndTakeAll c t h n = hide_keeps c t h n.0 n.1
condvar_deed_keeps MoveFirst c t h n = first_keeps c t h n.0 n.1
condvar_deed_keeps MoveAll c t h n = let k = known c t h (Takes n.0) n.1 in record {
  once = λ u. omega arith;
  inside = subst (λ (o : Option ℕ). IsSettledAt o (condvar_leads MoveAll c t)) (sym k.0) refl;
}
condvar_deed_keeps LeaveList c t h n = leaves_keeps c t h n
condvar_deed_keeps ShowNone c t h n = record { once = h.once; inside = known c t h Clears n }

-- ---------------------------------------------------------------- the waiters that a notification moves

pub times_in_line : (u : ℕ) (xs : List Queued) → times u (map wanting_mutex xs) ≡ times u xs
times_in_line u [] = refl
times_in_line u (x ∷ xs) = grind (arith, times_in_line u xs)

pub all_known : (xs : List Queued) → KnowsAll Mutex (map wanting_mutex xs)
all_known [] = tt
all_known (x ∷ xs) = (tt, all_known xs)

-- the first and the others are all
pub parts : (locked : Bool) (moved : List Queued) → taken_of locked moved ++ line_of locked moved
    ≡ map wanting_mutex moved
parts true moved = refl
parts false [] = refl
parts false (x ∷ xs) = refl

-- some of a locked mutex's are taken by nobody
untaken : (locked : Bool) (moved : List Queued) → moved ≢ [] → taken_of locked moved ≡ [] → locked ≡ true
untaken true moved some e = refl
untaken false [] some e = absurd (some refl)
untaken false (x ∷ xs) some e = absurd cc

pub moved_fewer : (all : Bool) (u : ℕ) (q : List Queued) → times u (moved_of all q) ≤ times u q
moved_fewer true u q = grind arith
moved_fewer false u [] = grind arith
moved_fewer false u (x ∷ q) = grind arith

moved_some : (all : Bool) (q : List Queued) → q ≢ [] → moved_of all q ≢ []
moved_some true q some = some
moved_some false [] some = some
moved_some false (x ∷ q) some = λ e. cc

seen : (all : Bool) (c : CondvarSite) (t m : ℕ) → StageHolds c t (moving all m) → (c.waiters ≢ []) × AllOf c m
seen true c t m k = (k.1, k.2)
seen false c t m k = (k.1, k.2)

pub move_fits : EachMoveFits
move_fits r all locked c s t m mutex h aside is i free none new marked =
    let k = seen all c t m (known c t h (moving all m) is) in
    let moved = moved_of all c.waiters in
    let some = moved_some all c.waiters k.0 in
    let of : (u : ℕ) → 1 ≤ times u moved → c.waits_with u ≡ Some m =
    (λ u one. k.1 u (let a = moved_fewer all u c.waiters in omega arith)) in
    let apart : Apart s (taken_of locked moved ++ line_of locked moved) = rw (parts locked moved) (λ u. (
      let a = times_in_line u moved in let b = moved_fewer all u c.waiters in let d = h.once u in omega arith,
      λ one. let a = times_in_line u moved in let b = moved_fewer all u c.waiters
          in aside u (omega arith) (of u (omega arith)),
    )) in
    record {
      some = some;
      of = of;
      may = (
        mutex,
        i,
        free,
        none,
        new,
        apart,
        rw (parts locked moved) (all_known moved),
        λ e. marked
            (untaken locked moved some e),
      );
    }
