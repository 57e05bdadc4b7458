-- Owners are threads that are there, and a pending thread is in a call that waits for a right, in every world
-- of one lock that was reached.
use Rattle.std.proofs.Common.{ℕ, zero, suc, Bool, true, false, Option, Some, None, ◌≡◌, ◌≤◌, ◌<◌, List, []}
use Rattle.std.proofs.Common.{◌∷◌, length, inl, inr, refl, sym, ◌∙◌, ap, subst, arith}
use Rattle.std.specs.Prelude.{All, replicate, slice_index, sum}
use Rattle.std.proofs.lemmas.Bool.{cases_eq}
use Rattle.std.proofs.lemmas.List.{get_or_past, length-replicate}
use Rattle.spec_locks.specs.declared.calls.Call.{Call}
use Rattle.spec_locks.specs.declared.calls.Call.TheVariants as call
use Rattle.spec_locks.specs.declared.calls.MutexCall.{MutexCall}
use Rattle.spec_locks.specs.declared.calls.MutexCall.TheVariants as mutex_call
use Rattle.spec_locks.specs.declared.calls.RwLockCall.{RwLockCall}
use Rattle.spec_locks.specs.declared.calls.RwLockCall.TheVariants as rwlock_call
use Rattle.spec_locks.specs.declared.calls.Step.{Step}
use Rattle.spec_locks.specs.declared.calls.Turn.{Turn}
use Rattle.spec_locks.specs.declared.calls.Turn.TheVariants as turn
use Rattle.spec_locks.specs.declared.kinds.Kind.{Kind}
use Rattle.spec_locks.specs.declared.kinds.Kind.TheVariants as kind
use Rattle.spec_locks.specs.Calls.{lock_in}
use Rattle.spec_locks.specs.Kinds.{fits}
use Rattle.spec_locks.specs.Locks.{LockState, Rights, opening_lock, rights_of}
use Rattle.spec_locks.specs.Purposes.{MayWait, Purpose, Enters, Releases, Converts, Bumps, CallsOnce, Awaits}
use Rattle.spec_locks.specs.Purposes.{Waits, Notifies, mutex_purpose, purpose_of, rules_of, rwlock_purpose}
use Rattle.spec_locks.specs.Runs.{CallState, Does, GoesOn, IsOpening, LocksState, MayTurn, Stays, no_rights}
use Rattle.spec_locks.specs.Runs.{rights_in}
use Rattle.lot_steps.specs.declared.places.Place.TheVariants.{Idle}
use Rattle.lot_machine.specs.Machine.{State, after, after_steps, opening, place_at, step_outcome}
use Rattle.lot_machine.specs.Fits.{SameSize}
use Rattle.lot_machine.proofs.Opening.{no_readers}
use Rattle.lot_machine.proofs.Shape.{after_size, opening_well_formed}
use Rattle.lot_laws.specs.Promises.{IsKept}
use Rattle.lot_laws.specs.Refinement.{call_state, lock_state, locks_of}
use Rattle.lot_laws.specs.SitesOf.{IsWorld}
use Rattle.lot_laws.proofs.hands.CountsPut.{opening_counted}
use Rattle.lot_laws.proofs.machine.KindsStay.{after_kinds}
use Rattle.lot_laws.proofs.calls.LockSteps.{IsTurn, after_step}
use Rattle.lot_laws.proofs.sites.Opening.{opening_condvars, opening_inductive}
use Rattle.lot_laws.proofs.machine.Possible.{turner_there}
use Rattle.lot_laws.proofs.promises.PromisesKept.{opening_is}
use Rattle.lot_laws.proofs.mutex.FairMutexes.{opening_settled}
use Rattle.lot_laws.proofs.promises.WorldRuns.{world_after, world_kept}
use Rattle.lot_world.specs.Drained.{Drains}
use Rattle.lot_world.specs.Few.{IsOfOneLock, PendsInCall}
use Rattle.lot_world.specs.Pending.{AllBeganUnpending, BeganUnpending, OnlyWaitersStand}
use Rattle.lot_world.proofs.Few.{put_other, put_same, rights_are}
use Rattle.lot_world.proofs.DrainPending.{others_own, unpending_go_on}
use Rattle.lot_world.specs.Quiet.{HasOneLock}
use Rattle.lot_world.proofs.DrainOwners.{index_sum}
use Rattle.lot_world.proofs.Quiet.{only_here}
use Rattle.lot_world.proofs.Ordered.{called_here}
use Rattle.lot_world.specs.Reached.{ReachedHaveOwners}

pub record IsReached (w : State) : Type 0 where
  pub world : IsWorld w
  pub lock : HasOneLock w
  pub some : 1 ≤ length w.places
  pub past : (t : ℕ) → length w.places ≤ t → rights_of (lock_state w 0) t ≡ no_rights
  pub began : AllBeganUnpending (locks_of w)

-- ---------------------------------------------------------------- a call begins

mutex_new : (fair : Bool) (l : ℕ) (c : MutexCall) (r : Rights) → r.pending ≡ 0
    → BeganUnpending (Some (mutex_purpose fair l c)) r r
mutex_new fair l mutex_call.Lock r h = h
mutex_new fair l mutex_call.LockTimed r h = h
mutex_new fair l mutex_call.TryLock r h = h
mutex_new fair l mutex_call.Unlock r h = (h, h)
mutex_new fair l mutex_call.UnlockFair r h = (h, h)
mutex_new fair l mutex_call.Bump r h = h

rwlock_new : (l : ℕ) (c : RwLockCall) (r : Rights) → r.pending ≡ 0
    → BeganUnpending (Some (rwlock_purpose l c)) r r
rwlock_new l (rwlock_call.Enter x how) r h = h
rwlock_new l (rwlock_call.Release x) r h = (h, h)
rwlock_new l (rwlock_call.Downgrade d) r h = h
rwlock_new l (rwlock_call.Upgrade how) r h = h
rwlock_new l (rwlock_call.ReleaseFair x) r h = (h, h)
rwlock_new l (rwlock_call.Bump x) r h = h

call_new : (k : Kind) (c : Call) (r : Rights) → Drains (rules_of k).sort → r.pending ≡ 0
    → BeganUnpending (purpose_of k c) r r
call_new kind.Mutex (call.Mutex l c) r d h = mutex_new false l c r h
call_new kind.Fair (call.Mutex l c) r d h = mutex_new true l c r h
call_new (kind.RwLock limit) (call.RwLock l c) r d h = rwlock_new l c r h
call_new (kind.Recursive limit) (call.RwLock l c) r d h = rwlock_new l c r h
call_new kind.Once c r d h = absurd d
call_new (kind.Semaphore permits) c r d h = absurd d
call_new kind.Condvar c r d h = absurd d
call_new kind.Mutex c r d h = h
call_new kind.Fair c r d h = h
call_new (kind.RwLock limit) c r d h = h
call_new (kind.Recursive limit) c r d h = h

-- ---------------------------------------------------------------- each step

module _ (w : State) (h : IsReached w) (s : Step) where
  abbrev v : State
  v = after w s

  abbrev t : ℕ
  t = s.thread

  kept : IsKept w
  kept = world_kept w h.world

  one : IsOfOneLock (locks_of w) 0
  one = record {
    calls = λ u p e. called_here (place_at w u) (λ l. rights_of (lock_state w l) u) p
        (only_here w h.lock (place_at w u) (h.world.well_formed.places u) (h.world.inductive.stands.calls u))
        e;
    standing = λ u stands idle. subst (λ p. MayWait p 0) idle (kept.waiting u 0 stands);
  }

  waiters : OnlyWaitersStand (locks_of w)
  waiters u stands = kept.waiting u 0 stands

  stepped : IsTurn (locks_of w) s (step_outcome w s) (locks_of v)
  stepped = after_step w s h.world.well_formed h.world.inductive h.world.counted h.world.condvars

  -- tells what is kept, but for the world and its lock
  record AreKept : Type 0 where
    pub past : (u : ℕ) → length w.places ≤ u → rights_of (lock_state v 0) u ≡ no_rights
    pub began : AllBeganUnpending (locks_of v)

  goes_on : t < length w.places → GoesOn (locks_of w) t (step_outcome w s) (locks_of v) → AreKept
  goes_on there goes = record {
    past = λ u ge. others_own (locks_of w) (locks_of v) t (step_outcome w s) kept.state one waiters h.began
        goes u
        (λ e. let lt : t < length w.places = there in let g : length w.places ≤ u = ge in omega arith)
        (subst (λ p. MayWait p 0 → ⊥)
        (sym (ap (λ p. (call_state p (λ l. rights_of (lock_state w l) u)).purpose)
        (get_or_past w.places u Idle ge))) (λ f. f))
        ∙ h.past u ge;
    began = unpending_go_on (locks_of w) (locks_of v) t (step_outcome w s) kept.state one waiters h.began
        goes;
  }

  stays : (c : CallState) → Stays (locks_of w) t c (step_outcome w s) (locks_of v)
      → BeganUnpending c.purpose (c.former 0) (rights_in (locks_of w) t 0) → AreKept
  stays c same began = record {
    past = λ u ge. ap (λ (x : LockState). rights_of x u) (same.locks 0) ∙ h.past u ge;
    began = λ u. elim (cases_eq u t) [
      | inl e ↦ subst (λ j. BeganUnpending ((locks_of v).calls j).purpose (((locks_of v).calls j).former 0)
          (rights_in (locks_of v) j 0)) (sym e)
          (subst (λ (y : CallState). BeganUnpending y.purpose (y.former 0) (rights_in (locks_of v) t 0))
          (sym (same.calls t ∙ put_same (locks_of w).calls t c))
          (subst (λ (x : LockState). BeganUnpending c.purpose (c.former 0) (rights_of x t))
          (sym (same.locks 0)) began))
      | inr ne ↦ subst (λ (y : CallState). BeganUnpending y.purpose (y.former 0) (rights_in (locks_of v) u 0))
          (sym (same.calls u ∙ put_other (locks_of w).calls t c u ne))
          (subst (λ (x : LockState). BeganUnpending ((locks_of w).calls u).purpose
          (((locks_of w).calls u).former 0) (rights_of x u)) (sym (same.locks 0)) (h.began u))
    ];
  }

  by_turn : (x : Turn) → MayTurn (locks_of w) t x → Does (locks_of w) t x (step_outcome w s) (locks_of v)
      → AreKept
  by_turn (turn.Begin c) may does =
      let none : (rights_in (locks_of w) t 0).pending ≡ 0 =
      subst (λ p. BeganUnpending p (((locks_of w).calls t).former 0) (rights_in (locks_of w) t 0))
      may.idle (h.began t) in
      let here : 0 ≡ lock_in c = (let lt : lock_in c < length w.locks = may.lock in let n : length w.locks
      ≡ 1 = h.lock.one in omega arith) in
      stays _ does (subst (λ l. Drains (rules_of ((locks_of w).kinds l)).sort
      → BeganUnpending (purpose_of ((locks_of w).kinds l) c) (rights_in (locks_of w) t 0)
      (rights_in (locks_of w) t 0)) here
      (λ d. call_new ((locks_of w).kinds 0) c (rights_in (locks_of w) t 0) d none)
      (subst (λ l. Drains (rules_of ((locks_of w).kinds l)).sort) here h.lock.sort))
  by_turn turn.Go may does = goes_on (turner_there w t turn.Go may) does
  by_turn turn.Spin may does = goes_on (turner_there w t turn.Spin may) does.goes
  by_turn turn.Late may does = stays _ does (h.began t)
  by_turn turn.Ok may does = goes_on (turner_there w t turn.Ok may) does.goes
  by_turn turn.Err may does = goes_on (turner_there w t turn.Err may) does.goes

  are_kept : AreKept
  are_kept = elim stepped.1 [
    | inl did ↦ by_turn s.turn did.0 did.1
    | inr refused ↦ record {
      past = λ u ge. ap (λ (x : LocksState). rights_of (x.locks 0) u) refused.1.1 ∙ h.past u ge;
      began = subst AllBeganUnpending (sym refused.1.1) h.began;
    }
  ]

  size : SameSize w v
  size = after_size w s

  pub reached_after : IsReached v
  reached_after = record {
    world = world_after w s h.world;
    lock = record {
      one = size.locks ∙ h.lock.one;
      sort = subst (λ k. Drains (rules_of k).sort) (sym (after_kinds w s 0)) h.lock.sort;
    };
    some = subst (λ n. 1 ≤ n) (sym size.threads) h.some;
    past = λ u ge. are_kept.past u (subst (λ n. n ≤ u) size.threads ge);
    began = are_kept.began;
  }

reached : (w : State) (ss : List Step) → IsReached w → IsReached (after_steps w ss)
reached w [] h = h
reached w (s ∷ ss) h = reached (after w s) ss (reached_after w h s)

-- ---------------------------------------------------------------- the opening

one_fits : (k : Kind) (threads : ℕ) → fits k threads ≡ true → All (λ (x : Kind). fits x threads ≡ true)
    (k ∷ [])
one_fits k threads fit zero d lt = fit
one_fits k threads fit (suc i) d lt = absurd (omega arith)

nobody_owns : (n t : ℕ) → rights_of (opening_lock n) t ≡ no_rights
nobody_owns n t = rights_are (rights_of (opening_lock n) t) no_rights refl refl refl
    (let a : slice_index (replicate n 0) t ≤ sum (replicate n 0) = index_sum (replicate n 0) t
    in let b : sum (replicate n 0) ≡ 0 = no_readers n in omega arith)

module _ (k : Kind) (threads : ℕ) (drains : Drains (rules_of k).sort) (some : 1 ≤ threads)
    (fit : fits k threads ≡ true) where
  abbrev first : State
  first = opening (k ∷ []) threads

  opens : IsOpening (locks_of first)
  opens = opening_is (k ∷ []) threads

  rights_none : (t : ℕ) → rights_of (lock_state first 0) t ≡ no_rights
  rights_none t = ap (λ (x : LockState). rights_of x t) (opens.locks 0) ∙ nobody_owns (length first.places) t

  pub opening_reached : IsReached first
  opening_reached = record {
    world = record {
      well_formed = opening_well_formed (k ∷ []) threads (omega arith);
      inductive = opening_inductive (k ∷ []) threads some (one_fits k threads fit);
      counted = opening_counted (k ∷ []) threads;
      condvars = opening_condvars (k ∷ []) threads;
      settled = opening_settled (k ∷ []) threads;
    };
    lock = record { one = refl; sort = drains };
    some = subst (λ n. 1 ≤ n) (sym (length-replicate threads Idle)) some;
    past = λ t ge. rights_none t;
    began = λ t. subst (λ (c : CallState). BeganUnpending c.purpose (c.former 0)
        (rights_in (locks_of first) t 0)) (sym (opens.calls t)) (ap (λ (r : Rights). r.pending)
        (rights_none t));
  }

-- ---------------------------------------------------------------- the conditions that a drain sets owners

pends_so : (p : Option Purpose) (before now : Rights) → BeganUnpending p before now → PendsInCall p now
pends_so None before now h = h
pends_so (Some (Enters l x how)) before now h = tt
pends_so (Some (Releases l x fair)) before now h = h.1
pends_so (Some (Converts l x y how)) before now h = tt
pends_so (Some (Bumps l x)) before now h = tt
pends_so (Some (CallsOnce l forced)) before now h = tt
pends_so (Some (Awaits l forced timed)) before now h = tt
pends_so (Some (Waits l m timed)) before now h = tt
pends_so (Some (Notifies l all)) before now h = tt

pub reached_have_owners : ReachedHaveOwners
reached_have_owners k threads steps drains some fit =
    let last = reached (opening (k ∷ []) threads) steps (opening_reached k threads drains some fit) in
    record {
      some = last.some;
      past = last.past;
      unpending = λ t. pends_so _ _ _ (last.began t);
    }
