-- A fair mutex is released fairly, is owned while somebody waits for it, and lets nobody be overtaken.
use Rattle.lot_laws.proofs.Imports
use Imports.{ℕ, true, false, Option, Some, None, ◌≡◌, ◌≢◌, ◌≤◌, ◌<◌, inl, inr, List, [], ◌∷◌, length}
use Imports.{get_or-set_other, get_or-set_same, refl, sym, ◌∙◌, ap, subst, arith, cases_eq, nat_tests, Step}
use Imports.{Kind, ReleasesFairly, LockState, Queued, Rights, rights_of, rules_of, IsOpening, has_readers}
use Imports.{fair_stays, Place, Idle, RwLock, act_of, beside_of, called_lock, profile, profile_at_mutex}
use Imports.{IsWellFormed, Admission, RwLockPlace, RwLockPurpose, purpose_by, Plain, State, after, kind_at}
use Imports.{opening, place_at, put, runs_closure, step_outcome, call_at, call_on_both, call_state, lock_state}
use Imports.{locks_of, AreFairMutexes, IsFairMutex, IsInductive, IsSettled, IsWorld, AreCondvars, AreCounted}
use Imports.{is_mutex, rules_in}
use Rattle.spec_locks.specs.declared.kinds.Kind.TheVariants as kinds
use Rattle.spec_locks.specs.Locks.{times}
use Rattle.spec_locks.specs.Locks as locks
use Rattle.steps_rwlock.specs.declared.purposes.RwLockPurpose.TheVariants as purposes
use Rattle.lot_laws.proofs.once.Marks.{opening_unmarked, unmarked_after}
use Rattle.lot_laws.proofs.once.Runs.{opening_running, put_running, running_after}
use Rattle.lot_laws.proofs.promises.PromisesKept.{opening_is}
use Rattle.lot_laws.proofs.calls.LockSteps.{after_step}
use Rattle.lot_laws.proofs.machine.KindsStay.{after_kinds}
use Rattle.lot_laws.proofs.mutex.FairHands.{given_up_fairly}
use Rattle.lot_laws.proofs.mutex.FairReleases.{goes_fairly, hands_over}

fair_rules : (k : Kind) → k ≡ kinds.Fair → (rules_of k).sort ≡ locks.Mutex
fair_rules k e = ap (λ x. (rules_of x).sort) e

fair_mutex : (k : Kind) → k ≡ kinds.Fair → is_mutex k ≡ true
fair_mutex k e = ap is_mutex e

-- ---------------------------------------------------------------- a step

module _ (w : State) (s : Step) (h : IsWorld w) (l : ℕ) (fair : kind_at w l ≡ kinds.Fair) where
  abbrev v : State
  v = after w s

  one_owner : is_mutex (kind_at w l) ≡ true
  one_owner = fair_mutex (kind_at w l) fair

  turn_is : Rattle.lot_laws.proofs.calls.LockSteps.IsTurn (locks_of w) s (step_outcome w s) (locks_of v)
  turn_is = after_step w s h.well_formed h.inductive h.counted h.condvars

  some_stands : (q : List Queued) → q ≢ [] → (u : ℕ) × (1 ≤ times u q)
  some_stands [] n = absurd (n refl)
  some_stands (x ∷ q) n = (x.thread, grind (arith, nat_tests))

  still_fair : IsFairMutex v l
  still_fair = record {
    calls = fair_stays (locks_of w) (locks_of v) s (step_outcome w s) l fair (h.settled.fair l fair).calls
        turn_is.1;
    owned = λ some. (let first = some_stands (lock_state v l).queue some
        in elim ((goes_fairly w s h l one_owner (given_up_fairly w h l fair)).owned first.0 first.1
        (h.settled.fair l fair).owned) [
          | inl owned ↦ owned
          | inr lets ↦ absurd (hands_over w s h l one_owner (given_up_fairly w h l fair) lets)
        ]);
  }

pub fair_after : (w : State) (s : Step) → IsWorld w → AreFairMutexes (after w s)
fair_after w s h l fair = still_fair w s h l (sym (after_kinds w s l) ∙ fair)

-- ---------------------------------------------------------------- what a world keeps of them

pub settled_after : (w : State) (s : Step) → IsWellFormed w → IsInductive w → AreCounted w → AreCondvars w
    → IsSettled w → IsSettled (after w s)
settled_after w s shape inductive counted condvars h = record {
  runs = running_after w s shape inductive counted condvars h.runs;
  unmarked = unmarked_after w s shape inductive h.unmarked;
  fair = fair_after w s (record {
    well_formed = shape;
    inductive = inductive;
    counted = counted;
    condvars = condvars;
    settled = h;
  });
}

-- the purpose of a call hangs on its place alone
purpose_same : (p : Place) (r q : ℕ → Rights) → (call_state p r).purpose ≡ (call_state p q).purpose
purpose_same p r q = by_lock (beside_of p) (called_lock p)
  where
    by_lock : (m o : Option ℕ) → (call_on_both m o (profile p) (profile_at_mutex p) r).purpose
        ≡ (call_on_both m o (profile p) (profile_at_mutex p) q).purpose
    by_lock None None = refl
    by_lock None (Some l) = refl
    by_lock (Some m) None = refl
    by_lock (Some m) (Some l) = refl

rwlock_fairly : (q : RwLockPurpose) (l m : ℕ) → l ≢ m → ReleasesFairly (Some (purpose_by q l)) m
rwlock_fairly (purposes.Enter x how) l m ne = tt
rwlock_fairly (purposes.Release x) l m ne = λ e. absurd (ne e)
rwlock_fairly (purposes.Downgrade d) l m ne = tt
rwlock_fairly (purposes.Upgrade how) l m ne = tt

-- a thread that stands elsewhere in a call of a lock that is shared, and in no closure
module _ (w : State) (t l : ℕ) (a : Admission) (p : RwLockPlace) (there : t < length w.places)
    (readers : has_readers (rules_in w l).sort ≡ true) where
  abbrev q : Place
  q = RwLock l a (Plain p)

  put_fair : AreFairMutexes w → AreFairMutexes (put w t q)
  put_fair h m fair = record { calls = each; owned = (h m fair).owned }
    where
      other : l ≢ m
      other e = let f : true ≡ false = sym readers ∙ ap (λ k. has_readers (rules_of k).sort) (ap (kind_at w) e
          ∙ fair) in cc

      each : (u : ℕ) → ReleasesFairly (call_at (put w t q) u).purpose m
      each u = elim (cases_eq u t) [
        | inl e ↦ subst (λ k. ReleasesFairly (call_at (put w t q) k).purpose m) (sym e)
            (subst (λ x. ReleasesFairly (call_state x (λ k. rights_of (lock_state (put w t q) k) t)).purpose
            m) (sym (get_or-set_same w.places t q Idle there)) (rwlock_fairly p.purpose l m other))
        | inr ne ↦ subst (λ x. ReleasesFairly
            (call_state x (λ k. rights_of (lock_state (put w t q) k) u)).purpose m)
            (sym (get_or-set_other w.places t u q Idle ne))
            (subst (λ o. ReleasesFairly o m) (purpose_same (place_at w u) (λ k. rights_of (lock_state w k) u)
            (λ k. rights_of (lock_state (put w t q) k) u)) ((h m fair).calls u))
      ]

  pub put_settled : runs_closure (act_of (place_at w t)) ≡ false → IsSettled w → IsSettled (put w t q)
  put_settled outside h = record {
    runs = put_running w t q outside h.runs;
    unmarked = h.unmarked;
    fair = put_fair h.fair;
  }

-- ---------------------------------------------------------------- the opening state

-- nobody is in a call, and nobody waits
opening_fair : (ks : List Kind) (threads : ℕ) → IsOpening (locks_of (opening ks threads))
    → AreFairMutexes (opening ks threads)
opening_fair ks threads opens l fair = record {
  calls = λ t. subst (λ (c : Rattle.spec_locks.specs.Runs.CallState).
      Rattle.spec_locks.specs.Bypass.ReleasesFairly c.purpose l) (sym (opens.calls t)) tt;
  owned = λ some. absurd (some (ap (λ (x : LockState). x.queue) (opens.locks l)));
}

pub opening_settled : (ks : List Kind) (threads : ℕ) → IsSettled (opening ks threads)
opening_settled ks threads = record {
  runs = opening_running ks threads;
  unmarked = opening_unmarked ks threads;
  fair = opening_fair ks threads (opening_is ks threads);
}
