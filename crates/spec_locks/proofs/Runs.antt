-- Each step of a run keeps what holds of every lock.
use Rattle.std.proofs.Common.{ℕ, Bool, true, false, Option, Some, None, if◌then◌else◌, ◌==◌, ◌≡◌, inl, inr}
use Rattle.std.proofs.Common.{List, [], ◌∷◌, refl, sym, subst}
use Rattle.std.proofs.lemmas.Bool.{eqb-true}
use Rattle.spec_locks.specs.declared.calls.Turn.{Turn}
use Rattle.spec_locks.specs.declared.calls.Turn.TheVariants as turn
use Rattle.spec_locks.specs.declared.calls.Step.{Step}
use Rattle.spec_locks.specs.declared.outcomes.Outcome.{Outcome}
use Rattle.spec_locks.specs.Locks.{LockCase, Needs, IsLockState, left_after, putting}
use Rattle.spec_locks.specs.Locks as locks
use Rattle.spec_locks.specs.Purposes.{Purpose}
use Rattle.spec_locks.specs.Runs.{LocksState, Event, Nothing, AtLock, Moves, joined_by, CallState}
use Rattle.spec_locks.specs.Runs.{AreLockStates, GoesOn, Stays, Does, MayDo, MayHappen, Turned, IsStep, IsRun}
use Rattle.spec_locks.specs.Runs.{rules_at, locks_after}
use Rattle.spec_locks.specs.Condvars.{moved_of}
use Rattle.spec_locks.proofs.LockKeeps.{case_keeps}
use Rattle.spec_locks.proofs.Moves.{condvar_keeps, mutex_keeps}

pub needs_of : (w : LocksState) (t l : ℕ) (case : LockCase) (o : Option Purpose) → MayDo w t l case o
    → Needs (rules_at w l) case (w.locks l) t
needs_of w t l case None h = absurd h
needs_of w t l case (Some p) h = h.1

event_keeps : (w : LocksState) (t : ℕ) (e : Event) → AreLockStates w → MayHappen w t e → (l : ℕ)
    → IsLockState (rules_at w l) (locks_after w t e l)
event_keeps w t Nothing all may l = all l
event_keeps w t (Moves c m every owned n) all may l = at_mutex (l == m) refl
  where
    at_condvar : (b : Bool) → (l == c) ≡ b
        → IsLockState (rules_at w l) (if b then left_after every (w.locks c) else w.locks l)
    at_condvar false e = all l
    at_condvar true e = let same : l ≡ c = eqb-true l c e
        in rw same (condvar_keeps w t c m every owned n all may)

    at_mutex : (b : Bool) → (l == m) ≡ b
        → IsLockState (rules_at w l) (if b then joined_by owned t (moved_of every (w.locks c).queue)
        (w.locks m) else putting w.locks c (left_after every (w.locks c)) l)
    at_mutex false e = at_condvar (l == c) refl
    at_mutex true e = let same : l ≡ m = eqb-true l m e in rw same (mutex_keeps w t c m every owned n all may)
event_keeps w t (AtLock k case) all may l = either (l == k) refl
  where
    either : (b : Bool) → (l == k) ≡ b
        → IsLockState (rules_at w l) (if b then locks.after_case (rules_at w k) case (w.locks k) t
        else w.locks l)
    either false e = all l
    either true e = let same : l ≡ k = eqb-true l k e
        in rw same (case_keeps (rules_at w k) case (w.locks k) t (all k) (needs_of w t k case
        (w.calls t).purpose may))

goes_keeps : (w v : LocksState) (t : ℕ) (o : Outcome) → ((l : ℕ) → v.kinds l ≡ w.kinds l) → GoesOn w t o v
    → AreLockStates w → AreLockStates v
goes_keeps w v t o kinds g all l = rw (kinds l, g.locks l) (event_keeps w t g.event all g.may l)

stays_keeps : (w v : LocksState) (t : ℕ) (c : CallState) (o : Outcome) → ((l : ℕ) → v.kinds l ≡ w.kinds l)
    → Stays w t c o v → AreLockStates w → AreLockStates v
stays_keeps w v t c o kinds s all l = rw (kinds l, s.locks l) (all l)

does_keeps : (w v : LocksState) (t : ℕ) (x : Turn) (o : Outcome) → ((l : ℕ) → v.kinds l ≡ w.kinds l)
    → Does w t x o v → AreLockStates w → AreLockStates v
does_keeps w v t (turn.Begin c) o kinds d all = stays_keeps w v t _ o kinds d all
does_keeps w v t turn.Go o kinds d all = goes_keeps w v t o kinds d all
does_keeps w v t turn.Spin o kinds d all = goes_keeps w v t o kinds d.goes all
does_keeps w v t turn.Late o kinds d all = stays_keeps w v t _ o kinds d all
does_keeps w v t turn.Ok o kinds d all = goes_keeps w v t o kinds d.goes all
does_keeps w v t turn.Err o kinds d all = goes_keeps w v t o kinds d.goes all

turned_keeps : (w v : LocksState) (t : ℕ) (x : Turn) (o : Outcome) → ((l : ℕ) → v.kinds l ≡ w.kinds l)
    → Turned w t x o v → AreLockStates w → AreLockStates v
turned_keeps w v t x o kinds (inl d) all = does_keeps w v t x o kinds d.1 all
turned_keeps w v t x o kinds (inr r) all = subst AreLockStates (sym r.1.1) all

pub step_keeps : (w v : LocksState) (s : Step) (o : Outcome) → IsStep w s o v → AreLockStates w
    → AreLockStates v
step_keeps w v s o h all = turned_keeps w v s.thread s.turn o h.0.kinds h.1 all

pub run_keeps : (w v : LocksState) (ss : List Step) (os : List Outcome) → IsRun w ss os v → AreLockStates w
    → AreLockStates v
run_keeps w v [] [] h all = subst AreLockStates (sym h) all
run_keeps w v [] (o ∷ os) h all = absurd h
run_keeps w v (s ∷ ss) [] h all = absurd h
run_keeps w v (s ∷ ss) (o ∷ os) h all = run_keeps h.0 v ss os h.2 (step_keeps w h.0 s o h.1 all)
