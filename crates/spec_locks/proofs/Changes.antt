-- What a step does to a lock: nothing, or what an event that may happen does to it.
use Rattle.std.proofs.Common.{ℕ, Bool, true, false, if◌then◌else◌, ◌==◌, ◌≡◌, inl, inr, refl, sym, ap, subst}
use Rattle.std.proofs.lemmas.Bool.{eqb-true}
use Rattle.spec_locks.specs.declared.calls.Turn.{Turn}
use Rattle.spec_locks.specs.declared.calls.Turn.TheVariants as turn
use Rattle.spec_locks.specs.declared.outcomes.Outcome.{Outcome}
use Rattle.spec_locks.specs.Condvars.{moved_of}
use Rattle.spec_locks.specs.Locks.{LockCase, LockState, after_case, left_after, putting}
use Rattle.spec_locks.specs.Runs.{AtLock, Begins, Does, Event, GoesOn, LocksState, MayHappen, Moves, Turned}
use Rattle.spec_locks.specs.Runs.{joined_by, locks_after, rules_at}

module _ (w : LocksState) (t l : ℕ) (R : LockState → Type 0) (same : R (w.locks l)) where
  at_lock : (k : ℕ) (case : LockCase) → (l ≡ k → R (after_case (rules_at w k) case (w.locks k) t))
      → R (locks_after w t (AtLock k case) l)
  at_lock k case here = either (l == k) refl
    where
      either : (b : Bool) → (l == k) ≡ b → R (if b then after_case (rules_at w k) case (w.locks k) t
          else w.locks l)
      either false e = same
      either true e = here (eqb-true l k e)

  -- a case is of this lock, or of another
  pub by_case : (Known : ℕ → Type 0) (k : ℕ) (case : LockCase) → Known k
      → (Known l → R (after_case (rules_at w l) case (w.locks l) t)) → R (locks_after w t (AtLock k case) l)
  by_case Known k case known here = at_lock k case
      (λ e. subst (λ j. R (after_case (rules_at w j) case (w.locks j) t)) e
      (here (subst Known (sym e) known)))

  -- a notification moves waiters from this lock, to this lock, or beside it
  pub by_move : (c m : ℕ) (all owned : Bool) (n : ℕ) → MayHappen w t (Moves c m all owned n)
      → (MayHappen w t (Moves l m all owned n) → R (left_after all (w.locks l)))
      → (MayHappen w t (Moves c l all owned n)
      → R (joined_by owned t (moved_of all (w.locks c).queue) (w.locks l)))
      → R (locks_after w t (Moves c m all owned n) l)
  by_move c m all owned n may left joined = at_mutex (l == m) refl
    where
      at_condvar : (b : Bool) → (l == c) ≡ b → R (if b then left_after all (w.locks c) else w.locks l)
      at_condvar false e = same
      at_condvar true e =
          let is : l ≡ c = eqb-true l c e in
          subst (λ j. R (left_after all (w.locks j))) is
          (left (subst (λ j. MayHappen w t (Moves j m all owned n)) (sym is) may))

      at_mutex : (b : Bool) → (l == m) ≡ b
          → R (if b then joined_by owned t (moved_of all (w.locks c).queue) (w.locks m)
          else putting w.locks c (left_after all (w.locks c)) l)
      at_mutex false e = at_condvar (l == c) refl
      at_mutex true e =
          let is : l ≡ m = eqb-true l m e in
          subst (λ j. R (joined_by owned t (moved_of all (w.locks c).queue) (w.locks j))) is
          (joined (subst (λ j. MayHappen w t (Moves c j all owned n)) (sym is) may))

  module _ (v : LocksState) (o : Outcome)
      (events : (e : Event) → MayHappen w t e → Begins w e o → R (locks_after w t e l)) where
    goes : GoesOn w t o v → R (v.locks l)
    goes g = subst R (sym (g.locks l)) (events g.event g.may g.begins)

    does : (x : Turn) → Does w t x o v → R (v.locks l)
    does (turn.Begin c) d = subst R (sym (d.locks l)) same
    does turn.Late d = subst R (sym (d.locks l)) same
    does turn.Go d = goes d
    does turn.Spin d = goes d.goes
    does turn.Ok d = goes d.goes
    does turn.Err d = goes d.goes

    pub by_step : (x : Turn) → Turned w t x o v → R (v.locks l)
    by_step x (inl d) = does x d.1
    by_step x (inr r) = subst (λ (u : LocksState). R (u.locks l)) (sym r.1.1) same
