-- How far a `Once` has come changes only where a run of the step's thread begins or ends.
use Rattle.std.proofs.Common.{ℕ, Bool, ◌≡◌, ◌⊎◌, ◌∙◌, inl, inr, refl, sym, ap, subst}
use Rattle.spec_locks.specs.declared.calls.Turn.{Turn}
use Rattle.spec_locks.specs.declared.outcomes.Outcome.{Outcome}
use Rattle.spec_locks.specs.Locks.{LockCase, LockState, OfOnce, after_case, once_after}
use Rattle.spec_locks.specs.Onces.{InProgress, OnceCase, Phase, Start, Finish, Fail, Rest, TakeAll}
use Rattle.spec_locks.specs.Runs.{AtLock, Begins, Event, LocksState, MayHappen, Moves, Nothing, Turned}
use Rattle.spec_locks.specs.Runs.{is_closure}
use Rattle.spec_locks.specs.Runs.{locks_after, rules_at}
use Rattle.spec_locks.specs.EachStep.{PhaseChanges}
use Rattle.spec_locks.proofs.Changes.{by_case, by_move, by_step}
use Rattle.spec_locks.proofs.OnceLaws.{phase_by}
use Rattle.spec_locks.proofs.Runs.{needs_of}

module _ (w v : LocksState) (t : ℕ) (o : Outcome) (l : ℕ) where
  abbrev Goes : LockState → Type 0
  Goes s = PhaseChanges (w.locks l).phase s.phase t o

  abbrev phase_of : ℕ → Phase
  phase_of k = (w.locks k).phase

  once_case : (c : OnceCase) → MayHappen w t (AtLock l (OfOnce c)) → Begins w (AtLock l (OfOnce c)) o
      → Goes (once_after c (w.locks l) t)
  once_case (Start b) may begins = inr (inl (refl, ap is_closure begins))
  once_case Finish may begins = inr (inr (needs_of w t l (OfOnce Finish) (w.calls t).purpose may).1)
  once_case Fail may begins = inr (inr (needs_of w t l (OfOnce Fail) (w.calls t).purpose may).1)
  once_case (Rest x b) may begins = inl refl
  once_case TakeAll may begins = inl refl

  a_case : (case : LockCase) → MayHappen w t (AtLock l case) → Begins w (AtLock l case) o
      → Goes (after_case (rules_at w l) case (w.locks l) t)
  a_case case may begins = elim (phase_by (rules_at w l) case (w.locks l) t) [
    | inl same ↦ inl same
    | inr once ↦ subst (λ (y : LockCase). MayHappen w t (AtLock l y) → Begins w (AtLock l y) o
        → Goes (after_case (rules_at w l) y (w.locks l) t)) (sym once.1) (once_case once.0) may begins
  ]

  event : (e : Event) → MayHappen w t e → Begins w e o → Goes (locks_after w t e l)
  event Nothing may begins = inl refl
  event (Moves c m all owned n) may begins =
      by_move w t l Goes (inl refl) c m all owned n may (λ here. inl refl)
      (λ here. inl refl)
  event (AtLock k case) may begins = by_case w t l Goes (inl refl)
      (λ j. MayHappen w t (AtLock j case) × Begins w (AtLock j case) o) k case (may, begins)
      (λ here. a_case case here.0 here.1)

  pub phase_changes : (x : Turn) → Turned w t x o v → PhaseChanges (w.locks l).phase (v.locks l).phase t o
  phase_changes x turned = by_step w t l Goes (inl refl) v o event x turned
