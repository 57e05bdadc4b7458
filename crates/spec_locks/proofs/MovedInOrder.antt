-- The waiters that a notification moves keep their order.
use Rattle.std.proofs.Common.{ℕ, Bool, true, false, Option, Some, ◌≡◌, List, [], ◌∷◌, ◌++◌, inl, inr, refl}
use Rattle.std.proofs.Common.{sym, ◌∙◌}
use Rattle.std.proofs.Common.{ap, subst}
use Rattle.std.specs.Prelude.{map}
use Rattle.spec_locks.specs.declared.calls.Turn.{Turn}
use Rattle.spec_locks.specs.declared.outcomes.Outcome.{Outcome}
use Rattle.spec_locks.specs.Condvars.{line_of, moved_of, wanting_mutex}
use Rattle.spec_locks.specs.Locks.{LockState, LockCase, Queued, Mutex, Condvar, SeeOwner, Wake, OfCondvar}
use Rattle.spec_locks.specs.Locks.{Look, Hide}
use Rattle.spec_locks.specs.Locks.{after_case, left_after}
use Rattle.spec_locks.specs.Purposes.{Notifies, CondvarMemory, IsMadeOf}
use Rattle.spec_locks.specs.Runs.{LocksState, Event, Nothing, AtLock, Moves, Begins, MayDo, MayHappen, Turned}
use Rattle.spec_locks.specs.Runs.{joined_by, locks_after, rules_at}
use Rattle.spec_locks.specs.EachStep.{IsPartOf, MovesInOrder}
use Rattle.spec_locks.proofs.Changes.{by_case, by_move, by_step}
use Rattle.spec_locks.proofs.QueueOrder.{append_none, dropped, skip, whole}

first_part : (q : List Queued) → IsPartOf (map wanting_mutex (moved_of false q)) (map wanting_mutex q)
first_part [] = tt
first_part (x ∷ q) = inl (refl, tt)

-- a line of some of those that wait, in order
line_part : (every locked : Bool) (q : List Queued)
    → IsPartOf (line_of locked (moved_of every q)) (map wanting_mutex q)
line_part true true q = whole (map wanting_mutex q)
line_part true false q = dropped 1 (map wanting_mutex q)
line_part false true q = first_part q
line_part false false [] = tt
line_part false false (x ∷ q) = tt

module _ (w v : LocksState) (t : ℕ) (o : Outcome) (c l : ℕ) (all : Bool)
    (notifies : (w.calls t).purpose ≡ Some (Notifies c all)) (mutex : (rules_at w l).sort ≡ Mutex) where
  abbrev Goes : LockState → Type 0
  Goes s = MovesInOrder w c l s

  nobody : Goes (w.locks l)
  nobody = ([], append_none (w.locks l).queue, tt)

  -- nothing that a notification does at one lock changes a queue
  made_so : (case : LockCase) (g : Option ℕ) (b : Bool) (r : CondvarMemory)
      → IsMadeOf (Notifies c all) g b r l case
      → Goes (after_case (rules_at w l) case (w.locks l) t)
  made_so (OfCondvar (Look seen)) g b r made = nobody
  made_so (OfCondvar Hide) g b r made = nobody
  made_so (SeeOwner owned) g b r made = nobody
  made_so Wake g b r made = nobody
  made_so case g b r (inl made) = absurd made.1
  made_so case g b r (inr made) = absurd made

  a_case : (case : LockCase) → MayHappen w t (AtLock l case)
      → Goes (after_case (rules_at w l) case (w.locks l) t)
  a_case case may = made_so case (w.calls t).gave_up (w.calls t).released (w.calls t).recalls
      (subst (MayDo w t l case) notifies may).0

  moves : (d : ℕ) (every locked : Bool) (n : ℕ) → MayHappen w t (Moves d l every locked n)
      → Goes (joined_by locked t (moved_of every (w.locks d).queue) (w.locks l))
  moves d every locked n may =
      let both : Some (Notifies d every) ≡ Some (Notifies c all) = sym may.notifies ∙ notifies in
      let same : d ≡ c = cc in (
        line_of locked (moved_of every (w.locks d).queue),
        refl,
        subst (λ k. IsPartOf (line_of locked (moved_of every (w.locks d).queue))
            (map wanting_mutex (w.locks k).queue))
            same (line_part every locked (w.locks d).queue),
      )

  event : (e : Event) → MayHappen w t e → Begins w e o → Goes (locks_after w t e l)
  event Nothing may begins = nobody
  event (Moves d m every locked n) may begins = by_move w t l Goes nobody d m every locked n may
      (λ here. absurd (let f : Condvar ≡ Mutex = sym here.sorts.0 ∙ mutex in cc))
      (λ here. moves d every locked n here)
  event (AtLock k case) may begins =
      by_case w t l Goes nobody (λ j. MayHappen w t (AtLock j case)) k case may (a_case case)

  pub in_order : (x : Turn) → Turned w t x o v → Goes (v.locks l)
  in_order x turned = by_step w t l Goes nobody v o event x turned
