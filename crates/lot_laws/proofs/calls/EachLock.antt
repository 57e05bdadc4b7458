-- A property of each lock holds after a step of the abstract locks, where it holds after each case, and
-- after each move of a notification.
use Rattle.lot_laws.proofs.Imports
use Imports.{ℕ, Bool, true, false, Option, Some, if◌then◌else◌, ◌==◌, ◌≡◌, ◌⊎◌, List, [], ◌∷◌, inl, inr, refl}
use Imports.{sym, ◌∙◌, ap, subst, Turn, Outcome, moved_of, taken_of, LockCase, LockState, Needs, Queued, Taken}
use Imports.{left_after, taking, AtLock, CallState, Does, Event, GoesOn, LocksState, MayHappen, MayMove, Moves}
use Imports.{Nothing, Stays, Turned, joined_by, locks_after, rules_at, has_readers, needs_of}
use Rattle.std.proofs.Common.{eqb-true}
use Rattle.spec_locks.specs.declared.calls.Turn.TheVariants as turn
use Rattle.spec_locks.specs.Locks as locks
use Rattle.lot_laws.proofs.promises.RowPromises.{CallsOneLock}

-- ---------------------------------------------------------------- a move

module _ (w : LocksState) (a c m : ℕ) (all owned : Bool) (number l : ℕ) where
  -- the lock is the mutex, or the condition variable, or as it was
  pub by_move : (P : LockState → Type 0)
      → (l ≡ m → P (joined_by owned a (moved_of all (w.locks c).queue) (w.locks l)))
      → (l ≡ c → P (left_after all (w.locks l))) → P (w.locks l)
      → P (locks_after w a (Moves c m all owned number) l)
  by_move P joined left stays = either (l == m) (l == c) refl refl
    where
      either : (at_mutex at_condvar : Bool) → (l == m) ≡ at_mutex → (l == c) ≡ at_condvar
          → P
          (if at_mutex then joined_by owned a (moved_of all (w.locks c).queue) (w.locks m) else if at_condvar
          then left_after all (w.locks c) else w.locks l)
      either true there e f = let here = eqb-true l m e
          in subst (λ k. P (joined_by owned a (moved_of all (w.locks c).queue) (w.locks k))) here
          (joined here)
      either false true e f = let here = eqb-true l c f in subst (λ k. P (left_after all (w.locks k))) here
          (left here)
      either false false e f = stays

  -- no owner changes
  pub moves_no_owner : (locks_after w a (Moves c m all owned number) l).exclusive ≡ (w.locks l).exclusive
  moves_no_owner = by_move (λ s. s.exclusive ≡ (w.locks l).exclusive) (λ e. refl) (λ e. refl) refl

  -- nor anything of a lock that is shared
  pub moves_no_readers : has_readers (rules_at w l).sort ≡ true → MayMove w a c m all owned number
      → (P : LockState → Type 0)
      → P (w.locks l) → P (locks_after w a (Moves c m all owned number) l)
  moves_no_readers readers may P stays = by_move P
      (λ e. absurd (let none : false ≡ true =
      sym (ap has_readers (ap (λ k. (rules_at w k).sort) e ∙ may.sorts.1)) ∙ readers in cc))
      (λ e. absurd (let none : false ≡ true =
      sym (ap has_readers (ap (λ k. (rules_at w k).sort) e ∙ may.sorts.0)) ∙ readers in cc)) stays

-- a thread that a move takes, its thread does
taking_by : (a : ℕ) (us : List Queued) (taken : ℕ → Option Taken) (u : ℕ) (h : Taken) → taking a us taken u
    ≡ Some h
    → (taken u ≡ Some h) ⊎ (h.by ≡ a)
taking_by a [] taken u h e = inl e
taking_by a (x ∷ us) taken u h e = elim (taking_by a us _ u h e) [
  | inl now ↦ either (u == x.thread) now
  | inr by ↦ inr by
]
  where
    either : (b : Bool) → (if b then Some (record { by = a; want = x.want }) else taken u) ≡ Some h
        → (taken u ≡ Some h) ⊎ (h.by ≡ a)
    either true e = inr (let own : a ≡ h.by = cc in sym own)
    either false e = inl e

pub moves_takes : (w : LocksState) (a c m : ℕ) (all owned : Bool) (number l u : ℕ) (h : Taken)
    → (locks_after w a (Moves c m all owned number) l).taken u ≡ Some h → ((w.locks l).taken u ≡ Some h)
    ⊎ (h.by ≡ a)
moves_takes w a c m all owned number l u h = by_move w a c m all owned number l (λ s. s.taken u ≡ Some h
    → ((w.locks l).taken u ≡ Some h) ⊎ (h.by ≡ a))
    (λ e. taking_by a (taken_of owned (moved_of all (w.locks c).queue)) (w.locks l).taken u h) (λ e. inl)
    (λ e. inl e)

-- a call of one lock moves nobody
pub moves_nobody : (w : LocksState) (a : ℕ) → CallsOneLock (w.calls a).purpose
    → (c m : ℕ) (all owned : Bool) (number : ℕ)
    → MayMove w a c m all owned number → ⊥
moves_nobody w a one c m all owned number may = subst CallsOneLock may.notifies one

-- ---------------------------------------------------------------- a step

-- a fact of a lock before and after each case, each move, and where nothing happens, is one of each step
module _ (P : LockState → LockState → Type 0) (w v : LocksState) (a l : ℕ)
    (moves : (c m : ℕ) (all owned : Bool) (number : ℕ) → MayMove w a c m all owned number
    → P (w.locks l) (locks_after w a (Moves c m all owned number) l)) (stays : P (w.locks l) (w.locks l))
    (goes : (c : LockCase) → Needs (rules_at w l) c (w.locks l) a
    → P (w.locks l) (locks.after_case (rules_at w l) c (w.locks l) a)) where
  event_so : (e : Event) → MayHappen w a e → P (w.locks l) (locks_after w a e l)
  event_so Nothing may = stays
  event_so (Moves c m all owned number) may = moves c m all owned number may
  event_so (AtLock k case) may = either (l == k) refl
    where
      either : (b : Bool) → (l == k) ≡ b
          → P (w.locks l) (if b then locks.after_case (rules_at w k) case (w.locks k) a else w.locks l)
      either false e = stays
      either true e = let here : l ≡ k = eqb-true l k e
          in rw (← here) (goes case (subst (λ n. Needs (rules_at w n) case (w.locks n) a) (sym here)
          (needs_of w a k case (w.calls a).purpose may)))

  goes_so : (o : Outcome) → GoesOn w a o v → P (w.locks l) (v.locks l)
  goes_so o g = rw (g.locks l) (event_so g.event g.may)

  stays_so : (c : CallState) (o : Outcome) → Stays w a c o v → P (w.locks l) (v.locks l)
  stays_so c o s = rw (s.locks l) stays

  does_so : (x : Turn) (o : Outcome) → Does w a x o v → P (w.locks l) (v.locks l)
  does_so (turn.Begin c) o d = stays_so _ o d
  does_so turn.Go o d = goes_so o d
  does_so turn.Spin o d = goes_so o d.goes
  does_so turn.Late o d = stays_so _ o d
  does_so turn.Ok o d = goes_so o d.goes
  does_so turn.Err o d = goes_so o d.goes

  pub turned_so : (x : Turn) (o : Outcome) → Turned w a x o v → P (w.locks l) (v.locks l)
  turned_so x o (inl d) = does_so x o d.1
  turned_so x o (inr r) = rw r.1.1 stays
