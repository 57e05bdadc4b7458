-- An act enters a section of the lock that its thread calls, or of the mutex beside.
use Rattle.lot_laws.proofs.Imports
use Imports.{ℕ, Bool, true, false, Some, ◌≡◌, ◌⊎◌, ◌*◌, inl, inr, refl, sym, ◌∙◌, ap, subst, arith, One, Two}
use Imports.{Act, Location, CondvarPlace, condvar_act, mutex_beside, move_act, Place, Idle, Mutex, RwLock, Once}
use Imports.{Condvar, Semaphore, act_of, beside_of, called_lock, Line, Main, Second, has_readers, rules_of}
use Imports.{State, kind_at, place_at, FitsItsLock, IsWorld, key_of, rules_in, EntersSection, HasLine, IsBarred}
use Imports.{location}
use Rattle.steps_base.specs.declared.acts.Act.TheVariants as act
use Rattle.steps_condvar.specs.declared.places.CondvarPlace.TheVariants as condvar
use Rattle.steps_condvar.specs.declared.wait.WaitAt.TheVariants as wait
use Rattle.steps_condvar.specs.declared.notify.NotifyAt.TheVariants as notify
use Rattle.lot_laws.proofs.machine.PlaceTest.{IsLineAct, call_facts, mutex_facts, once_facts, semaphore_facts}

-- ---------------------------------------------------------------- the main line's part

moves_never : (key l m : ℕ) (all locked : Bool) → EntersSection key (move_act all locked l m) → ⊥
moves_never key l m true locked h = h
moves_never key l m false true h = h
moves_never key l m false false h = h

-- for a condition variable, or for its mutex
abbrev MainOf : CondvarPlace → ℕ → ℕ → Type 0
MainOf p l key = (2 * l ≡ key) ⊎ ((m : ℕ) × (mutex_beside p ≡ Some m) × (2 * m ≡ key))

condvar_main : (l key : ℕ) (at : CondvarPlace) → EntersSection key (condvar_act l at) → MainOf at l key
condvar_main l key (condvar.Look all) h = absurd h
condvar_main l key (condvar.Wait m timed wait.Enter) h = inl h
condvar_main l key (condvar.Wait m timed (wait.Release s at)) h =
    inr (m, refl, (mutex_facts m at).main refl key h)
condvar_main l key (condvar.Wait m timed (wait.Lock late at)) h =
    inr (m, refl, (mutex_facts m at).main refl key h)
condvar_main l key (condvar.Wait m timed at) h = absurd h
condvar_main l key (condvar.Notify all m notify.Enter) (inl h) = inl h
condvar_main l key (condvar.Notify all m notify.Enter) (inr h) = inr (m, refl, h)
condvar_main l key (condvar.Notify all m (notify.Move locked)) h = absurd (moves_never key l m all locked h)
condvar_main l key (condvar.Notify all m at) h = absurd h

-- ---------------------------------------------------------------- a line

same_lock : (k l : ℕ) (m n : Line) → key_of k m ≡ key_of l n → k ≡ l
same_lock k l Main Main e = omega arith
same_lock k l Second Second e = omega arith
same_lock k l Main Second e = absurd (omega arith)
same_lock k l Second Main e = absurd (omega arith)

within_line : (l key : ℕ) (s : Location) (a : Act) → IsLineAct l s a → EntersSection key a → (n : Line)
    × (key ≡ key_of l n)
within_line l key s (act.Enter (One k)) h e = (h.0, sym e ∙ h.1)
within_line l key s (act.Enter (Two first second)) h e = absurd h
within_line l key s a h e = absurd e

module _ (w : State) (t : ℕ) (world : IsWorld w) (b : IsBarred w t) where
  abbrev Own : Type 0
  Own = ((called_lock (place_at w t) ≡ Some b.lock) ⊎ (beside_of (place_at w t) ≡ Some b.lock))
      × HasLine (rules_of (kind_at w b.lock)).sort b.line

  -- for this lock it is the main line
  main_line : (l : ℕ) → 2 * l ≡ key_of b.lock b.line → (l ≡ b.lock)
      × HasLine (rules_of (kind_at w b.lock)).sort b.line
  main_line l e = by_line b.lock b.line e
    where
      by_line : (k : ℕ) (m : Line) → 2 * l ≡ key_of k m → (l ≡ k) × HasLine (rules_of (kind_at w k)).sort m
      by_line k Main e = ((omega arith), tt)
      by_line k Second e = absurd (omega arith)

  own_main : (l : ℕ) → called_lock (place_at w t) ≡ Some l → 2 * l ≡ key_of b.lock b.line → Own
  own_main l own e = let h = main_line l e in (inl (own ∙ ap Some h.0), h.1)

  own_shared : (l : ℕ) → called_lock (place_at w t) ≡ Some l → has_readers (rules_in w l).sort ≡ true
      → (n : Line) × (key_of b.lock b.line ≡ key_of l n) → Own
  own_shared l own readers h = let same : b.lock ≡ l = same_lock b.lock l b.line h.0 h.1 in (
    inl (own ∙ ap Some (sym same)),
    by_line b.line (subst (λ k. has_readers (rules_in w k).sort ≡ true) (sym same) readers),
  )
    where
      by_line : (m : Line) → has_readers (rules_in w b.lock).sort ≡ true
          → HasLine (rules_of (kind_at w b.lock)).sort m
      by_line Main shared = tt
      by_line Second shared = shared

  -- the section that bars it is one that its call may enter
  pub enters_own : Own
  enters_own = by_place (place_at w t) refl (subst (FitsItsLock w) refl (world.inductive.stands.calls t))
      b.enters
    where
      by_place : (p : Place) → place_at w t ≡ p → FitsItsLock w p → EntersSection (key_of b.lock b.line)
          (act_of p) → Own
      by_place Idle is fits e = absurd e
      by_place (Mutex l at) is fits e =
          own_main l (ap called_lock is) ((mutex_facts l at).main refl (key_of b.lock b.line) e)
      by_place (Once l at) is fits e =
          own_main l (ap called_lock is) ((once_facts l at).main refl (key_of b.lock b.line) e)
      by_place (Semaphore l at) is fits e = own_main l (ap called_lock is)
          ((semaphore_facts l at).main refl (key_of b.lock b.line) e)
      by_place (RwLock l a c) is fits e = own_shared l (ap called_lock is) fits.0.0
          (within_line l (key_of b.lock b.line) (location (RwLock l a c)) (act_of (RwLock l a c))
          (call_facts l a c).line e)
      by_place (Condvar l at) is fits e = elim (condvar_main l (key_of b.lock b.line) at e) [
        | inl own ↦ own_main l (ap called_lock is) own
        | inr beside ↦ let h = main_line beside.0 beside.2 in (
          inr (ap beside_of is ∙ beside.1 ∙ ap Some h.0),
          h.1,
        )
      ]
