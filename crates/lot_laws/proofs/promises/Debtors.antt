-- A debtor of a line is inside its section or on its way into it. Each thread inside owes, and so does each
-- one on its way but for a wait.
use Rattle.lot_laws.proofs.Imports
use Imports.{ℕ, Bool, true, false, Option, Some, None, if◌then◌else◌, ◌==◌, ◌≡◌, ◌≢◌, ◌⊎◌, ◌↔◌, inl, inr, refl}
use Imports.{sym, ◌∙◌, ap, subst, eqb-true, One, Enter, in_line, location_by, LockAt, inside, NotifyAt}
use Imports.{CondvarPlace, Wait, Look, Notify, IsLockOf, IsReached, condvar_row, has_moved, mutex_side}
use Imports.{section_in, mutex_beside, move_act, Condvar, act_of, is_lock, line_owed, or_else, Rights, Waits}
use Imports.{Line, Main, State, place_at, call_at, call_state, location, location_at, FitsCondvar, FitsItsLock}
use Imports.{IsInductive, key_of, IsInside, IsWait, Owes, GoesToWake, WaitHasReleased}
use Rattle.steps_base.specs.Locations.{nowhere}
use Rattle.steps_mutex.specs.declared.lock.Entry.TheVariants as entry
use Rattle.steps_mutex.specs.declared.lock.LockAt.TheVariants as lock
use Rattle.steps_mutex.specs.declared.places.MutexPlace.TheVariants as mutex
use Rattle.steps_mutex.specs.declared.unlock.UnlockAt.TheVariants as unlock
use Rattle.steps_condvar.specs.declared.notify.NotifyAt.TheVariants as notify
use Rattle.steps_condvar.specs.declared.wait.WaitAt.TheVariants as wait
use Rattle.lot_laws.proofs.calls.CallEvents.{rights}
use Rattle.lot_laws.proofs.machine.Parts.{condvar_apart, differ, same, single_or_two}
use Rattle.lot_laws.proofs.promises.PlacePromises.{owing_is}

-- ---------------------------------------------------------------- rows

-- a wait has seen the parked bit of its mutex, and enters the section of its queue next
abbrev pub IsEntering : CondvarPlace → Type 0
IsEntering (Wait m timed (wait.Release s (mutex.Unlock unlock.Enter))) = Unit {0}
IsEntering at = ⊥

-- at the condition variable it owes exactly while it is inside
abbrev OwesThere : CondvarPlace → Type 0
OwesThere at = in_line (condvar_row at).owes Main ≡ section_in (condvar_row at).stage

owes_there : (at : CondvarPlace) → OwesThere at
owes_there (Look all) = refl
owes_there (Notify all m notify.Enter) = refl
owes_there (Notify all m at) = refl
owes_there (Wait m timed wait.Enter) = refl
owes_there (Wait m timed wait.Show) = refl
owes_there (Wait m timed wait.Stand) = refl
owes_there (Wait m timed wait.Leave) = refl
owes_there (Wait m timed wait.Refuse) = refl
owes_there (Wait m timed wait.Remove) = refl
owes_there (Wait m timed wait.Hide) = refl
owes_there (Wait m timed wait.GiveUp) = refl
owes_there (Wait m timed at) = refl

-- A call on a condition variable owes at its mutex too, but for a wait that enters the section next.
abbrev OwesInside : CondvarPlace → Type 0
OwesInside at = in_line (condvar_row at).owes_mutex Main ≡ (condvar_row at).role.inside

notifier_owes : (all : Bool) (m : ℕ) (at : NotifyAt) → OwesInside (Notify all m at)
notifier_owes all m notify.Enter = refl
notifier_owes all m (notify.Leave any number) = either (number == 0)
  where
    either : (b : Bool) → ◌≡◌ {A = Option Line} (Some Main) (if b then inside else has_moved any false).inside
    either true = refl
    either false = refl
notifier_owes all m at = refl

locker_owes : (m : ℕ) (timed late retries : Bool) (at : LockAt) → IsLockOf at
    → OwesInside (Wait m timed (wait.Lock late (mutex.Lock entry.Lock retries at)))
locker_owes m timed late retries lock.Check of = refl
locker_owes m timed late retries at of = refl

owes_beside : (at : CondvarPlace) → IsReached at → OwesInside at ⊎ IsEntering at
owes_beside (Look all) reached = inl refl
owes_beside (Notify all m at) reached = inl (notifier_owes all m at)
owes_beside (Wait m timed (wait.Release s (mutex.Unlock unlock.Enter))) reached = inr tt
owes_beside (Wait m timed (wait.Release s (mutex.Unlock unlock.Subtract))) reached = inl refl
owes_beside (Wait m timed (wait.Release s (mutex.Unlock unlock.Take))) reached = inl refl
owes_beside (Wait m timed (wait.Release s (mutex.Unlock (unlock.Clear any)))) reached = inl refl
owes_beside (Wait m timed (wait.Release s (mutex.Unlock (unlock.Leave any)))) reached = inl refl
owes_beside (Wait m timed (wait.Release s at)) reached = absurd reached.0
owes_beside (Wait m timed (wait.Lock late (mutex.Lock entry.Lock retries at))) reached =
    inl (locker_owes m timed late retries at reached.1)
owes_beside (Wait m timed (wait.Lock late at)) reached = absurd reached.1
owes_beside (Wait m timed wait.RemoveMoved) reached = inl refl
owes_beside (Wait m timed (wait.GiveUpMoved none_left)) reached = inl refl
owes_beside (Wait m timed at) reached = inl refl

-- ---------------------------------------------------------------- at each of its two locks

-- the thread enters the section of this line of this mutex next
abbrev pub EntersAt : CondvarPlace → ℕ → Line → Type 0
EntersAt at l m = (mutex_beside at ≡ Some l) × (m ≡ Main) × IsEntering at

-- each thread that does owes there, and is outside
record OwesOutside (at : CondvarPlace) : Type 0 where
  pub owes : (condvar_row at).owes_mutex ≡ true
  pub inside : (condvar_row at).role.inside ≡ None

owes_outside : (at : CondvarPlace) → IsEntering at → OwesOutside at
owes_outside (Wait m timed (wait.Release s (mutex.Unlock unlock.Enter))) e =
    record { owes = refl; inside = refl }
owes_outside at e = absurd e

module _ (k : ℕ) (at : CondvarPlace) (apart : (l : ℕ) → mutex_beside at ≡ Some l → k ≢ l)
    (reached : IsReached at) where
  abbrev owed_by : Bool → Bool → Option Line
  owed_by b c = or_else (if c then in_line (condvar_row at).owes_mutex Main else None) (if b
      then in_line (condvar_row at).owes Main else None)

  abbrev inside_by : Bool → Bool → Option Line
  inside_by b c = (if b then location (Condvar k at) else if c then location_by (mutex_side at)
      else nowhere).inside

  -- the thread owes where it is inside, but for the mutex whose section it enters next
  owes_where : (l : ℕ) → (line_owed (Condvar k at) l ≡ (location_at (Condvar k at) l).inside)
      ⊎ EntersAt at l Main
  owes_where l = by_lock (k == l) (is_lock l (mutex_beside at)) refl refl
    where
      names : (o : Option ℕ) → is_lock l o ≡ true → o ≡ Some l
      names None e = absurd cc
      names (Some j) e = ap Some (eqb-true j l e)

      or_none : (o : Option Line) → or_else o None ≡ o
      or_none None = refl
      or_none (Some m) = refl

      by_lock : (b c : Bool) → (k == l) ≡ b → is_lock l (mutex_beside at) ≡ c → (owed_by b c ≡ inside_by b c)
          ⊎ EntersAt at l Main
      by_lock true true e f = absurd (apart l (names (mutex_beside at) f) (eqb-true k l e))
      by_lock true false e f = inl (owes_there at)
      by_lock false false e f = inl refl
      by_lock false true e f = elim (owes_beside at reached) [
        | inl owes ↦ inl (or_none (in_line (condvar_row at).owes_mutex Main) ∙ owes)
        | inr enters ↦ inr (names (mutex_beside at) f, refl, enters)
      ]

  module _ (l : ℕ) (m : Line) (enters : EntersAt at l m) where
    other : (k == l) ≡ false
    other = differ k l (apart l enters.0)

    beside : is_lock l (mutex_beside at) ≡ true
    beside = ap (is_lock l) enters.0 ∙ same l

    entering_owes : line_owed (Condvar k at) l ≡ Some m
    entering_owes = (λ i. owed_by (other i) (beside i)) ∙ ap (λ b. or_else (in_line b Main) None)
        (owes_outside at enters.2).owes ∙ ap Some (sym enters.1)

    entering_outside : (location_at (Condvar k at) l).inside ≡ None
    entering_outside = (λ i. inside_by (other i) (beside i)) ∙ (owes_outside at enters.2).inside

-- the thread does so by its act, in a wait that has released its mutex
entering_acts : (k : ℕ) (at : CondvarPlace) (l : ℕ) (m : Line) → EntersAt at l m
    → act_of (Condvar k at) ≡ Enter (One (key_of l m))
entering_acts k (Wait n timed (wait.Release s (mutex.Unlock unlock.Enter))) l m e = let here : n ≡ l = cc
    in ap (λ j. Enter (One (key_of j Main))) here ∙ ap (λ x. Enter (One (key_of l x))) (sym e.1)
entering_acts k at l m e = absurd e.2

entering_released : (k : ℕ) (at : CondvarPlace) (l : ℕ) (m : Line) → EntersAt at l m → (r : ℕ → Rights)
    → WaitHasReleased (call_state (Condvar k at) r).purpose (call_state (Condvar k at) r).released l m
entering_released k (Wait n timed (wait.Release s (mutex.Unlock unlock.Enter))) l m e r = let here : n ≡ l =
    cc in subst (WaitHasReleased (Some (Waits k n timed)) true l) (sym e.1) (here, refl)
entering_released k at l m e r = absurd e.2

-- a thread that enters the section of one lock alone does so in a wait
enters_waiting : (k : ℕ) (at : CondvarPlace) (key : ℕ) → act_of (Condvar k at) ≡ Enter (One key)
    → (r : ℕ → Rights)
    → IsWait (call_state (Condvar k at) r).purpose
enters_waiting k (Wait n timed at) key e r = tt
enters_waiting k (Look all) key e r = absurd cc
enters_waiting k (Notify all n at) key e r = absurd (notifies at e)
  where
    moves : (a b : Bool) → move_act a b k n ≡ Enter (One key) → ⊥
    moves true b e = cc
    moves false true e = cc
    moves false false e = cc

    notifies : (at : NotifyAt) → act_of (Condvar k (Notify all n at)) ≡ Enter (One key) → ⊥
    notifies notify.Enter e = cc
    notifies notify.Again e = cc
    notifies notify.Hide e = cc
    notifies notify.Mark e = cc
    notifies (notify.Set seen) e = cc
    notifies (notify.Move locked) e = moves all locked e
    notifies (notify.Clear any) e = cc
    notifies (notify.MarkMoved number) e = cc
    notifies (notify.Leave any number) e = cc

-- ---------------------------------------------------------------- in a state

module _ (w : State) (t : ℕ) (inductive : IsInductive w) where
  -- a thread in a call of two locks owes what it is inside, and on the mutex whose section it enters next
  module _ (k : ℕ) (at : CondvarPlace) (is : place_at w t ≡ Condvar k at) where
    fits : FitsCondvar w k at
    fits = subst (FitsItsLock w) is (inductive.stands.calls t)

    pub two_owe : (l : ℕ) (m : Line) → Owes w t l m ↔ (IsInside w t l m ⊎ EntersAt at l m)
    two_owe l m = (
      (λ h. owing (subst (λ p. line_owed p l ≡ Some m) is h)),
      λ h. subst (λ p. line_owed p l ≡ Some m) (sym is) (elim h [
        | inl i ↦ inside_owes (subst (λ p. (location_at p l).inside ≡ Some m) is
            ((inductive.stands.sections t l m).1 i))
        | inr enters ↦ entering_owes k at (condvar_apart w k at fits) fits.reached l m enters
      ]),
    )
      where
        owing : line_owed (Condvar k at) l ≡ Some m → IsInside w t l m ⊎ EntersAt at l m
        owing owed = elim (owes_where k at (condvar_apart w k at fits) fits.reached l) [
          | inl within ↦ inl ((inductive.stands.sections t l m).0 (ap (λ p. (location_at p l).inside) is
              ∙ sym within ∙ owed))
          | inr enters ↦ inr (
            enters.0,
            (let main : Some m ≡ Some Main = sym owed
                ∙ entering_owes k at (condvar_apart w k at fits) fits.reached l Main enters in cc),
            enters.2,
          )
        ]

        inside_owes : (location_at (Condvar k at) l).inside ≡ Some m → line_owed (Condvar k at) l ≡ Some m
        inside_owes i = elim (owes_where k at (condvar_apart w k at fits) fits.reached l) [
          | inl within ↦ within ∙ i
          | inr enters ↦ absurd (let out : ◌≡◌ {A = Option Line} None (Some m) =
              sym (entering_outside k at (condvar_apart w k at fits) fits.reached l Main enters) ∙ i in cc)
        ]

  -- a thread that owes is inside, or on its way
  pub owing_so : (l : ℕ) (m : Line) → Owes w t l m → IsInside w t l m ⊎ GoesToWake w t l m
  owing_so l m h = elim (single_or_two (place_at w t)) [
    | inl single ↦ (owing_is w t inductive single l m).0 h
    | inr two ↦ elim ((two_owe two.lock two.at two.is l m).0 h) [
      | inl i ↦ inl i
      | inr enters ↦ inr (
        subst (λ p. act_of p ≡ Enter (One (key_of l m))) (sym two.is) (entering_acts two.lock two.at l m
            enters),
        inr (inr (subst (λ p. WaitHasReleased (call_state p (rights w t)).purpose
            (call_state p (rights w t)).released l m) (sym two.is) (entering_released two.lock two.at l m
            enters (rights w t)))),
      )
    ]
  ]

  -- each thread that is inside owes
  pub inside_owes_so : (l : ℕ) (m : Line) → IsInside w t l m → Owes w t l m
  inside_owes_so l m i = elim (single_or_two (place_at w t)) [
    | inl single ↦ (owing_is w t inductive single l m).1 (inl i)
    | inr two ↦ (two_owe two.lock two.at two.is l m).1 (inl i)
  ]

  -- Each thread that is on its way to wake owes, but for a wait.
  pub going_owes_so : (l : ℕ) (m : Line) → GoesToWake w t l m → Owes w t l m ⊎ IsWait (call_at w t).purpose
  going_owes_so l m g = elim (single_or_two (place_at w t)) [
    | inl single ↦ inl ((owing_is w t inductive single l m).1 (inr g))
    | inr two ↦ inr (subst (λ p. IsWait (call_state p (rights w t)).purpose) (sym two.is)
        (enters_waiting two.lock two.at (key_of l m) (subst (λ p. act_of p ≡ Enter (One (key_of l m))) two.is
        g.0) (rights w t)))
  ]
