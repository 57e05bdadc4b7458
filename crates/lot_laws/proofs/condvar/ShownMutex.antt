-- While nobody is inside its section, a condition variable shows a mutex exactly while somebody waits, and
-- all wait with that one.
use Rattle.lot_laws.proofs.Imports
use Imports.{ℕ, Bool, true, false, Option, Some, None, if◌then◌else◌, ◌==◌, ◌≡◌, ◌≤◌, inl, inr, [], refl, sym}
use Imports.{◌∙◌, ap, subst, arith, Look, Notify, Wait, NotifyAt, WaitAt, notify_row, wait_row, Place, Condvar}
use Imports.{Idle, Mutex, Once, RwLock, Semaphore, profile_at, AllOf, Clears, CondvarPhase, Inside, IsAsInside}
use Imports.{IsCondvar, IsSettledAt, Misses, NothingToDo, Sees, SeesOther, StageHolds, Takes, ToStandLast}
use Imports.{moving, Rights, ShowsWaiters, Notifies, Waits, Main, State, place_at, section_at, ShowsItsWaiters}
use Imports.{call_state, lock_state, locks_of, condvar_of, inside_as, key_of, stage_or}
use Rattle.std.proofs.Common.{eqb-true}
use Rattle.steps_condvar.specs.declared.notify.NotifyAt.TheVariants as notify
use Rattle.steps_condvar.specs.declared.wait.WaitAt.TheVariants as wait
use Rattle.spec_locks.specs.Condvars.{IsSettled}
use Rattle.spec_locks.specs.Locks.{times}
use Rattle.lot_laws.proofs.calls.CallEvents.{rights}
use Rattle.lot_laws.proofs.condvar.CondvarRows.{names_of, row_says, stage_of}

-- each thread that notifies names no mutex to wait with
notifier_names : (all : Bool) (m : ℕ) (p : NotifyAt) → (notify_row all m p).waits_with ≡ None
notifier_names all m notify.Enter = refl
notifier_names all m notify.Again = refl
notifier_names all m notify.Hide = refl
notifier_names all m notify.Mark = refl
notifier_names all m (notify.Set seen) = refl
notifier_names all m (notify.Move locked) = refl
notifier_names all m (notify.Clear any) = refl
notifier_names all m (notify.MarkMoved number) = refl
notifier_names all m (notify.Leave any number) = refl

-- the mutex that a place names is the one with which its call waits
named_by : (p : Place) (l m : ℕ) (r : ℕ → Rights) → names_of p l ≡ Some m
    → (timed : Bool) × ((call_state p r).purpose ≡ Some (Waits l m timed))
named_by (Condvar c (Wait k timed at)) l m r names = either (c == l) refl names
  where
    either : (b : Bool) → (c == l) ≡ b → (if b then Some k else None) ≡ Some m
        → (x : Bool) × (Some (Waits c k timed) ≡ Some (Waits l m x))
    either true e f = let same : k ≡ m = cc in (
      timed,
      ap (λ j. Some (Waits j k timed)) (eqb-true c l e)
          ∙ ap (λ j. Some (Waits l j timed)) same,
    )
    either false e f = absurd cc
named_by (Condvar c (Look all)) l m r names = either (c == l) names
  where
    either : (b : Bool) → (if b then None else None) ≡ Some m
        → (timed : Bool) × ((call_state (Condvar c (Look all)) r).purpose ≡ Some (Waits l m timed))
    either true f = absurd cc
    either false f = absurd cc
named_by (Condvar c (Notify all k p)) l m r names = either (c == l) names
  where
    either : (b : Bool) → (if b then (notify_row all k p).waits_with else None) ≡ Some m
        → (timed : Bool) × ((call_state (Condvar c (Notify all k p)) r).purpose ≡ Some (Waits l m timed))
    either true f = absurd (let none : ◌≡◌ {A = Option ℕ} None (Some m) = sym (notifier_names all k p) ∙ f
        in cc)
    either false f = absurd cc
named_by Idle l m r names = absurd cc
named_by (Mutex c at) l m r names = absurd cc
named_by (RwLock c a at) l m r names = absurd cc
named_by (Once c at) l m r names = absurd cc
named_by (Semaphore c at) l m r names = absurd cc

module _ (w : State) (l : ℕ) (condvar : IsCondvar (condvar_of w l)) (free : section_at w (key_of l Main)
    ≡ None) where
  settled : IsSettled (condvar_of w l)
  settled = subst (λ (i : Option Inside). IsAsInside (condvar_of w l) i)
      (ap (λ o. inside_as o (λ t. (profile_at (place_at w t) l).stage)) free) condvar.inside

  pub shows_waiters : ShowsItsWaiters w l
  shows_waiters = by_shown (lock_state w l).shown refl settled
    where
      by_shown : (o : Option ℕ) → (lock_state w l).shown ≡ o → IsSettledAt o (condvar_of w l)
          → ShowsItsWaiters w l
      by_shown None e empty = record {
        shows = ((λ h. empty), (λ h. e));
        one = λ t m f waits. absurd (let none : ◌≡◌ {A = Option ℕ} None (Some m) = sym e ∙ f in cc);
      }
      by_shown (Some k) e some = record {
        shows = (
          (λ h. absurd (let none : ◌≡◌ {A = Option ℕ} None (Some k) = sym h ∙ e in cc)),
          (λ h. absurd (some.0 h)),
        );
        one = λ t m f waits. let same : Some k ≡ Some m = sym e ∙ f in named_by (place_at w t) l m
            (rights w t) (sym (row_says (place_at w t) l).1 ∙ some.1 t waits ∙ same);
      }

-- ---------------------------------------------------------------- at any time

-- only a notification of all is about to take all
wait_stage : (k m : ℕ) (at : WaitAt) → (wait_row k at).stage ≡ Some (Takes m) → ⊥
wait_stage k m wait.Enter e = absurd cc
wait_stage k m wait.Show e = absurd cc
wait_stage k m wait.Stand e = absurd cc
wait_stage k m wait.Leave e = absurd cc
wait_stage k m wait.Refuse e = absurd cc
wait_stage k m (wait.Release s at) e = absurd cc
wait_stage k m (wait.Asleep s) e = absurd cc
wait_stage k m wait.Remove e = absurd cc
wait_stage k m wait.Hide e = absurd cc
wait_stage k m wait.GiveUp e = absurd cc
wait_stage k m wait.RemoveMoved e = absurd cc
wait_stage k m (wait.GiveUpMoved none_left) e = absurd cc
wait_stage k m (wait.Lock late at) e = absurd cc

moving_all : (all : Bool) (k m : ℕ) → ◌≡◌ {A = Option CondvarPhase} (Some (moving all k)) (Some (Takes m))
    → all ≡ true
moving_all true k m e = refl
moving_all false k m e = absurd cc

told_none : (b : Bool) (k m : ℕ) → ◌≡◌ {A = Option CondvarPhase} (Some (if b then Misses k else NothingToDo))
    (Some (Takes m)) → ⊥
told_none true k m e = absurd cc
told_none false k m e = absurd cc

notify_stage : (all : Bool) (k m : ℕ) (at : NotifyAt) → (notify_row all k at).stage ≡ Some (Takes m)
    → all ≡ true
notify_stage all k m notify.Enter e = absurd cc
notify_stage all k m notify.Again e = absurd cc
notify_stage all k m notify.Hide e = absurd cc
notify_stage all k m notify.Mark e = moving_all all k m e
notify_stage all k m (notify.Set seen) e = moving_all all k m e
notify_stage all k m (notify.Move locked) e = moving_all all k m e
notify_stage all k m (notify.Clear any) e = absurd cc
notify_stage all k m (notify.MarkMoved number) e = absurd cc
notify_stage all k m (notify.Leave any number) e = absurd (told_none (number == 0) k m e)

notifies_all : (p : Place) (l m : ℕ) (r : ℕ → Rights) → stage_of p l ≡ Some (Takes m)
    → (call_state p r).purpose ≡ Some (Notifies l true)
notifies_all (Condvar c (Notify all k at)) l m r e = either (c == l) refl e
  where
    either : (b : Bool) → (c == l) ≡ b → (if b then (notify_row all k at).stage else None) ≡ Some (Takes m)
        → (call_state (Condvar c (Notify all k at)) r).purpose ≡ Some (Notifies l true)
    either true same f = ap (λ (x : Bool). Some (Notifies c x)) (notify_stage all k m at f)
        ∙ ap (λ j. Some (Notifies j true)) (eqb-true c l same)
    either false other f = absurd cc
notifies_all (Condvar c (Wait k timed at)) l m r e = absurd (either (c == l) e)
  where
    either : (b : Bool) → (if b then (wait_row k at).stage else None) ≡ Some (Takes m) → ⊥
    either true f = wait_stage k m at f
    either false f = absurd cc
notifies_all (Condvar c (Look all)) l m r e = absurd (either (c == l) e)
  where
    either : (b : Bool) → ◌≡◌ {A = Option CondvarPhase} (if b then None else None) (Some (Takes m)) → ⊥
    either true f = absurd cc
    either false f = absurd cc
notifies_all Idle l m r e = absurd cc
notifies_all (Mutex c at) l m r e = absurd cc
notifies_all (RwLock c a at) l m r e = absurd cc
notifies_all (Once c at) l m r e = absurd cc
notifies_all (Semaphore c at) l m r e = absurd cc

takes_stage : (o : Option CondvarPhase) (m : ℕ) → stage_or o ≡ Takes m → o ≡ Some (Takes m)
takes_stage None m e = absurd cc
takes_stage (Some x) m e = ap Some e

module _ (w : State) (l : ℕ) (condvar : IsCondvar (condvar_of w l)) where
  abbrev Shows : Type 0
  Shows = ShowsWaiters (locks_of w) l

  clears : section_at w (key_of l Main) ≡ None → (lock_state w l).queue ≡ [] → (lock_state w l).shown ≡ None
  clears free empty = (shows_waiters w l condvar free).shows.1 empty

  of_mutex : (m : ℕ) → (lock_state w l).shown ≡ Some m → AllOf (condvar_of w l) m → Shows
  of_mutex m e all = record {
    one = λ t k f waits. (let same : Some m ≡ Some k = sym e ∙ f in named_by (place_at w t) l k (rights w t)
        (sym (row_says (place_at w t) l).1 ∙ all t waits ∙ same));
    none = λ f. absurd (let g : ◌≡◌ {A = Option ℕ} None (Some m) = sym f ∙ e in cc);
    left = clears;
  }

  of_nobody : (lock_state w l).queue ≡ [] → Shows
  of_nobody empty = record {
    one = λ t k f waits. absurd (let some : 1 ≤ times t [] = subst (λ q. 1 ≤ times t q) empty waits
        in omega arith);
    none = λ f. inl empty;
    left = clears;
  }

  of_settled : (o : Option ℕ) → (lock_state w l).shown ≡ o → IsSettledAt o (condvar_of w l) → Shows
  of_settled None e empty = of_nobody empty
  of_settled (Some m) e some = of_mutex m e some.1

  as_settled : IsSettled (condvar_of w l) → Shows
  as_settled h = of_settled (lock_state w l).shown refl h

  of_stage : (u : ℕ) (stage : CondvarPhase) → section_at w (key_of l Main) ≡ Some u
      → stage_or (profile_at (place_at w u) l).stage ≡ stage → StageHolds (condvar_of w l) u stage → Shows
  of_stage u NothingToDo e f h = as_settled h
  of_stage u (ToStandLast m) e f h = of_mutex m h.0 h.2
  of_stage u (SeesOther m) e f h = as_settled h.0
  of_stage u (Misses m) e f h = as_settled h.0
  of_stage u (Sees m) e f h = of_mutex m h.0 h.2
  of_stage u (Takes m) e f h = record {
    one = λ t k g waits. absurd (let none : ◌≡◌ {A = Option ℕ} None (Some k) = sym h.0 ∙ g in cc);
    none = λ g. inr (record {
      thread = u;
      inside = e;
      notifies = notifies_all (place_at w u) l m (rights w u) (sym (row_says (place_at w u) l).0
          ∙ takes_stage (profile_at (place_at w u) l).stage m f);
    });
    left = clears;
  }
  of_stage u Clears e f h = of_nobody h

  by_section : (o : Option ℕ) → section_at w (key_of l Main) ≡ o → IsAsInside (condvar_of w l)
      (inside_as o (λ t. (profile_at (place_at w t) l).stage)) → Shows
  by_section None e h = as_settled h
  by_section (Some u) e h = of_stage u (stage_or (profile_at (place_at w u) l).stage) e refl h

  pub shows_always : Shows
  shows_always = by_section (section_at w (key_of l Main)) refl condvar.inside
