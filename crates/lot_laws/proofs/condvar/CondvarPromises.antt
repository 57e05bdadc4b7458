-- The promises of a thread in a call of a condition variable, by its rows at both its locks.
use Rattle.lot_laws.proofs.Imports
use Imports.{ℕ, Bool, true, false, Some, None, if◌then◌else◌, ◌==◌, ◌&&◌, ◌||◌, not, ◌≡◌, ◌≢◌, ◌⊎◌, ◌↔◌, inl}
use Imports.{inr, refl, sym, ◌∙◌, ap, subst, eqb-true, in_line, taken_from, Place, Condvar, is_lock, line_owed}
use Imports.{or_else, retries_on, NotifyAt, CondvarPlace, Wait, Look, Notify, WaitAt, mutex_beside, IsReached}
use Imports.{condvar_row, condvar_place_purpose, mutex_side, notify_row, wait_row, Rights, Rules, MayWait, Main}
use Imports.{Second, State, kind_at, call_state, taken_at, nowhere, location, location_at, FitsItsLock, sort_at}
use Imports.{KnowsRights}
use Rattle.steps_condvar.specs.declared.notify.NotifyAt.TheVariants as notify
use Rattle.steps_condvar.specs.declared.wait.WaiterFate.TheVariants as stands
use Rattle.steps_condvar.specs.declared.wait.WaitAt.TheVariants as wait
use Rattle.steps_mutex.specs.declared.places.MutexPlace.TheVariants as mutex
use Rattle.steps_mutex.specs.declared.unlock.UnlockAt.TheVariants as unlock
use Rattle.lot_laws.specs.Locations.{location_by}
use Rattle.lot_laws.proofs.machine.Parts.{condvar_apart, differ, plain_rules, same}
use Rattle.lot_laws.proofs.mutex.Waiters.{notifier_stands}

-- ---------------------------------------------------------------- rows

pub record IsAside (m : ℕ) (at : WaitAt) : Type 0 where
  pub moved : (wait_row m at).moved ≡ false
  pub hand : (wait_row m at).hand ≡ None
  pub retries : (wait_row m at).role.retries ≡ None

-- a thread that stands in the queue of the condition variable has nothing at the mutex yet
pub aside : (m : ℕ) (timed : Bool) (at : WaitAt) → IsReached (Wait m timed at) → (wait_row m at).listed ≡ true
    → IsAside m at
aside m timed wait.Leave reached listed = record { moved = refl; hand = refl; retries = refl }
aside m timed wait.Remove reached listed = record { moved = refl; hand = refl; retries = refl }
aside m timed (wait.Asleep stands.Listed) reached listed = record {
  moved = refl;
  hand = refl;
  retries = refl;
}
aside m timed (wait.Asleep s) reached listed = absurd cc
aside m timed (wait.Release stands.Listed (mutex.Unlock unlock.Subtract)) reached listed = record {
  moved = refl;
  hand = refl;
  retries = refl;
}
aside m timed (wait.Release stands.Listed (mutex.Unlock unlock.Enter)) reached listed = record {
  moved = refl;
  hand = refl;
  retries = refl;
}
aside m timed (wait.Release stands.Listed (mutex.Unlock unlock.Take)) reached listed = record {
  moved = refl;
  hand = refl;
  retries = refl;
}
aside m timed (wait.Release stands.Listed (mutex.Unlock (unlock.Clear any))) reached listed = record {
  moved = refl;
  hand = refl;
  retries = refl;
}
aside m timed (wait.Release stands.Listed (mutex.Unlock (unlock.Leave any))) reached listed = record {
  moved = refl;
  hand = refl;
  retries = refl;
}
aside m timed (wait.Release stands.Listed at) reached listed = absurd reached.0
aside m timed (wait.Release s at) reached listed = absurd cc
aside m timed at reached listed = absurd cc

-- a thread that notifies stands nowhere
pub unlisted : (all : Bool) (m : ℕ) (at : NotifyAt) → (notify_row all m at).listed ≡ false
unlisted all m notify.Enter = refl
unlisted all m notify.Again = refl
unlisted all m notify.Hide = refl
unlisted all m notify.Mark = refl
unlisted all m (notify.Set seen) = refl
unlisted all m (notify.Move locked) = refl
unlisted all m (notify.Clear any) = refl
unlisted all m (notify.MarkMoved number) = refl
unlisted all m (notify.Leave any number) = refl

-- ---------------------------------------------------------------- at each of its locks

-- the thread stands in a line of the lock, or was taken from one
abbrev pub StandsAt : Place → ℕ → Type 0
StandsAt p l = ((location_at p l).stands ≢ None) ⊎ (taken_at p l ≢ None)

module _ (k : ℕ) where
  -- the thread tries its mutex again, and nothing else
  tries_mutex : (m l : ℕ) (b : Bool) → (((m == l) && b) || false) ≡ true ↔ (if b then Some m else None)
      ≡ Some l
  tries_mutex m l b = either (m == l) b refl
    where
      either : (a b : Bool) → (m == l) ≡ a → ((a && b) || false) ≡ true ↔ (if b then Some m else None)
          ≡ Some l
      either true true e = (λ h. ap Some (eqb-true m l e), λ h. refl)
      either true false e = (λ h. absurd cc, λ h. absurd cc)
      either false true e = (
        λ h. absurd cc,
        λ h. absurd (let here : m ≡ l = cc in let yes : (m == l) ≡ true =
            rw here (same l) in cc),
      )
      either false false e = (λ h. absurd cc, λ h. absurd cc)

  pub two_retry : (at : CondvarPlace) (l : ℕ) (r : ℕ → Rights)
      → (retries_on (Condvar k at) l ≡ true) ↔ ((call_state (Condvar k at) r).retries ≡ Some l)
  two_retry (Wait m timed at) l r = tries_mutex m l (mutex_side (Wait m timed at)).retries
  two_retry (Notify all m at) l r = tries_mutex m l (mutex_side (Notify all m at)).retries
  two_retry (Look all) l r = (λ h. absurd cc, λ h. absurd cc)

  -- the thread owes, and stands, in no second line
  main_owed : (a b c d : Bool) → or_else (if a then in_line b Main else None) (if c then in_line d Main
      else None) ≡ Some Second
      → ⊥
  main_owed true true c d h = cc
  main_owed true false true true h = cc
  main_owed true false true false h = cc
  main_owed true false false d h = cc
  main_owed false b true true h = cc
  main_owed false b true false h = cc
  main_owed false b false d h = cc

  pub two_owe_main : (at : CondvarPlace) (l : ℕ) → line_owed (Condvar k at) l ≡ Some Second → ⊥
  two_owe_main at l h = main_owed (is_lock l (mutex_beside at)) (condvar_row at).owes_mutex (k == l)
      (condvar_row at).owes h

  -- where it stands
  pub stands_at : (at : CondvarPlace) (l : ℕ)
      → (location_at (Condvar k at) l).stands
      ≡ (if k == l then in_line (condvar_row at).listed Main else if is_lock l (mutex_beside at)
      then in_line (condvar_row at).moved Main else None)
  stands_at at l = by_lock (k == l) (is_lock l (mutex_beside at))
    where
      by_lock : (c d : Bool)
          → (if c then location (Condvar k at) else if d then location_by (mutex_side at) else nowhere).stands
          ≡ (if c then in_line (condvar_row at).listed Main else if d then in_line (condvar_row at).moved Main
          else None)
      by_lock true d = refl
      by_lock false true = refl
      by_lock false false = refl

  pub two_stand_main : (at : CondvarPlace) (l : ℕ) → (location_at (Condvar k at) l).stands ≡ Some Second → ⊥
  two_stand_main at l h = by_lock (k == l) (is_lock l (mutex_beside at)) (condvar_row at).listed
      (condvar_row at).moved (sym (stands_at at l) ∙ h)
    where
      by_lock : (c d a b : Bool) → (if c then in_line a Main else if d then in_line b Main else None)
          ≡ Some Second → ⊥
      by_lock true d true b h = cc
      by_lock true d false b h = cc
      by_lock false true a true h = cc
      by_lock false true a false h = cc
      by_lock false false a b h = cc

  out_of_both : (at : CondvarPlace) (l : ℕ) → (k == l) ≡ false → is_lock l (mutex_beside at) ≡ false
      → StandsAt (Condvar k at) l
      → ⊥
  out_of_both at l c d (inl stands) = stands (stands_at at l ∙ rw (c, d) refl)
  out_of_both at l c d (inr taken) = taken (rw (c, d) refl)

  wait_waits : (m : ℕ) (timed : Bool) (at : WaitAt) (l : ℕ) → StandsAt (Condvar k (Wait m timed at)) l
      → (k ≡ l) ⊎ (m ≡ l)
  wait_waits m timed at l s = either (k == l) (m == l) refl refl
    where
      either : (a b : Bool) → (k == l) ≡ a → (m == l) ≡ b → (k ≡ l) ⊎ (m ≡ l)
      either true b e f = inl (eqb-true k l e)
      either false true e f = inr (eqb-true m l f)
      either false false e f = absurd (out_of_both (Wait m timed at) l e f s)

  -- a thread that is in neither line, and in no hand, stands nowhere
  pub neither_nowhere : (at : CondvarPlace) (l : ℕ) → (condvar_row at).listed ≡ false → (condvar_row at).moved
      ≡ false
      → (condvar_row at).hand ≡ None → StandsAt (Condvar k at) l → ⊥
  neither_nowhere at l listed moved hand (inl stands) = stands (stands_at at l
      ∙ by_lock (k == l) (is_lock l (mutex_beside at)))
    where
      none : (b : Bool) → b ≡ false → in_line b Main ≡ None
      none true e = absurd cc
      none false e = refl

      by_lock : (c d : Bool)
          → (if c then in_line (condvar_row at).listed Main else if d then in_line (condvar_row at).moved Main
          else None) ≡ None
      by_lock true d = none (condvar_row at).listed listed
      by_lock false true = none (condvar_row at).moved moved
      by_lock false false = refl
  neither_nowhere at l listed moved hand (inr taken) =
      taken (by_lock (is_lock l (mutex_beside at) && not (k == l)))
    where
      by_lock : (b : Bool) → (if b then taken_from (mutex_side at).hand (mutex_side at).wants true else None)
          ≡ None
      by_lock true = ap (λ h. taken_from h (mutex_side at).wants true) hand
      by_lock false = refl

  -- a thread that notifies does so too
  pub notifier_nowhere : (all : Bool) (m : ℕ) (at : NotifyAt) (l : ℕ) → StandsAt (Condvar k (Notify all m at))
      l → ⊥
  notifier_nowhere all m at l = neither_nowhere (Notify all m at) l (unlisted all m at)
      (notifier_stands all m at).0 (notifier_stands all m at).1

  pub two_wait : (at : CondvarPlace) (l : ℕ) → StandsAt (Condvar k at) l
      → MayWait (Some (condvar_place_purpose at k)) l
  two_wait (Wait m timed at) l s = wait_waits m timed at l s
  two_wait (Notify all m at) l s = absurd (notifier_nowhere all m at l s)
  two_wait (Look all) l (inl stands) = absurd (stands (stands_at (Look all) l ∙ by_lock (k == l)))
    where
      by_lock : (c : Bool) → (if c then in_line false Main else None) ≡ None
      by_lock true = refl
      by_lock false = refl
  two_wait (Look all) l (inr taken) = absurd (taken refl)

-- tells what its call is for
pub two_purpose : (k : ℕ) (at : CondvarPlace) (r : ℕ → Rights)
    → (call_state (Condvar k at) r).purpose ≡ Some (condvar_place_purpose at k)
two_purpose k (Wait m timed at) r = refl
two_purpose k (Notify all m at) r = refl
two_purpose k (Look all) r = refl

-- A call of two locks is for rights that both know.
pub two_know : (w : State) (k : ℕ) (at : CondvarPlace) → FitsItsLock w (Condvar k at)
    → KnowsRights (sort_at w) (Some (condvar_place_purpose at k))
two_know w k (Wait m timed at) fits =
    (fits.sort, ap (λ (r : Rules). r.sort) (plain_rules (kind_at w m) (fits.mutex m refl)))
two_know w k (Notify all m at) fits = fits.sort
two_know w k (Look all) fits = fits.sort

-- the thread stands at one of its locks at most
module _ (w : State) (k m : ℕ) (timed : Bool) (at : WaitAt)
    (fits : FitsItsLock w (Condvar k (Wait m timed at))) where
  apart : k ≢ m
  apart = condvar_apart w k (Wait m timed at) fits m refl

  listed_there : StandsAt (Condvar k (Wait m timed at)) k → (wait_row m at).listed ≡ true
  listed_there (inl stands) = by_row (wait_row m at).listed refl
    where
      by_row : (b : Bool) → (wait_row m at).listed ≡ b → b ≡ true
      by_row true e = refl
      by_row false e = absurd (stands (stands_at k (Wait m timed at) k
          ∙ ap (λ c. if c then in_line (wait_row m at).listed Main else if m == k then in_line
          (wait_row m at).moved Main else None) (same k) ∙ ap (λ b. in_line b Main) e))
  listed_there (inr taken) = absurd
      (taken (ap (λ c. if (m == k) && not c then taken_from (mutex_side (Wait m timed at)).hand
      (mutex_side (Wait m timed at)).wants true else None) (same k) ∙ none (m == k)))
    where
      none : (b : Bool)
          → (if b && false then taken_from (mutex_side (Wait m timed at)).hand
          (mutex_side (Wait m timed at)).wants true else None)
          ≡ None
      none true = refl
      none false = refl

  not_beside_too : (wait_row m at).listed ≡ true → StandsAt (Condvar k (Wait m timed at)) m → ⊥
  not_beside_too listed s = by_stand s
    where
      none : IsAside m at
      none = aside m timed at fits.reached listed

      by_stand : StandsAt (Condvar k (Wait m timed at)) m → ⊥
      by_stand (inl stands) = stands (stands_at k (Wait m timed at) m ∙ rw (differ k m apart, same m)
          (ap (λ b. in_line b Main) none.moved))
      by_stand (inr taken) = taken (rw (differ k m apart, same m)
          (ap (λ h. taken_from h (mutex_side (Wait m timed at)).wants true) none.hand))

  wait_one : (l j : ℕ) → StandsAt (Condvar k (Wait m timed at)) l → StandsAt (Condvar k (Wait m timed at)) j
      → l ≡ j
  wait_one l j s z = by_both (wait_waits k m timed at l s) (wait_waits k m timed at j z)
    where
      by_both : (k ≡ l) ⊎ (m ≡ l) → (k ≡ j) ⊎ (m ≡ j) → l ≡ j
      by_both (inl e) (inl f) = sym e ∙ f
      by_both (inr e) (inr f) = sym e ∙ f
      by_both (inl e) (inr f) = absurd
          (not_beside_too (listed_there (subst (StandsAt (Condvar k (Wait m timed at))) (sym e) s))
          (subst (StandsAt (Condvar k (Wait m timed at))) (sym f) z))
      by_both (inr e) (inl f) = absurd
          (not_beside_too (listed_there (subst (StandsAt (Condvar k (Wait m timed at))) (sym f) z))
          (subst (StandsAt (Condvar k (Wait m timed at))) (sym e) s))

pub two_one : (w : State) (k : ℕ) (at : CondvarPlace) → FitsItsLock w (Condvar k at) → (l j : ℕ)
    → StandsAt (Condvar k at) l
    → StandsAt (Condvar k at) j → l ≡ j
two_one w k (Wait m timed at) fits l j s z = wait_one w k m timed at fits l j s z
two_one w k (Notify all m at) fits l j s z = absurd (notifier_nowhere k all m at l s)
two_one w k (Look all) fits l j s z = absurd (two_wait k (Look all) l s)
