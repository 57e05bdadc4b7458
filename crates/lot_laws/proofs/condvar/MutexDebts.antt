-- The thread that is to look after the waiters of a mutex, in a call of a condition variable beside it,
-- does so: a wait that has released it, or was woken to lock it again, and a notification that has taken
-- one that it wakes.
use Rattle.lot_laws.proofs.Imports
use Imports.{ℕ, Bool, true, false, Option, Some, None, if◌then◌else◌, ◌==◌, ◌≡◌, ◌≢◌, ◌⊎◌, inl, inr, refl, sym}
use Imports.{◌∙◌, ap, subst, eqb-true, Exclusive, Sleep, in_line, LockAt, inside, mutex_profile, is_locked}
use Imports.{NotifyAt, CondvarPlace, Wait, Look, Notify, WaiterFate, WaitAt, IsLockOf, IsReached}
use Imports.{condvar_profile}
use Imports.{condvar_place_purpose, condvar_recalls, condvar_released, condvar_row, has_moved, has_mutex}
use Imports.{is_main_line, condvar_act, mutex_beside, Condvar, is_lock, line_owed, or_else, Rights, Sort}
use Imports.{HasMoved, Saw, Role, Has, Line, Main, Second, counts_some, idle, WaitHasReleased, WakesWaiters}
use Imports.{mutex_seen, want_of, call_state, role_on}
use Rattle.steps_mutex.specs.declared.places.MutexPlace.TheVariants as mutex
use Rattle.steps_mutex.specs.declared.lock.Entry.TheVariants as entry
use Rattle.steps_mutex.specs.declared.lock.LockAt.TheVariants as lock
use Rattle.steps_mutex.specs.declared.unlock.UnlockAt.TheVariants as unlock
use Rattle.steps_condvar.specs.declared.notify.NotifyAt.TheVariants as notify
use Rattle.steps_condvar.specs.declared.wait.WaiterFate.TheVariants as stands
use Rattle.steps_condvar.specs.declared.wait.WaitAt.TheVariants as wait
use Rattle.spec_locks.specs.Locks as sorts
use Rattle.lot_laws.proofs.condvar.CondvarPromises.{StandsAt, neither_nowhere, notifier_nowhere}
use Rattle.lot_laws.proofs.machine.Parts.{same}
use Rattle.lot_laws.proofs.mutex.MutexRows.{decided_awake}
use Rattle.lot_laws.proofs.promises.RowPromises.{IsDebtorIn}

-- ---------------------------------------------------------------- a thread at its mutex alone

-- a thread that does none of this owes nothing
pub no_debt : (sort : Sort) (d : Role) (m : Line) → d.wakes ≡ None → d.owes_taken ≡ false → d.retries ≡ None
    → IsDebtorIn sort d m
    → ⊥
no_debt sort d Main wakes owes_taken retries (inl h) = let e : ◌≡◌ {A = Option Line} None (Some Main) = sym wakes
    ∙ h in cc
no_debt sort d Main wakes owes_taken retries (inr (inl h)) = cc
no_debt sort d Main wakes owes_taken retries (inr (inr h)) = let e : false ≡ true =
    sym (ap (counts_some sort) retries) ∙ h in cc
no_debt sort d Second wakes owes_taken retries h = let e : ◌≡◌ {A = Option Line} None (Some Second) = sym wakes
    ∙ h in cc

pub idle_owes : (sort : Sort) (m : Line) → IsDebtorIn sort idle m → ⊥
idle_owes sort m d = no_debt sort idle m refl refl refl d

pub debtor_beside : (sort : Sort) (c : ℕ) (at : CondvarPlace) (l : ℕ) (m : Line)
    → IsDebtorIn sort (role_on (Condvar c at) l) m
    → (mutex_beside at ≡ Some l) × (role_on (Condvar c at) l ≡ (condvar_row at).role)
debtor_beside sort c at l m debt = by_lock (c == l) (mutex_beside at) refl debt
  where
    there : Role
    there = (condvar_profile at).role

    by_lock : (b : Bool) (o : Option ℕ) → mutex_beside at ≡ o
        → IsDebtorIn sort (if b then there else if is_lock l o then (condvar_row at).role else idle) m
        → (o ≡ Some l) × ((if b then there else if is_lock l o then (condvar_row at).role else idle)
        ≡ (condvar_row at).role)
    by_lock true o e d = absurd (no_debt sort there m refl refl refl d)
    by_lock false None e d = absurd (idle_owes sort m d)
    by_lock false (Some k) e d = by_mutex (k == l) refl d
      where
        by_mutex : (b : Bool) → (k == l) ≡ b → IsDebtorIn sort (if b then (condvar_row at).role else idle) m
            → (Some k ≡ Some l) × ((if b then (condvar_row at).role else idle) ≡ (condvar_row at).role)
        by_mutex true f d = (ap Some (eqb-true k l f), refl)
        by_mutex false f d = absurd (idle_owes sort m d)

-- ---------------------------------------------------------------- the acts

-- the thread has the debt at its mutex, is awake, and stands nowhere, or is a wait that has released the
-- mutex and owes there
pub record LooksBeside (c : ℕ) (at : CondvarPlace) (m : ℕ) : Type 0 where
  pub debt : (((condvar_row at).owes_mutex ≡ true) × ((sort : Sort) (gave_up : Option ℕ)
      → WakesWaiters sort (Some (condvar_place_purpose at c)) gave_up (condvar_recalls at) m))
      ⊎ (((condvar_row at).retries ≡ true) × (want_of (Some (condvar_place_purpose at c)) ≡ Some Exclusive))
  pub awake : condvar_act c at ≢ Sleep
  pub stands : ((l : ℕ) → StandsAt (Condvar c at) l → ⊥)
      ⊎ (WaitHasReleased (Some (condvar_place_purpose at c)) (condvar_released at) m Main
      × ((condvar_row at).owes_mutex ≡ true))

module _ (c m : ℕ) where
  abbrev IsDebtorHere : CondvarPlace → Type 0
  IsDebtorHere at = IsDebtorIn sorts.Mutex (condvar_row at).role Main

  -- a thread that tries to lock its mutex again stands nowhere
  tries_nowhere : (timed late : Bool) (a : LockAt) → (mutex_profile (mutex.Lock entry.Lock true a)).stands
      ≡ None
      → (mutex_profile (mutex.Lock entry.Lock true a)).hand ≡ None
      → (l : ℕ) → StandsAt (Condvar c (Wait m timed (wait.Lock late (mutex.Lock entry.Lock true a)))) l → ⊥
  tries_nowhere timed late a stands hand l =
      neither_nowhere c (Wait m timed (wait.Lock late (mutex.Lock entry.Lock true a))) l refl
      (ap is_main_line stands) hand

  -- a wait that was woken to lock its mutex again
  relock_looks : (timed late r : Bool) (a : LockAt) → IsLockOf a
      → IsDebtorHere (Wait m timed (wait.Lock late (mutex.Lock entry.Lock r a)))
      → LooksBeside c (Wait m timed (wait.Lock late (mutex.Lock entry.Lock r a))) m
  relock_looks timed late true lock.First of d = record {
    debt = inr (refl, refl);
    awake = λ h. cc;
    stands = inl (tries_nowhere timed late lock.First refl refl);
  }
  relock_looks timed late true lock.Load of d = record {
    debt = inr (refl, refl);
    awake = λ h. cc;
    stands = inl (tries_nowhere timed late lock.Load refl refl);
  }
  relock_looks timed late true (lock.Decide x) of d = record {
    debt = inr (refl, refl);
    awake = decided_awake m x (is_locked x) (x == 1);
    stands = inl (tries_nowhere timed late (lock.Decide x) refl refl);
  }
  relock_looks timed late true lock.Check of d = record {
    debt = inr (refl, refl);
    awake = λ h. cc;
    stands = inl (tries_nowhere timed late lock.Check refl refl);
  }
  relock_looks timed late true (lock.Leave false) of d = record {
    debt = inr (refl, refl);
    awake = λ h. cc;
    stands = inl (tries_nowhere timed late (lock.Leave false) refl refl);
  }
  relock_looks timed late false lock.First of d = absurd (idle_owes sorts.Mutex Main d)
  relock_looks timed late false lock.Load of d = absurd (idle_owes sorts.Mutex Main d)
  relock_looks timed late false (lock.Decide x) of d = absurd (idle_owes sorts.Mutex Main d)
  relock_looks timed late false lock.Check of d = absurd (idle_owes sorts.Mutex Main d)
  relock_looks timed late false (lock.Leave false) of d = absurd (idle_owes sorts.Mutex Main d)
  relock_looks timed late r (lock.Leave true) of d = absurd (idle_owes sorts.Mutex Main d)
  relock_looks timed late r lock.Asleep of d = absurd (idle_owes sorts.Mutex Main d)
  relock_looks timed late r (lock.Taken by) of d = absurd (idle_owes sorts.Mutex Main d)
  relock_looks timed late r (lock.Handed by) of d = absurd (idle_owes sorts.Mutex Main d)
  relock_looks timed late r lock.Accept of d = absurd (idle_owes sorts.Mutex Main d)
  relock_looks timed late r a of d = absurd of

  -- a thread that still releases its mutex owns it, or has released it
  owns_it : (b : Bool) → (if b then Some (Has Exclusive) else Some (Has Exclusive)) ≡ Some (Has Exclusive)
  owns_it true = refl
  owns_it false = refl

  asleep_none : (timed : Bool) (s : WaiterFate) → IsReached (Wait m timed (wait.Asleep s))
      → IsDebtorHere (Wait m timed (wait.Asleep s)) → ⊥
  asleep_none timed (stands.Noted note) reached d = reached
  asleep_none timed stands.Listed reached d = idle_owes sorts.Mutex Main d
  asleep_none timed stands.Moved reached d = idle_owes sorts.Mutex Main d
  asleep_none timed (stands.InHand by) reached d = idle_owes sorts.Mutex Main d
  asleep_none timed (stands.Handed by) reached d = idle_owes sorts.Mutex Main d

  wait_looks : (timed : Bool) (at : WaitAt) → IsReached (Wait m timed at) → IsDebtorHere (Wait m timed at)
      → ((condvar_row (Wait m timed at)).role.claims ≡ Some (Has Exclusive) → ⊥)
      → LooksBeside c (Wait m timed at) m
  wait_looks timed (wait.Release s (mutex.Unlock unlock.Subtract)) reached d free =
      absurd (free (owns_it (has_mutex s)))
  wait_looks timed (wait.Release s (mutex.Unlock unlock.Enter)) reached d free = record {
    debt = inl (refl, λ sort gave_up. refl);
    awake = λ h. cc;
    stands = inr ((refl, refl), refl);
  }
  wait_looks timed (wait.Release s (mutex.Unlock unlock.Take)) reached d free = record {
    debt = inl (refl, λ sort gave_up. refl);
    awake = λ h. cc;
    stands = inr ((refl, refl), refl);
  }
  wait_looks timed (wait.Release s (mutex.Unlock (unlock.Clear any))) reached d free = record {
    debt = inl (refl, λ sort gave_up. refl);
    awake = λ h. cc;
    stands = inr ((refl, refl), refl);
  }
  wait_looks timed (wait.Release s (mutex.Unlock (unlock.Leave any))) reached d free = record {
    debt = inl (refl, λ sort gave_up. refl);
    awake = λ h. cc;
    stands = inr ((refl, refl), refl);
  }
  wait_looks timed (wait.Release s at) reached d free = absurd reached.0
  wait_looks timed (wait.Asleep s) reached d free = absurd (asleep_none timed s reached d)
  wait_looks timed (wait.Lock late (mutex.Lock entry.Lock r a)) reached d free =
      relock_looks timed late r a reached.1 d
  wait_looks timed (wait.Lock late at) reached d free = absurd reached.1
  wait_looks timed at reached d free = absurd (idle_owes sorts.Mutex Main d)

  -- a notification that has taken one that it wakes
  notify_looks : (all : Bool) (at : NotifyAt) → IsDebtorHere (Notify all m at)
      → LooksBeside c (Notify all m at) m
  notify_looks all (notify.Clear any) d = record {
    debt = inl (refl, λ sort gave_up. refl);
    awake = λ h. cc;
    stands = inl (notifier_nowhere c all m (notify.Clear any));
  }
  notify_looks all (notify.MarkMoved number) d = record {
    debt = inl (refl, λ sort gave_up. refl);
    awake = λ h. cc;
    stands = inl (notifier_nowhere c all m (notify.MarkMoved number));
  }
  notify_looks all (notify.Leave any number) d = record {
    debt = inl (refl, λ sort gave_up. seen (number == 0));
    awake = λ h. cc;
    stands = inl (notifier_nowhere c all m (notify.Leave any number));
  }
    where
      seen : (b : Bool) → mutex_seen (if b then Saw m else HasMoved m number) ≡ Some m
      seen true = refl
      seen false = refl
  notify_looks all at d = absurd (idle_owes sorts.Mutex Main d)

pub looks_beside : (c : ℕ) (at : CondvarPlace) (l : ℕ) → IsReached at → mutex_beside at ≡ Some l
    → IsDebtorIn sorts.Mutex (condvar_row at).role Main → ((condvar_row at).role.claims ≡ Some (Has Exclusive)
    → ⊥)
    → LooksBeside c at l
looks_beside c (Wait m timed at) l reached names d free = let here : m ≡ l = cc
    in subst (LooksBeside c (Wait m timed at)) here (wait_looks c m timed at reached d free)
looks_beside c (Look all) l reached names d free = absurd cc
looks_beside c (Notify all m at) l reached names d free = let here : m ≡ l = cc
    in subst (LooksBeside c (Notify all m at)) here (notify_looks c m all at d)

-- nobody is one of a second line, which a mutex lacks
pub no_second : (at : CondvarPlace) → IsReached at → (condvar_row at).role.wakes ≡ Some Second → ⊥
no_second (Wait m timed (wait.Release s (mutex.Unlock unlock.Subtract))) reached h = cc
no_second (Wait m timed (wait.Release s (mutex.Unlock unlock.Enter))) reached h = cc
no_second (Wait m timed (wait.Release s (mutex.Unlock unlock.Take))) reached h = cc
no_second (Wait m timed (wait.Release s (mutex.Unlock (unlock.Clear any)))) reached h = cc
no_second (Wait m timed (wait.Release s (mutex.Unlock (unlock.Leave any)))) reached h = cc
no_second (Wait m timed (wait.Release s at)) reached h = reached.0
no_second (Wait m timed (wait.Lock late (mutex.Lock entry.Lock r a))) reached h = by_lock a reached.1 h
  where
    by_lock : (a : LockAt) → IsLockOf a
        → (condvar_row (Wait m timed (wait.Lock late (mutex.Lock entry.Lock r a)))).role.wakes ≡ Some Second
        → ⊥
    by_lock lock.First of h = cc
    by_lock lock.Load of h = cc
    by_lock (lock.Decide x) of h = cc
    by_lock lock.Check of h = cc
    by_lock (lock.Leave parked) of h = cc
    by_lock lock.Asleep of h = cc
    by_lock (lock.Taken by) of h = cc
    by_lock (lock.Handed by) of h = cc
    by_lock lock.Accept of h = cc
    by_lock a of h = of
no_second (Wait m timed (wait.Lock late at)) reached h = reached.1
no_second (Wait m timed at) reached h = cc
no_second (Look all) reached h = cc
no_second (Notify all m (notify.Leave any number)) reached h = by_number (number == 0) h
  where
    by_number : (b : Bool) → (if b then inside else has_moved any false).wakes ≡ Some Second → ⊥
    by_number true g = cc
    by_number false g = cc
no_second (Notify all m at) reached h = cc

-- ---------------------------------------------------------------- the call of the thread

-- where its row says so, it owes on the main line of its mutex
pub two_owe : (c : ℕ) (at : CondvarPlace) (l : ℕ) → mutex_beside at ≡ Some l → (condvar_row at).owes_mutex
    ≡ true
    → line_owed (Condvar c at) l ≡ Some Main
two_owe c at l names owes = ap (λ o. or_else (if is_lock l o then in_line (condvar_row at).owes_mutex Main
    else None) (if c == l then in_line (condvar_row at).owes Main else None)) names
    ∙ ap (λ b. or_else (if b then in_line (condvar_row at).owes_mutex Main else None) (if c == l
    then in_line (condvar_row at).owes Main else None)) (same l)
    ∙ ap (λ b. or_else (in_line b Main) (if c == l then in_line (condvar_row at).owes Main else None)) owes

pub two_recalls : (c : ℕ) (at : CondvarPlace) (r : ℕ → Rights) → (call_state (Condvar c at) r).recalls
    ≡ condvar_recalls at
two_recalls c (Wait m timed at) r = refl
two_recalls c (Look all) r = refl
two_recalls c (Notify all m at) r = refl

pub two_released : (c : ℕ) (at : CondvarPlace) (r : ℕ → Rights) → (call_state (Condvar c at) r).released
    ≡ condvar_released at
two_released c (Wait m timed at) r = refl
two_released c (Look all) r = refl
two_released c (Notify all m at) r = refl

pub two_retries : (c : ℕ) (at : CondvarPlace) (l : ℕ) (r : ℕ → Rights) → mutex_beside at ≡ Some l
    → (condvar_row at).retries ≡ true → (call_state (Condvar c at) r).retries ≡ Some l
two_retries c (Wait m timed at) l r names again = ap (λ b. if b then Some m else None) again ∙ names
two_retries c (Look all) l r names again = absurd cc
two_retries c (Notify all m at) l r names again = ap (λ b. if b then Some m else None) again ∙ names
