-- A thread in a call of a mutex is told of its step. For each reply, the step makes of the call
-- what the next row says.
use Rattle.std.proofs.Common.{ℕ, Bool, true, false, Option, Some, None, if◌then◌else◌, ◌==◌, not, ◌≡◌, ◌≢◌}
use Rattle.std.proofs.Common.{inl, [], ◌∷◌, refl, sym, ◌∙◌, ap, subst}
use Rattle.core_base.specs.declared.wants.Want.TheVariants.{Exclusive}
use Rattle.steps_base.specs.declared.acts.Reply.{Reply}
use Rattle.steps_base.specs.declared.acts.Reply.TheVariants.{Done, Value, Parked, Took, Removed, Late}
use Rattle.steps_base.specs.Calls.{CallFollows}
use Rattle.spec_locks.specs.Deeds.{AllNeeded}
use Rattle.spec_locks.specs.Locks.{Mutex, Needs, Rules, HandOff as HandsOff}
use Rattle.spec_locks.specs.Sites.{Site, IsSite, Role, Has, Main, In, End, Mark, Clear as Clears}
use Rattle.steps_mutex.specs.declared.places.MutexPlace.{MutexPlace}
use Rattle.steps_mutex.specs.declared.places.MutexPlace.TheVariants.{Lock, TryLock, Unlock, UnlockFair, Bump}
use Rattle.steps_mutex.specs.declared.places.MutexPlace.TheVariants.{HandOff}
use Rattle.steps_mutex.specs.declared.lock.LockAt.TheVariants.{First, Load, Decide, Check, Leave, Asleep}
use Rattle.steps_mutex.specs.declared.lock.LockAt.TheVariants.{Accept, Remove, Clear, GiveUp}
use Rattle.steps_mutex.specs.declared.unlock.UnlockAt.TheVariants as unlock
use Rattle.steps_mutex.specs.declared.hand_off.HandOffAt.TheVariants as hand_off
use Rattle.steps_mutex.specs.MutexDeeds.{mutex_deeds, enter_deeds, handing_deeds}
use Rattle.steps_mutex.specs.MutexLaws.{MayReply, MutexStepsTell, heir, mutex_role, mutex_row, next_row}
use Rattle.steps_mutex.specs.MutexSteps.{is_locked, is_parked, is_timed, mutex_next}
use Rattle.steps_mutex.proofs.HandOffRights.{gives_right}
use Rattle.steps_mutex.proofs.MutexCalls.{Tells, first, loads, exchanges, checks, leaves_line, removes}
use Rattle.steps_mutex.proofs.MutexCalls.{gives_up, accepts, tries, subtracts, takes_one, wakes_taken}
use Rattle.steps_mutex.proofs.MutexCalls.{unlocks_fairly, bumps, takes_fairly, stores, leaves_fairly, goes_to}
use Rattle.steps_mutex.proofs.MutexFit.{mutex_steps_follow}
use Rattle.steps_mutex.proofs.MutexWords.{locked_owned}

-- tells what a thread may be told of its own step, as far as its call goes
abbrev pub Hears : Site → ℕ → MutexPlace → Reply → Type 0
Hears s t (Lock e again First) (Value v) = Unit {0}
Hears s t (Lock e again Load) (Value v) = Unit {0}
Hears s t (Lock e again (Decide was)) (Value v) = Unit {0}
Hears s t (Lock e again (Decide was)) Done = Unit {0}
Hears s t (Lock e again Check) (Parked b) = Unit {0}
Hears s t (Lock e again (Leave b)) Done = Unit {0}
Hears s t (Lock e again Accept) Done = Unit {0}
Hears s t (Lock e again Remove) (Removed b) = is_timed e ≡ true
Hears s t (Lock e again Clear) (Value v) = Unit {0}
Hears s t (Lock e again GiveUp) Done = is_timed e ≡ true
Hears s t TryLock (Value v) = is_locked v ≡ true → s.lock.exclusive ≢ None
Hears s t (Unlock unlock.Subtract) (Value v) = Unit {0}
Hears s t (Unlock unlock.Enter) Done = Unit {0}
Hears s t (Unlock unlock.Take) (Took any b) = Unit {0}
Hears s t (Unlock (unlock.Clear any)) (Value v) = Unit {0}
Hears s t (Unlock (unlock.Leave any)) Done = Unit {0}
Hears s t UnlockFair (Value v) = Unit {0}
Hears s t Bump (Value v) = Unit {0}
Hears s t (HandOff bumping hand_off.Enter) Done = Unit {0}
Hears s t (HandOff bumping hand_off.Take) (Took any b) = Unit {0}
Hears s t (HandOff bumping (hand_off.Store any b)) (Value v) = s.lock.taken t ≡ None
Hears s t (HandOff bumping (hand_off.Leave any)) Done = Unit {0}
Hears s t at told = ⊥

module _ (limit : ℕ) (s : Site) (t l : ℕ) (site : IsSite (record { sort = Mutex; limit = limit }) s) where
  abbrev mutex : Rules
  mutex = record { sort = Mutex; limit = limit }

  -- the thread's right by its place
  owns : (d : Role) → s.role t ≡ d → d.claims ≡ Some (Has Exclusive) → s.lock.exclusive ≡ Some t
  owns d role claims = site.held t (Has Exclusive) (ap (λ (x : Role). x.claims) role ∙ claims)

  -- a thread that enters, finds nobody
  nobody : AllNeeded mutex enter_deeds s t → s.lock.exclusive ≡ None
  nobody needed = needed.0.0.0.0.1

  first_free : (b : Bool) → AllNeeded mutex (if b then enter_deeds else []) s t → b ≡ true → s.lock.exclusive
      ≡ None
  first_free true needed e = nobody needed
  first_free false needed e = absurd cc

  decided_free : (a b : Bool) → AllNeeded mutex (if not a then [] else if b then Mark Main ∷ []
      else enter_deeds) s t → a ≡ true
      → b ≡ false → s.lock.exclusive ≡ None
  decided_free true false needed e f = nobody needed
  decided_free true true needed e f = absurd cc
  decided_free false b needed e f = absurd cc

  tried_free : (b : Bool) → AllNeeded mutex (if b then End ∷ [] else enter_deeds) s t → b ≡ false
      → s.lock.exclusive ≡ None
  tried_free false needed e = nobody needed
  tried_free true needed e = absurd cc

  given : (o : Option ℕ) (b : Bool) → AllNeeded mutex (handing_deeds o b) s t
      → Needs mutex (HandsOff Exclusive (heir o)) s.lock t
  given None b needed = needed.0.0
  given (Some u) b needed = needed.0.0

  pub mutex_tells : (at : MutexPlace) (whom : Option ℕ) (told : Reply) → s.role t ≡ mutex_role at
      → AllNeeded mutex (mutex_deeds at whom told) s t → Hears s t at told
      → Tells limit l t s.lock at (mutex_deeds at whom told) (mutex_next at told)
  mutex_tells (Lock e again First) whom (Value v) role needed hears = first limit l t s.lock e again (v == 0)
      (first_free (v == 0) needed)
  mutex_tells (Lock e again Load) whom (Value v) role needed hears = loads limit l t s.lock e again v
  mutex_tells (Lock e again (Decide was)) whom (Value v) role needed hears =
      exchanges limit l t s.lock e again was v (v == was) (is_locked v) (decided_free (v == was) (is_locked v)
      needed)
  mutex_tells (Lock e again (Decide was)) whom Done role needed hears = goes_to limit l t s.lock
      (Lock e again (Decide was)) (Lock e again Check) (In Main) tt refl (λ rights. refl) (inl refl)
  mutex_tells (Lock e again Check) whom (Parked true) role needed hears = checks limit l t s.lock e again true
  mutex_tells (Lock e again Check) whom (Parked false) role needed hears =
      checks limit l t s.lock e again false
  mutex_tells (Lock e again (Leave b)) whom Done role needed hears = leaves_line limit l t s.lock e again b
  mutex_tells (Lock e again Accept) whom Done role needed hears = accepts limit l t s.lock e again
      (owns _ role refl)
  mutex_tells (Lock e again Remove) whom (Removed b) role needed hears = removes limit l t s.lock e again b
      hears
  mutex_tells (Lock e again Clear) whom (Value v) role needed hears = goes_to limit l t s.lock
      (Lock e again Clear) (Lock e again GiveUp) (Clears Main) tt refl (λ rights. refl) (inl refl)
  mutex_tells (Lock e again GiveUp) whom Done role needed hears = gives_up limit l t s.lock e again hears
  mutex_tells TryLock whom (Value v) role needed hears = tries limit l t s.lock (is_locked v)
      (tried_free (is_locked v) needed) hears
  mutex_tells (Unlock unlock.Subtract) whom (Value v) role needed hears = subtracts limit l t s.lock
      (is_parked v) (owns _ role refl)
  mutex_tells (Unlock unlock.Enter) whom Done role needed hears =
      goes_to limit l t s.lock (Unlock unlock.Enter) (Unlock unlock.Take) (In Main) tt refl (λ rights. refl)
      (inl refl)
  mutex_tells (Unlock unlock.Take) whom (Took any b) role needed hears = takes_one limit l t s.lock whom any b
  mutex_tells (Unlock (unlock.Clear any)) whom (Value v) role needed hears =
      goes_to limit l t s.lock (Unlock (unlock.Clear any)) (Unlock (unlock.Leave any)) (Clears Main) tt refl
      (λ rights. refl) (inl refl)
  mutex_tells (Unlock (unlock.Leave any)) whom Done role needed hears = wakes_taken limit l t s.lock any
  mutex_tells UnlockFair whom (Value v) role needed hears = unlocks_fairly limit l t s.lock (v == 1)
      (λ e. owns _ role refl)
  mutex_tells Bump whom (Value v) role needed hears = bumps limit l t s.lock (is_parked v) (owns _ role refl)
  mutex_tells (HandOff bumping hand_off.Enter) whom Done role needed hears =
      goes_to limit l t s.lock (HandOff bumping hand_off.Enter) (HandOff bumping hand_off.Take) (In Main) tt
      refl (λ rights. refl) (inl refl)
  mutex_tells (HandOff bumping hand_off.Take) whom (Took any b) role needed hears =
      takes_fairly limit l t s.lock bumping whom any b
  mutex_tells (HandOff bumping (hand_off.Store any b)) whom (Value v) role needed hears =
      stores limit l t s.lock bumping any b whom (gives_right limit s t whom site (given whom b needed) hears)
  mutex_tells (HandOff bumping (hand_off.Leave any)) whom Done role needed hears =
      leaves_fairly limit l t s.lock bumping any
  mutex_tells at whom told role needed hears = absurd hears

-- ---------------------------------------------------------------- the law

module _ (limit : ℕ) (s : Site) (t l : ℕ) where
  abbrev rules : Rules
  rules = record { sort = Mutex; limit = limit }

  hears_so : (p : MutexPlace) (whom : Option ℕ) (told : Reply) → MayReply rules s t p whom told → told ≢ Late
      → Hears s t p told
  hears_so (Lock e again First) whom (Value v) f on_time = tt
  hears_so (Lock e again Load) whom (Value v) f on_time = tt
  hears_so (Lock e again (Decide was)) whom (Value v) f on_time = tt
  hears_so (Lock e again (Decide was)) whom Done f on_time = tt
  hears_so (Lock e again Check) whom (Parked b) f on_time = tt
  hears_so (Lock e again (Leave b)) whom Done f on_time = tt
  hears_so (Lock e again Asleep) whom Late f on_time = absurd (on_time refl)
  hears_so (Lock e again Accept) whom Done f on_time = tt
  hears_so (Lock e again Remove) whom (Removed b) f on_time = f.0
  hears_so (Lock e again Clear) whom (Value v) f on_time = tt
  hears_so (Lock e again GiveUp) whom Done f on_time = f.0
  hears_so TryLock whom (Value v) f on_time = λ z. locked_owned s.parked s.lock.exclusive
      (ap is_locked (sym f) ∙ z)
  hears_so (Unlock unlock.Subtract) whom (Value v) f on_time = tt
  hears_so (Unlock unlock.Enter) whom Done f on_time = tt
  hears_so (Unlock unlock.Take) whom (Took any b) f on_time = tt
  hears_so (Unlock (unlock.Clear any)) whom (Value v) f on_time = tt
  hears_so (Unlock (unlock.Leave any)) whom Done f on_time = tt
  hears_so UnlockFair whom (Value v) f on_time = tt
  hears_so Bump whom (Value v) f on_time = tt
  hears_so (HandOff bumping hand_off.Enter) whom Done f on_time = tt
  hears_so (HandOff bumping hand_off.Take) whom (Took any b) f on_time = tt
  hears_so (HandOff bumping (hand_off.Store any b)) whom (Value v) f on_time = f.3
  hears_so (HandOff bumping (hand_off.Leave any)) whom Done f on_time = tt
  hears_so p whom told f on_time = absurd f

pub mutex_steps_tell : MutexStepsTell
mutex_steps_tell r s t l p whom told a f on_time =
    subst (λ x. IsSite x s → MayReply x s t p whom told → AllNeeded x (mutex_deeds p whom told) s t
    → CallFollows x s.lock t l (mutex_row p) (mutex_deeds p whom told) (next_row (mutex_next p told)))
    (λ i. record { sort = sym a.sort i; limit = r.limit })
    (λ h f needed. (mutex_tells r.limit s t l h p whom told a.role needed (hears_so r.limit s t l p whom told
    f on_time)).follows)
    a.site f (mutex_steps_follow r s t p whom told a f).needed
