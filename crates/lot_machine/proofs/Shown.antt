-- Only calls of condition variables work on the word of one, and leave 0 or a mutex that is there.
use Rattle.std.proofs.Common.{ℕ, Bool, true, false, Option, Some, None, if◌then◌else◌, ◌==◌, ◌||◌, ◌≡◌, ◌<◌}
use Rattle.std.proofs.Common.{◌+◌, ◌-◌, inl, inr, length, get_or, refl, sym, ◌∙◌, subst, arith}
use Rattle.core_base.specs.declared.keys.Keys.TheVariants.{One, Two}
use Rattle.core_base.specs.Lines.{first_of}
use Rattle.core_base.specs.Words.{apply}
use Rattle.spec_locks.specs.declared.kinds.Kind.{Kind}
use Rattle.spec_locks.specs.declared.kinds.Kind.TheVariants as kinds
use Rattle.spec_locks.specs.Kinds.{is_condvar, is_fair, is_plain_mutex}
use Rattle.steps_base.specs.declared.acts.Act.{Act}
use Rattle.steps_base.specs.declared.acts.Act.TheVariants.{Word, HandOver, Enter, Park, Take, Leave}
use Rattle.steps_base.specs.declared.acts.Wakes.TheVariants as wakes
use Rattle.steps_base.specs.declared.acts.TakeWhich.TheVariants as whom
use Rattle.steps_base.specs.Acts.{holds, takes_effect}
use Rattle.steps_once.specs.declared.give_up.GiveUpAt.TheVariants as give_up
use Rattle.steps_once.specs.declared.look.LookAt.TheVariants as look
use Rattle.steps_once.specs.declared.run.RunAt.TheVariants as run
use Rattle.steps_once.specs.declared.places.OncePlace.{OncePlace}
use Rattle.steps_once.specs.declared.places.OncePlace.TheVariants.{Run}
use Rattle.steps_once.specs.declared.places.OncePlace.TheVariants as once
use Rattle.steps_once.specs.OnceSteps.{course_act, course_of, once_act}
use Rattle.steps_mutex.specs.MutexSteps.{mutex_act}
use Rattle.steps_rwlock_fair.specs.FairSteps.{call_act}
use Rattle.steps_semaphore.specs.SemaphoreSteps.{semaphore_act}
use Rattle.steps_condvar.specs.declared.notify.NotifyAt.TheVariants as notify
use Rattle.steps_condvar.specs.declared.places.CondvarPlace.{CondvarPlace}
use Rattle.steps_condvar.specs.declared.places.CondvarPlace.TheVariants.{Wait, Look, Notify}
use Rattle.steps_condvar.specs.declared.wait.WaitAt.TheVariants as wait
use Rattle.steps_condvar.specs.CondvarSteps.{shown_as}
use Rattle.lot_steps.specs.declared.places.Place.{Place}
use Rattle.lot_steps.specs.declared.places.Place.TheVariants.{Idle, Mutex, RwLock, Once, Condvar, Semaphore}
use Rattle.lot_steps.specs.Steps.{act_of}
use Rattle.lot_machine.specs.declared.locks.Lock.{Lock}
use Rattle.lot_machine.specs.Machine.{State, kind_at, queue_at, queues_with_last, queues_without_first}
use Rattle.lot_machine.specs.Machine.{state_after_act, state_after_hand_over_by, state_after_taking, unlocked}
use Rattle.lot_machine.specs.Machine.{word_at}
use Rattle.lot_machine.specs.Fits.{IsWellFormed, ShowsPlainMutex, is_once, is_rwlock, is_semaphore}
use Rattle.lot_machine.proofs.Closures.{IsOwn, call_own, course_own, mutex_own, semaphore_own}
use Rattle.lot_machine.proofs.KindsStay.{set_all}
use Rattle.lot_machine.proofs.Suits.{Suits}

abbrev pub AreShown : State → Type 0
AreShown w = (l : ℕ) → is_condvar (kind_at w l) ≡ true → ShowsPlainMutex (length w.locks) (kind_at w)
    (word_at w l)

-- an act on a word leaves one that may stand there
abbrev pub Writes : State → Act → Type 0
Writes w (Word l f) = is_condvar (kind_at w l) ≡ true → ShowsPlainMutex (length w.locks) (kind_at w)
    (apply f (word_at w l))
Writes w (HandOver l f) = is_condvar (kind_at w l) ≡ true → ShowsPlainMutex (length w.locks) (kind_at w)
    (apply f (word_at w l))
Writes w a = Unit {0}

-- ---------------------------------------------------------------- words after acts

abbrev LockShows : State → Lock → Type 0
LockShows w x = is_condvar x.kind ≡ true → ShowsPlainMutex (length w.locks) (kind_at w) x.word

pub performed_shown : (w : State) (t : ℕ) (p : Place) (a : Act) → AreShown w → Writes w a → (l : ℕ)
    → is_condvar (kind_at (state_after_act w t p a) l) ≡ true → ShowsPlainMutex (length w.locks) (kind_at w)
    (word_at (state_after_act w t p a) l)
performed_shown w t p (Word k f) shown writes l = set_all (LockShows w) w.locks k _ (unlocked kinds.Mutex)
    writes shown l
performed_shown w t p (HandOver k f) shown writes l = either (takes_effect f (word_at w k))
  where
    either : (b : Bool) → LockShows w (get_or (state_after_hand_over_by b w t p k f).locks l
        (unlocked kinds.Mutex))
    either true = set_all (LockShows w) w.locks k _ (unlocked kinds.Mutex) writes shown l
    either false = set_all (LockShows w) w.locks k _ (unlocked kinds.Mutex) writes shown l
performed_shown w t p (Enter (One key)) shown writes l = shown l
performed_shown w t p (Enter (Two first second)) shown writes l = shown l
performed_shown w t p (Park k key check x) shown writes l = either (holds check (word_at w k))
  where
    either : (b : Bool) → LockShows w
        (get_or (if b then record w { queues = queues_with_last w.queues key t x } else w).locks l
        (unlocked kinds.Mutex))
    either true = shown l
    either false = shown l
performed_shown w t p (Take key whom.First) shown writes l = by_first (first_of (queue_at w key))
  where
    by_first : (o : Option ℕ) → LockShows w
        (get_or (state_after_taking (record w { queues = queues_without_first w.queues key }) t o).locks l
        (unlocked kinds.Mutex))
    by_first None = shown l
    by_first (Some u) = shown l
performed_shown w t p (Take key (whom.Picked start recursive)) shown writes l = shown l
performed_shown w t p (Take key whom.All) shown writes l = shown l
performed_shown w t p (Leave (One key) wakes.Nobody) shown writes l = shown l
performed_shown w t p (Leave (One key) (wakes.All n)) shown writes l = shown l
performed_shown w t p (Leave (Two first second) wakes.Nobody) shown writes l = shown l
performed_shown w t p (Leave (Two first second) (wakes.All n)) shown writes l = shown l
performed_shown w t p a shown writes l = shown l

-- ---------------------------------------------------------------- a thread that works on a word

-- an act on a word is on that of this lock
abbrev IsOn : ℕ → Act → Type 0
IsOn l (Word k f) = k ≡ l
IsOn l (HandOver k f) = k ≡ l
IsOn l a = Unit {0}

on_own : (l : ℕ) (a : Act) → IsOwn l a → IsOn l a
on_own l (Word k f) h = h
on_own l (HandOver k f) h = h
on_own l a h = tt

once_on : (l : ℕ) (p : OncePlace) → IsOn l (once_act l p)
once_on l (once.Look c again (look.Decide seen)) = on_own l (course_act l seen (course_of c seen))
    (course_own l seen (course_of c seen))
once_on l (once.Look c again look.Load) = refl
once_on l (once.Look c again to) = tt
once_on l (Run forced (run.Close succeeded)) = refl
once_on l (Run forced to) = tt
once_on l (once.GiveUp again give_up.Remove) = tt
once_on l (once.GiveUp again give_up.Clear) = refl
once_on l (once.GiveUp again give_up.Leave) = tt

-- a thread that works on no condition variable
away : (w : State) (l : ℕ) (a : Act) → IsOn l a → is_condvar (kind_at w l) ≡ false → Writes w a
away w l (Word k f) on other = λ of. absurd (let x : is_condvar (kind_at w l) ≡ true =
    subst (λ j. is_condvar (kind_at w j) ≡ true) on of in let y : false ≡ true = sym other ∙ x in cc)
away w l (HandOver k f) on other = λ of. absurd (let x : is_condvar (kind_at w l) ≡ true =
    subst (λ j. is_condvar (kind_at w j) ≡ true) on of in let y : false ≡ true = sym other ∙ x in cc)
away w l a on other = tt

of_mutexes : (k : Kind) → (is_plain_mutex k || is_fair k) ≡ true → is_condvar k ≡ false
of_mutexes kinds.Condvar h = absurd cc
of_mutexes k h = refl

of_rwlocks : (k : Kind) → is_rwlock k ≡ true → is_condvar k ≡ false
of_rwlocks kinds.Condvar h = absurd cc
of_rwlocks k h = refl

of_onces : (k : Kind) → is_once k ≡ true → is_condvar k ≡ false
of_onces kinds.Condvar h = absurd cc
of_onces k h = refl

of_semaphores : (k : Kind) → is_semaphore k ≡ true → is_condvar k ≡ false
of_semaphores kinds.Condvar h = absurd cc
of_semaphores k h = refl

pub plain_is_other : (k : Kind) → is_plain_mutex k ≡ true → is_condvar k ≡ false
plain_is_other kinds.Condvar h = absurd cc
plain_is_other k h = refl

module _ (w : State) (shown : AreShown w) (c : ℕ) (of : is_condvar (kind_at w c) ≡ true) where
  -- a wait shows its mutex where none is shown
  shows_its_own : (m : ℕ) → m < length w.locks → is_plain_mutex (kind_at w m) ≡ true
      → ShowsPlainMutex (length w.locks) (kind_at w) (if word_at w c == 0 then shown_as m else word_at w c)
  shows_its_own m there plain = either (word_at w c == 0)
    where
      own : ShowsPlainMutex (length w.locks) (kind_at w) (m + 1)
      own = let less : (m + 1) - 1 ≡ m = omega arith in inr (
        subst (λ k. k < length w.locks) (sym less) there,
        subst (λ k. is_plain_mutex (kind_at w k) ≡ true) (sym less) plain,
      )

      either : (b : Bool) → ShowsPlainMutex (length w.locks) (kind_at w) (if b then shown_as m
          else word_at w c)
      either true = own
      either false = shown c of

  condvar_writes : (at : CondvarPlace) → Suits (length w.locks) (kind_at w) (Condvar c at)
      → Writes w (act_of (Condvar c at))
  condvar_writes (Wait m timed wait.Show) h = λ yes. shows_its_own m h.0.1 h.1.1
  condvar_writes (Wait m timed wait.Hide) h = λ yes. inl refl
  condvar_writes (Wait m timed (wait.Release st at)) h =
      away w m (mutex_act m at) (on_own m (mutex_act m at) (mutex_own m at))
      (plain_is_other (kind_at w m) h.1.1)
  condvar_writes (Wait m timed (wait.Lock timed_out at)) h =
      away w m (mutex_act m at) (on_own m (mutex_act m at) (mutex_own m at))
      (plain_is_other (kind_at w m) h.1.1)
  condvar_writes (Wait m timed at) h = tt
  condvar_writes (Look all) h = λ yes. shown c of
  condvar_writes (Notify all m notify.Again) h = λ yes. shown c of
  condvar_writes (Notify all m notify.Hide) h = λ yes. inl refl
  condvar_writes (Notify all m notify.Mark) h = away w m (act_of (Condvar c (Notify all m notify.Mark))) refl
      (plain_is_other (kind_at w m) h.1.1)
  condvar_writes (Notify all m (notify.Set seen)) h =
      away w m (act_of (Condvar c (Notify all m (notify.Set seen)))) refl (plain_is_other (kind_at w m) h.1.1)
  condvar_writes (Notify true m (notify.Move locked)) h = tt
  condvar_writes (Notify false m (notify.Move true)) h = tt
  condvar_writes (Notify false m (notify.Move false)) h = tt
  condvar_writes (Notify all m (notify.Clear any)) h = λ yes. inl refl
  condvar_writes (Notify all m (notify.MarkMoved number)) h =
      away w m (act_of (Condvar c (Notify all m (notify.MarkMoved number)))) refl
      (plain_is_other (kind_at w m) h.1.1)
  condvar_writes (Notify all m at) h = tt

pub writes : (w : State) (p : Place) → IsWellFormed w → Suits (length w.locks) (kind_at w) p
    → Writes w (act_of p)
writes w Idle s h = tt
writes w (Mutex l at) s h = away w l (mutex_act l at) (on_own l (mutex_act l at) (mutex_own l at))
    (of_mutexes (kind_at w l) h.1)
writes w (RwLock l a at) s h = away w l (call_act l a at) (on_own l (call_act l a at) (call_own l a at))
    (of_rwlocks (kind_at w l) h.1)
writes w (Once l at) s h = away w l (once_act l at) (once_on l at) (of_onces (kind_at w l) h.1)
writes w (Semaphore l at) s h = away w l (semaphore_act l at) (on_own l (semaphore_act l at)
    (semaphore_own l at)) (of_semaphores (kind_at w l) h.1)
writes w (Condvar l at) s h = condvar_writes w s.shown l h.1.0 at h
