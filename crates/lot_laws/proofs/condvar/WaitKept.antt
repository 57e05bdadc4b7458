-- A wait goes on: by each of its acts both its locks are sites again, as the deeds of its place say.
use Rattle.lot_laws.proofs.Imports
use Imports.{ℕ, Bool, true, false, None, if◌then◌else◌, ◌==◌, ◌≡◌, ◌≢◌, ◌+◌, ◌*◌, ◌<◌, List, [], length, refl}
use Imports.{sym, ◌∙◌, ap, subst, eqb-true, One, Act, Next, At, Reply, Place, Condvar, condvar_goes, next_place}
use Imports.{LockAt, UnlockAt, is_locked, lock_act, unlock_act, mutex_next, CondvarPlace, Wait, WaiterFate}
use Imports.{WaitAt}
use Imports.{IsReached, IsLockOf, wait_deeds, relocked_deeds, wait_act, condvar_next, waiter_deeds, IsCondvar}
use Imports.{Main, State, can_do, place_at, put, reply_to, state_after_act, queues_with_last, word_at, acts}
use Imports.{FitsItsLock, Goes, GoesAll, IsInductive, condvar_of, key_of, rules_in, MutexPlace, WordIs, holds}
use Imports.{Exclusive}
use Rattle.core_base.specs.declared.ops.Op.TheVariants as op
use Rattle.steps_base.specs.declared.acts.Act.TheVariants as act
use Rattle.steps_base.specs.declared.acts.Next.TheVariants.{End as Over}
use Rattle.steps_mutex.specs.declared.lock.Entry.TheVariants as entry
use Rattle.steps_mutex.specs.declared.lock.LockAt.TheVariants as lock
use Rattle.steps_mutex.specs.declared.places.MutexPlace.TheVariants as mutex
use Rattle.steps_mutex.specs.declared.unlock.UnlockAt.TheVariants as unlock
use Rattle.steps_condvar.specs.declared.wait.WaitAt.TheVariants as wait
use Rattle.spec_locks.specs.Locks as locks
use Rattle.lot_laws.specs.ThreadDeeds as deeds
use Rattle.lot_laws.proofs.sites.Following.{goes_all, only_at}
use Rattle.lot_laws.proofs.machine.Parts as glue
use Rattle.lot_laws.proofs.sites.TwoLocks.{two_at}
use Rattle.lot_laws.proofs.condvar.Replies.{taken_by_wait, decided_by}
use Rattle.lot_laws.proofs.condvar.MutexUntouched.{there_deeds}
use Rattle.lot_laws.proofs.condvar.WaitActs.{waits_there, IsAtCondvar}
use Rattle.lot_laws.proofs.condvar.WaitWords.{clears, decides, loads, subtracts, tries}
use Rattle.lot_laws.proofs.condvar.WaitSections.{accepts, enters_to_park, enters_to_release, leaves_late}
use Rattle.lot_laws.proofs.condvar.WaitSections.{leaves_line, leaves_parked, parks}
use Rattle.lot_laws.proofs.condvar.WaitRefused.{refused}
use Rattle.lot_laws.proofs.condvar.WaitTakes.{takes}
use Rattle.lot_laws.proofs.condvar.WaitWakes.{leaves_nobody, leaves_waking}

-- a step of one of two locks
module _ (w v : State) (l m : ℕ) (apart : m ≢ l) (inductive : IsInductive w) where
  pub of_one : (ds none : List deeds.Act) → none ≡ [] → Goes w v l ds → GoesAll w v (two_at l m ds none)
  of_one ds none e g = subst (λ x. GoesAll w v (two_at l m ds x)) (sym e) (subst (GoesAll w v)
      (λ i k. at_lock k i) (goes_all w v l ds inductive g))
    where
      at_lock : (k : ℕ) → only_at l ds k ≡ two_at l m ds [] k
      at_lock k = either (k == l) (k == m)
        where
          either : (a b : Bool) → (if a then ds else []) ≡ (if a then ds else if b then [] else [])
          either true b = refl
          either false true = refl
          either false false = refl

  pub of_other : (none ds : List deeds.Act) → none ≡ [] → Goes w v m ds → GoesAll w v (two_at l m none ds)
  of_other none ds e g = subst (λ x. GoesAll w v (two_at l m x ds)) (sym e)
      (subst (GoesAll w v) (λ i k. at_lock k i) (goes_all w v m ds inductive g))
    where
      at_lock : (k : ℕ) → only_at m ds k ≡ two_at l m [] ds k
      at_lock k = either (k == l) (k == m) refl refl
        where
          either : (a b : Bool) → (k == l) ≡ a → (k == m) ≡ b → (if b then ds else [])
              ≡ (if a then [] else if b then ds else [])
          either true true e f = absurd (apart (sym (eqb-true k m f) ∙ eqb-true k l e))
          either true false e f = refl
          either false b e f = refl

module _ (w : State) (t l m : ℕ) (timed : Bool) (inductive : IsInductive w) (is_there : t < length w.places)
    (apart : m ≢ l)
    (sort_l : (rules_in w l).sort ≡ locks.Condvar) (sort_m : (rules_in w m).sort ≡ locks.Mutex)
    (plain : rules_in w m ≡ glue.mutex) (condvar : IsCondvar (condvar_of w l))
    (lock_l : l < length w.locks) (lock_m : m < length w.locks) (section_l : key_of l Main < length
    w.sections) (section_m : key_of m Main < length w.sections) (line_l : key_of l Main < length w.queues)
    (line_m : key_of m Main < length w.queues) where
  abbrev waits : WaitAt → CondvarPlace
  waits at = Wait m timed at

  -- by the act of the place
  abbrev told : Act → Reply
  told a = reply_to w t a

  abbrev after : WaitAt → Act → State
  after at a = state_after_act w t (Condvar l (waits at)) a

  abbrev GoesOnBy : WaitAt → Act → Type 0
  GoesOnBy at a = FitsItsLock w (next_place (place_at (after at a) t) (told a))
      → GoesAll w (put (after at a) t (next_place (place_at (after at a) t) (told a)))
      (two_at l m (acts t (there_deeds (wait_deeds m at (told a))))
      (acts t (waiter_deeds at (taken_by_wait w m at) (told a))))

  -- after an act that befalls nobody, it goes on from where it stands
  module _ (at : WaitAt) (a : Act) (is : place_at w t ≡ Condvar l (waits at))
      (still : place_at (after at a) t ≡ place_at w t) where
    abbrev next : Place
    next = next_place (Condvar l (waits at)) (told a)

    from_there : (ds : ℕ → List deeds.Act) → (FitsItsLock w next → GoesAll w (put (after at a) t next) ds)
        → FitsItsLock w (next_place (place_at (after at a) t) (told a))
        → GoesAll w (put (after at a) t (next_place (place_at (after at a) t) (told a))) ds
    from_there ds g = subst (λ p. FitsItsLock w (next_place p (told a))
        → GoesAll w (put (after at a) t (next_place p (told a))) ds) (sym (still ∙ is)) g

    there : waiter_deeds at (taken_by_wait w m at) (told a) ≡ []
        → (FitsItsLock w next → Goes w (put (after at a) t next) l
        (acts t (there_deeds (wait_deeds m at (told a)))))
        → GoesOnBy at a
    there none g = from_there _ (λ fits. of_one w (put (after at a) t next) l m apart inductive
        (acts t (there_deeds (wait_deeds m at (told a))))
        (acts t (waiter_deeds at (taken_by_wait w m at) (told a))) (ap (acts t) none) (g fits))

    beside : there_deeds (wait_deeds m at (told a)) ≡ [] → taken_by_wait w m at ≡ None
        → (FitsItsLock w next → Goes w (put (after at a) t next) m (acts t (waiter_deeds at None (told a))))
        → GoesOnBy at a
    beside none nobody g = from_there _ (λ fits. of_other w (put (after at a) t next) l m apart inductive
        (acts t (there_deeds (wait_deeds m at (told a))))
        (acts t (waiter_deeds at (taken_by_wait w m at) (told a))) (ap (acts t) none)
        (subst (λ o. Goes w (put (after at a) t next) m (acts t (waiter_deeds at o (told a)))) (sym nobody)
        (g fits)))

  -- ---------------------------------------------------------------- the mutex is released

  abbrev releasing : WaiterFate → UnlockAt → WaitAt
  releasing s at = wait.Release s (mutex.Unlock at)

  release_goes : (s : WaiterFate) (at : UnlockAt) → place_at w t ≡ Condvar l (waits (releasing s at))
      → can_do w (unlock_act m at) ≡ true → GoesOnBy (releasing s at) (unlock_act m at)
  release_goes s unlock.Subtract is can = beside (releasing s unlock.Subtract) (unlock_act m unlock.Subtract)
      is refl refl refl (subtracts w t l m timed inductive is_there apart sort_m lock_m s is)
  release_goes s unlock.Enter is can = beside (releasing s unlock.Enter) (unlock_act m unlock.Enter) is refl
      refl refl (enters_to_release w t l m timed inductive is_there apart sort_m section_m line_m s is can)
  release_goes s unlock.Take is can = λ fits. of_other w _ l m apart inductive [] _ refl
      (takes w t l m timed inductive is_there apart sort_m plain line_m s is fits)
  release_goes s (unlock.Clear any) is can = beside (releasing s (unlock.Clear any))
      (unlock_act m (unlock.Clear any)) is refl refl refl (clears w t l m timed inductive is_there apart
      sort_m
      lock_m s any is)
  release_goes s (unlock.Leave true) is can = λ fits. of_other w _ l m apart inductive [] _ refl
      (leaves_waking w t l m timed inductive is_there apart sort_m plain section_m s is fits)
  release_goes s (unlock.Leave false) is can = λ fits. of_other w _ l m apart inductive [] _ refl
      (leaves_nobody w t l m timed inductive is_there apart sort_m plain section_m s is fits)

  -- ---------------------------------------------------------------- the mutex is locked again

  abbrev relocks : Bool → Bool → LockAt → WaitAt
  relocks late retries at = wait.Lock late (mutex.Lock entry.Lock retries at)

  -- the call of the mutex ends the wait, or goes on: neither is a deed of the condition variable that a site
  -- has
  no_deeds : (n : Next MutexPlace) → there_deeds (relocked_deeds n) ≡ []
  no_deeds (At at) = refl
  no_deeds (Over answer) = refl

  none_there : (late retries : Bool) (at : LockAt) (a : Act)
      → there_deeds (wait_deeds m (relocks late retries at) (told a)) ≡ []
  none_there late retries at a = no_deeds (mutex_next (mutex.Lock entry.Lock retries at) (told a))

  decided_goes : (late retries : Bool) (x : ℕ) (is : place_at w t ≡ Condvar l
      (waits (relocks late retries (lock.Decide x))))
      (a b : Bool)
      → (act_is : wait_act l m (relocks late retries (lock.Decide x)) ≡ decided_by m x a b)
      → can_do w (decided_by m x a b) ≡ true
      → GoesOnBy (relocks late retries (lock.Decide x)) (decided_by m x a b)
  decided_goes late retries x is false b act_is can = beside (relocks late retries (lock.Decide x))
      (act.Word m (op.Exchange x (x + 1))) is refl (none_there late retries (lock.Decide x)
      (act.Word m (op.Exchange x (x + 1)))) refl (decides w t l m timed inductive is_there apart sort_m lock_m
      late retries x (op.Exchange x (x + 1)) is act_is)
  decided_goes late retries x is true true act_is can = beside (relocks late retries (lock.Decide x))
      (act.Word m (op.Exchange 1 3)) is refl (none_there late retries (lock.Decide x)
      (act.Word m (op.Exchange 1 3))) refl (decides w t l m timed inductive is_there apart sort_m lock_m late
      retries x (op.Exchange 1 3) is act_is)
  decided_goes late retries x is true false act_is can = beside (relocks late retries (lock.Decide x))
      (act.Enter (One (2 * m))) is refl (none_there late retries (lock.Decide x) (act.Enter (One (2 * m))))
      refl (enters_to_park w t l m timed inductive is_there apart sort_m section_m line_m late retries x is
      act_is can)

  relock_goes : (late retries : Bool) (at : LockAt) → IsLockOf at → place_at w t ≡ Condvar l
      (waits (relocks late retries at))
      → can_do w (lock_act m at) ≡ true → GoesOnBy (relocks late retries at) (lock_act m at)
  relock_goes late retries lock.First of is can = beside (relocks late retries lock.First)
      (lock_act m lock.First) is refl (none_there late retries lock.First (lock_act m lock.First)) refl
      (tries w t l m timed inductive is_there apart sort_m lock_m late retries is)
  relock_goes late retries lock.Load of is can = beside (relocks late retries lock.Load)
      (lock_act m lock.Load) is refl (none_there late retries lock.Load (lock_act m lock.Load)) refl
      (loads w t l m timed inductive is_there apart sort_m lock_m late retries is)
  relock_goes late retries (lock.Decide x) of is can = decided_goes late retries x is (is_locked x) (x == 1)
      refl can
  relock_goes late retries lock.Check of is can = beside (relocks late retries lock.Check)
      (lock_act m lock.Check) is checked (none_there late retries lock.Check (lock_act m lock.Check)) refl
      (parks w t l m timed inductive is_there apart sort_m section_m line_m late retries is)
    where
      checked : place_at (after (relocks late retries lock.Check) (lock_act m lock.Check)) t ≡ place_at w t
      checked = either (holds (WordIs 3) (word_at w m))
        where
          either : (b : Bool) → place_at
              (if b then record w { queues = queues_with_last w.queues (2 * m) t Exclusive } else w) t
              ≡ place_at w t
          either true = refl
          either false = refl
  relock_goes late retries (lock.Leave parked) of is can = beside (relocks late retries (lock.Leave parked))
      (lock_act m (lock.Leave parked)) is refl (none_there late retries (lock.Leave parked)
      (lock_act m (lock.Leave parked))) refl (leaves_parked w t l m timed inductive is_there apart sort_m
      section_m line_m late retries parked is)
  relock_goes late retries lock.Accept of is can = beside (relocks late retries lock.Accept) act.Accept is
      refl (none_there late retries lock.Accept act.Accept) refl (accepts w t l m timed inductive is_there
      apart
      sort_m section_m line_m late retries is)
  relock_goes late retries lock.Asleep of is can = absurd cc
  relock_goes late retries (lock.Taken by) of is can = absurd cc
  relock_goes late retries (lock.Handed by) of is can = absurd cc
  relock_goes late retries at of is can = absurd of

  -- ---------------------------------------------------------------- whatever it does

  at_condvar : (at : WaitAt) → IsAtCondvar at → place_at w t ≡ Condvar l (waits at)
      → can_do w (wait_act l m at) ≡ true
      → FitsItsLock w (condvar_goes l (condvar_next (waits at) (reply_to w t (wait_act l m at))))
      → Goes w (put (after at (wait_act l m at)) t (next_place (Condvar l (waits at))
      (told (wait_act l m at)))) l
      (acts t (there_deeds (wait_deeds m at (told (wait_act l m at)))))
  at_condvar = waits_there w t l m timed inductive is_there apart sort_l condvar lock_l section_l line_l

  pub waits_go : (at : WaitAt) → IsReached (waits at) → place_at w t ≡ Condvar l (waits at)
      → can_do w (wait_act l m at) ≡ true
      → GoesOnBy at (wait_act l m at)
  waits_go wait.Enter reached is can = there wait.Enter (wait_act l m wait.Enter) is refl refl
      (at_condvar wait.Enter tt is can)
  waits_go wait.Show reached is can = there wait.Show (wait_act l m wait.Show) is refl refl
      (at_condvar wait.Show tt is can)
  waits_go wait.Stand reached is can = there wait.Stand (wait_act l m wait.Stand) is refl refl
      (at_condvar wait.Stand tt is can)
  waits_go wait.Leave reached is can = there wait.Leave (wait_act l m wait.Leave) is refl refl
      (at_condvar wait.Leave tt is can)
  waits_go wait.Refuse reached is can = from_there wait.Refuse (wait_act l m wait.Refuse) is refl _
      (λ fits. refused w t l m timed inductive is_there apart sort_l sort_m section_l is)
  waits_go wait.Remove reached is can = there wait.Remove (wait_act l m wait.Remove) is refl refl
      (at_condvar wait.Remove tt is can)
  waits_go wait.Hide reached is can = there wait.Hide (wait_act l m wait.Hide) is refl refl
      (at_condvar wait.Hide tt is can)
  waits_go wait.GiveUp reached is can = there wait.GiveUp (wait_act l m wait.GiveUp) is refl refl
      (at_condvar wait.GiveUp tt is can)
  waits_go wait.RemoveMoved reached is can = beside wait.RemoveMoved (act.Remove (2 * m)) is refl refl refl
      (leaves_line w t l m timed inductive is_there apart sort_m section_m line_m is)
  waits_go (wait.GiveUpMoved none_left) reached is can = beside (wait.GiveUpMoved none_left)
      (wait_act l m (wait.GiveUpMoved none_left)) is refl refl refl (leaves_late w t l m timed inductive
      is_there
      apart sort_m section_m line_m none_left is)
  waits_go (wait.Asleep s) reached is can = absurd cc
  waits_go (wait.Release s (mutex.Unlock at)) reached is can = release_goes s at is can
  waits_go (wait.Release s at) reached is can = absurd reached.0
  waits_go (wait.Lock late (mutex.Lock entry.Lock retries at)) reached is can =
      relock_goes late retries at reached.1 is can
  waits_go (wait.Lock late at) reached is can = absurd reached.1
