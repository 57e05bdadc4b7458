-- A wait's own step never leads it to sleep where it was handed its mutex: each thread that hands it over is
-- inside the section of the mutex till it has told so.
use Rattle.lot_laws.proofs.Imports
use Imports.{ℕ, Bool, true, false, Some, if◌then◌else◌, ◌==◌, ◌≡◌, ◌≢◌, ◌+◌, ◌*◌, not, refl, sym, ◌∙◌, ap}
use Imports.{eqb-true, One, hand, Location, location_by, Next, MutexPlace, LockAt, mutex_profile, in_unlock}
use Imports.{is_locked, is_parked, lock_act, mutex_next, CondvarPlace, Wait, Look, Notify, WaiterFate, WaitAt}
use Imports.{IsLockOf, IsReached, has_mutex, carries_at_mutex, condvar_profile, mutex_side, past_release}
use Imports.{mutex_beside, next_wait, released, relocked, wait_act, Place, Idle, Mutex, RwLock, Once, Condvar}
use Imports.{Semaphore, is_lock, Main, has_readers, State, can_do, place_at, reply_to, section_at, word_at}
use Imports.{location, location_at, FitsItsLock, IsInductive, carried_at, key_of, rules_in}
use Rattle.core_base.specs.declared.notes.Note.TheVariants as note
use Rattle.core_base.specs.declared.ops.Op.TheVariants as op
use Rattle.steps_base.specs.Locations.{nowhere}
use Rattle.steps_base.specs.declared.acts.Act.TheVariants as act
use Rattle.spec_locks.specs.declared.outcomes.Answer.TheVariants as answer
use Rattle.steps_base.specs.declared.acts.Next.TheVariants as next
use Rattle.steps_mutex.specs.declared.places.MutexPlace.TheVariants as mutex
use Rattle.steps_mutex.specs.declared.hand_off.HandOffAt.TheVariants as hand_off
use Rattle.steps_mutex.specs.declared.lock.Entry.TheVariants as entry
use Rattle.steps_mutex.specs.declared.lock.LockAt.TheVariants as lock
use Rattle.steps_mutex.specs.declared.unlock.UnlockAt.TheVariants as unlock
use Rattle.steps_mutex.specs.MutexSteps.{entered, in_lock}
use Rattle.steps_condvar.specs.declared.notify.NotifyAt.TheVariants as notify
use Rattle.steps_condvar.specs.declared.wait.WaiterFate.TheVariants as stands
use Rattle.steps_condvar.specs.declared.wait.WaitAt.TheVariants as wait
use Rattle.spec_locks.specs.Locks as locks
use Rattle.lot_laws.proofs.condvar.Replies.{rules_beside, location_beside}
use Rattle.lot_laws.proofs.machine.Parts.{same}
use Rattle.lot_laws.proofs.condvar.WaitSleeps.{IsSettled, IsSettledNext}

-- ---------------------------------------------------------------- a thread that has handed a mutex over

-- by its place
handed_mutex : (at : MutexPlace) → (mutex_profile at).has_taken ≡ Some true
    → (b : Bool) × (at ≡ mutex.HandOff b (hand_off.Leave true))
handed_mutex (mutex.Lock e again a) h = absurd cc
handed_mutex mutex.TryLock h = absurd cc
handed_mutex mutex.UnlockFair h = absurd cc
handed_mutex mutex.Bump h = absurd cc
handed_mutex (mutex.Unlock (unlock.Clear true)) h = absurd cc
handed_mutex (mutex.Unlock (unlock.Clear false)) h = absurd cc
handed_mutex (mutex.Unlock (unlock.Leave true)) h = absurd cc
handed_mutex (mutex.Unlock (unlock.Leave false)) h = absurd cc
handed_mutex (mutex.Unlock a) h = absurd cc
handed_mutex (mutex.HandOff b (hand_off.Leave true)) h = (b, refl)
handed_mutex (mutex.HandOff b (hand_off.Leave false)) h = absurd cc
handed_mutex (mutex.HandOff b (hand_off.Store true none_left)) h = absurd cc
handed_mutex (mutex.HandOff b (hand_off.Store false none_left)) h = absurd cc
handed_mutex (mutex.HandOff b a) h = absurd cc

-- no call of a condition variable hands one over
hands_none : (at : CondvarPlace) → IsReached at → carries_at_mutex at ≢ Some true
hands_none (Look all) reached h = cc
hands_none (Wait m timed (wait.Release s (mutex.Unlock (unlock.Clear true)))) reached h = cc
hands_none (Wait m timed (wait.Release s (mutex.Unlock (unlock.Clear false)))) reached h = cc
hands_none (Wait m timed (wait.Release s (mutex.Unlock (unlock.Leave true)))) reached h = cc
hands_none (Wait m timed (wait.Release s (mutex.Unlock (unlock.Leave false)))) reached h = cc
hands_none (Wait m timed (wait.Release s (mutex.Unlock a))) reached h = cc
hands_none (Wait m timed (wait.Release s a)) reached h = reached.0
hands_none (Wait m timed (wait.Lock late (mutex.Lock entry.Lock again a))) reached h = cc
hands_none (Wait m timed (wait.Lock late a)) reached h = reached.1
hands_none (Wait m timed p) reached h = cc
hands_none (Notify all m (notify.Clear true)) reached h = cc
hands_none (Notify all m (notify.Clear false)) reached h = cc
hands_none (Notify all m (notify.Leave true number)) reached h = cc
hands_none (Notify all m (notify.Leave false number)) reached h = cc
hands_none (Notify all m p) reached h = cc

module _ (w : State) (inductive : IsInductive w) (u m : ℕ) (sort : (rules_in w m).sort ≡ locks.Mutex) where
  has_handed : carried_at (place_at w u) m ≡ Some true
      → (b : Bool) × (place_at w u ≡ Mutex m (mutex.HandOff b (hand_off.Leave true)))
  has_handed h = by_place (place_at w u) refl (inductive.stands.calls u) h
    where
      by_place : (p : Place) → place_at w u ≡ p → FitsItsLock w p → carried_at p m ≡ Some true
          → (b : Bool) × (place_at w u ≡ Mutex m (mutex.HandOff b (hand_off.Leave true)))
      by_place Idle is fits h = absurd cc
      by_place (Mutex k at) is fits h = either (k == m) refl h
        where
          either : (b : Bool) → (k == m) ≡ b → (if b then location (Mutex k at) else nowhere).has_taken
              ≡ Some true
              → (b : Bool) × (place_at w u ≡ Mutex m (mutex.HandOff b (hand_off.Leave true)))
          either true e g = let x = handed_mutex at g in (
            x.0,
            is ∙ ap (λ j. Mutex j at) (eqb-true k m e)
                ∙ ap (Mutex m) x.1,
          )
          either false e g = absurd cc
      by_place (RwLock k a c) is fits h = either (k == m) refl h
        where
          either : (b : Bool) → (k == m) ≡ b → (if b then location (RwLock k a c) else nowhere).has_taken
              ≡ Some true
              → (b : Bool) × (place_at w u ≡ Mutex m (mutex.HandOff b (hand_off.Leave true)))
          either true e g = absurd (let both : false ≡ true =
              sym (ap has_readers (ap (λ j. (rules_in w j).sort) (eqb-true k m e) ∙ sort)) ∙ fits.0.0 in cc)
          either false e g = absurd cc
      by_place (Once k at) is fits h = either (k == m) refl h
        where
          either : (b : Bool) → (k == m) ≡ b → (if b then location (Once k at) else nowhere).has_taken
              ≡ Some true
              → (b : Bool) × (place_at w u ≡ Mutex m (mutex.HandOff b (hand_off.Leave true)))
          either true e g = absurd (let both : locks.Once ≡ locks.Mutex = sym fits
              ∙ ap (λ j. (rules_in w j).sort) (eqb-true k m e) ∙ sort in cc)
          either false e g = absurd cc
      by_place (Semaphore k at) is fits h = either (k == m) refl h
        where
          either : (b : Bool) → (k == m) ≡ b → (if b then location (Semaphore k at) else nowhere).has_taken
              ≡ Some true
              → (b : Bool) × (place_at w u ≡ Mutex m (mutex.HandOff b (hand_off.Leave true)))
          either true e g = absurd (let both : locks.Semaphore ≡ locks.Mutex = sym fits.0
              ∙ ap (λ j. (rules_in w j).sort) (eqb-true k m e) ∙ sort in cc)
          either false e g = absurd cc
      by_place (Condvar k at) is fits h = either (k == m) (is_lock m (mutex_beside at)) refl h
        where
          either : (b there : Bool) → (k == m) ≡ b
              → (if b then location_by (condvar_profile at) else if there then location_by (mutex_side at)
              else nowhere).has_taken
              ≡ Some true
              → (b : Bool) × (place_at w u ≡ Mutex m (mutex.HandOff b (hand_off.Leave true)))
          either true there e g = absurd (let both : locks.Condvar ≡ locks.Mutex = sym fits.sort
              ∙ ap (λ j. (rules_in w j).sort) (eqb-true k m e) ∙ sort in cc)
          either false true e g = absurd (hands_none at fits.reached g)
          either false false e g = absurd cc

-- a thread that is inside the section of its mutex, and releases it, was not handed it meanwhile
module _ (w : State) (t l m : ℕ) (timed : Bool) (inductive : IsInductive w) where
  never_handed : (u : ℕ) (any : Bool)
      → place_at w t ≡ Condvar l (Wait m timed (wait.Release (stands.Handed u)
      (mutex.Unlock (unlock.Leave any)))) → ⊥
  never_handed u any is =
      let here = location_beside w t l
      (Wait m timed (wait.Release (stands.Handed u) (mutex.Unlock (unlock.Leave any)))) inductive is m refl
      in
      let in_hand_of : (location_at (place_at w t) m).hand ≡ hand u true = ap (λ (y : Location). y.hand) here
      in
      let giver = has_handed w inductive u m
      (rules_beside w t l (Wait m timed (wait.Release (stands.Handed u)
      (mutex.Unlock (unlock.Leave any)))) inductive is m refl) (inductive.stands.hands.taken u t m true
      in_hand_of) in
      let giver_inside : (location_at (place_at w u) m).inside ≡ Some Main =
      ap (λ p. (location_at p m).inside) giver.1
      ∙ ap (λ (b : Bool). (if b then location (Mutex m (mutex.HandOff giver.0 (hand_off.Leave true)))
      else nowhere).inside) (same m) in
      let by_giver : section_at w (key_of m Main) ≡ Some u = (inductive.stands.sections u m Main).0
      giver_inside
      in
      let by_own : section_at w (key_of m Main) ≡ Some t = (inductive.stands.sections t m Main).0
      (ap (λ (y : Location). y.inside) here) in
      let both : Some u ≡ Some t = sym by_giver ∙ by_own in
      let one : u ≡ t = cc in
      let places : Mutex m (mutex.HandOff giver.0 (hand_off.Leave true)) ≡ Condvar l
      (Wait m timed (wait.Release (stands.Handed u) (mutex.Unlock (unlock.Leave any)))) = sym giver.1
      ∙ ap (place_at w) one ∙ is in cc

  settled_afterwards : (s : WaiterFate) → ((u : ℕ) → s ≡ stands.Handed u → ⊥) → IsSettled (past_release s)
  settled_afterwards stands.Listed free = tt
  settled_afterwards stands.Moved free = tt
  settled_afterwards (stands.InHand u) free = tt
  settled_afterwards (stands.Handed u) free = free u refl
  settled_afterwards (stands.Noted note.Normal) free = tt
  settled_afterwards (stands.Noted note.HandOff) free = tt

  abbrev Step : WaitAt → Type 0
  Step p = IsSettledNext (next_wait m timed p (reply_to w t (wait_act l m p)))

  shows : (b : Bool) → IsSettledNext (if b then next.At wait.Stand else next.At wait.Refuse)
  shows true = tt
  shows false = tt

  leaves : (b : Bool) → IsSettledNext (if b then next.At wait.Hide else next.At wait.GiveUp)
  leaves true = tt
  leaves false = tt

  subtracts : (s : WaiterFate) → ((u : ℕ) → s ≡ stands.Handed u → ⊥) → (b : Bool)
      → IsSettled (released s (in_unlock (if b then next.At unlock.Enter else next.End answer.Ok)))
  subtracts s free true = tt
  subtracts s free false = settled_afterwards s free

  takes : (s : WaiterFate) (any b : Bool)
      → IsSettled (released s (in_unlock (if b then next.At (unlock.Clear any)
      else next.At (unlock.Leave any))))
  takes s any true = tt
  takes s any false = tt

  module _ (late : Bool) where
    by_two : (b : Bool) (x y : Next LockAt)
        → ((again : Bool) → IsSettledNext (relocked timed late (in_lock entry.Lock again x)))
        → ((again : Bool) → IsSettledNext (relocked timed late (in_lock entry.Lock again y)))
        → (again : Bool) → IsSettledNext (relocked timed late (in_lock entry.Lock again (if b then x else y)))
    by_two true x y h k = h
    by_two false x y h k = k

    sees : (seen : ℕ) (again other locked : Bool)
        → IsSettledNext
        (relocked timed late (in_lock entry.Lock again (if other then next.At (lock.Decide (word_at w m))
        else if locked then next.At (lock.Decide 3) else next.End (entered entry.Lock))))
    sees seen again true locked = tt
    sees seen again false true = tt
    sees seen again false false = tt

    decides : (seen : ℕ) (again a b : Bool)
        → IsSettledNext
        (relocked timed late (mutex_next (mutex.Lock entry.Lock again (lock.Decide seen))
        (reply_to w t (if not a then act.Word m (op.Exchange seen (seen + 1)) else if b
        then act.Word m (op.Exchange 1 3) else act.Enter (One (2 * m))))))
    decides seen again false b = sees seen again (not (word_at w m == seen)) (is_locked (word_at w m))
    decides seen again true true = sees seen again (not (word_at w m == seen)) (is_locked (word_at w m))
    decides seen again true false = tt

    lock_settles : (again : Bool) (a : LockAt) → IsLockOf a → can_do w (lock_act m a) ≡ true
        → IsSettledNext (relocked timed late (mutex_next (mutex.Lock entry.Lock again a)
        (reply_to w t (lock_act m a))))
    lock_settles again lock.First of can = by_two (word_at w m == 0) (next.End _) (next.At lock.Load)
        (λ g. tt) (λ g. tt) again
    lock_settles again lock.Load of can = tt
    lock_settles again (lock.Decide seen) of can = decides seen again (is_locked seen) (seen == 1)
    lock_settles again lock.Check of can = tt
    lock_settles again (lock.Leave parked) of can = by_two parked (next.At lock.Asleep) (next.At lock.Load)
        (λ g. tt) (λ g. tt) again
    lock_settles again lock.Asleep of can = absurd cc
    lock_settles again (lock.Taken by) of can = absurd cc
    lock_settles again (lock.Handed by) of can = absurd cc
    lock_settles again lock.Accept of can = tt
    lock_settles again a of can = absurd of

  pub wait_settles : (p : WaitAt) → place_at w t ≡ Condvar l (Wait m timed p) → IsReached (Wait m timed p)
      → can_do w (wait_act l m p) ≡ true → Step p
  wait_settles wait.Enter is reached can = tt
  wait_settles wait.Show is reached can = shows _
  wait_settles wait.Stand is reached can = tt
  wait_settles wait.Leave is reached can = tt
  wait_settles wait.Refuse is reached can = tt
  wait_settles (wait.Release s (mutex.Unlock unlock.Subtract)) is reached can =
      subtracts s (λ u e. let none = reached.1 (ap has_mutex e) in cc) (is_parked (word_at w m))
  wait_settles (wait.Release s (mutex.Unlock unlock.Enter)) is reached can = tt
  wait_settles (wait.Release s (mutex.Unlock unlock.Take)) is reached can = takes s _ _
  wait_settles (wait.Release s (mutex.Unlock (unlock.Clear any))) is reached can = tt
  wait_settles (wait.Release s (mutex.Unlock (unlock.Leave any))) is reached can =
      settled_afterwards s (λ u e. never_handed u any (is
      ∙ ap (λ x. Condvar l (Wait m timed (wait.Release x (mutex.Unlock (unlock.Leave any))))) e))
  wait_settles (wait.Release s a) is reached can = absurd reached.0
  wait_settles (wait.Asleep s) is reached can = absurd cc
  wait_settles wait.Remove is reached can = leaves _
  wait_settles wait.Hide is reached can = tt
  wait_settles wait.GiveUp is reached can = tt
  wait_settles wait.RemoveMoved is reached can = tt
  wait_settles (wait.GiveUpMoved none_left) is reached can = tt
  wait_settles (wait.Lock late (mutex.Lock entry.Lock again a)) is reached can =
      lock_settles late again a reached.1 can
  wait_settles (wait.Lock late a) is reached can = absurd reached.1
