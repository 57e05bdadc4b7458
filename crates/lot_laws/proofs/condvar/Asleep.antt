-- A sleeper in a call of a condition variable stands in the queue of one of its locks, is in a hand, or was
-- handed its mutex. Such a call hands over no lock itself.
use Rattle.lot_laws.proofs.Imports
use Imports.{ℕ, Bool, true, false, Option, Some, None, if◌then◌else◌, ◌==◌, ◌≡◌, ◌≢◌, ◌⊎◌, inl, inr, refl, sym}
use Imports.{◌∙◌, Exclusive, Sleep, hand, in_hand, Condvar, is_lock, NotifyAt, CondvarPlace, Wait, Look, Notify}
use Imports.{WaitAt, is_locked, condvar_act, move_act, mutex_beside, notify_act, IsReached, carries_at_mutex}
use Imports.{condvar_place_purpose, mutex_side, Taken, MayWait, Has, Line, Main, want_of, taken_at, nowhere}
use Imports.{location, location_at}
use Rattle.steps_condvar.specs.declared.notify.NotifyAt.TheVariants as notify
use Rattle.steps_condvar.specs.declared.wait.WaiterFate.TheVariants as stands
use Rattle.steps_condvar.specs.declared.wait.WaitAt.TheVariants as wait
use Rattle.steps_mutex.specs.declared.lock.Entry.TheVariants as entry
use Rattle.steps_mutex.specs.declared.lock.LockAt.TheVariants as lock
use Rattle.steps_mutex.specs.declared.places.MutexPlace.TheVariants as mutex
use Rattle.steps_mutex.specs.declared.unlock.UnlockAt.TheVariants as unlock
use Rattle.lot_laws.specs.Locations.{location_by}
use Rattle.lot_laws.proofs.condvar.CondvarPromises.{StandsAt, stands_at}
use Rattle.lot_laws.proofs.machine.Parts.{differ, same}
use Rattle.lot_laws.proofs.mutex.MutexRows.{decided_awake, unlock_awake}

-- the thread was handed its mutex by a thread that wakes it yet
pub record WasHandedBeside (k : ℕ) (at : CondvarPlace) : Type 0 where
  pub mutex : ℕ
  pub by : ℕ
  pub beside : mutex_beside at ≡ Some mutex
  pub in_hand : (mutex_side at).hand ≡ hand by true
  pub claims : (mutex_side at).role.claims ≡ Some (Has Exclusive)
  pub waited : MayWait (Some (condvar_place_purpose at k)) mutex
      × (want_of (Some (condvar_place_purpose at k)) ≡ Some Exclusive)

abbrev pub IsAsleep : ℕ → CondvarPlace → Type 0
IsAsleep k at = ((l : ℕ) × StandsAt (Condvar k at) l) ⊎ WasHandedBeside k at

in_a_line : (o : Option Line) (n : Line) → o ≡ Some n → o ≢ None
in_a_line o n e none = let g : ◌≡◌ {A = Option Line} None (Some n) = sym none ∙ e in cc

in_a_hand : (o : Option Taken) (x : Taken) → o ≡ Some x → o ≢ None
in_a_hand o x e none = let g : ◌≡◌ {A = Option Taken} None (Some x) = sym none ∙ e in cc

module _ (k m : ℕ) (apart : k ≢ m) where
  wait_asleep : (timed : Bool) (at : WaitAt) → IsReached (Wait m timed at) → condvar_act k (Wait m timed at)
      ≡ Sleep
      → IsAsleep k (Wait m timed at)
  wait_asleep timed (wait.Asleep stands.Listed) reached h =
      inl (
        k,
        inl (in_a_line (location_at (Condvar k (Wait m timed (wait.Asleep stands.Listed))) k).stands
            Main (stands_at k (Wait m timed (wait.Asleep stands.Listed)) k ∙ rw (same k) refl)),
      )
  wait_asleep timed (wait.Asleep stands.Moved) reached h =
      inl (
        m,
        inl (in_a_line (location_at (Condvar k (Wait m timed (wait.Asleep stands.Moved))) m).stands Main
            (stands_at k (Wait m timed (wait.Asleep stands.Moved)) m ∙ rw (differ k m apart, same m) refl)),
      )
  wait_asleep timed (wait.Asleep (stands.InHand by)) reached h =
      inl (
        m,
        inr (in_a_hand (taken_at (Condvar k (Wait m timed (wait.Asleep (stands.InHand by)))) m)
            (record { by = by; want = Exclusive }) (rw (differ k m apart, same m) refl)),
      )
  wait_asleep timed (wait.Asleep (stands.Handed by)) reached h = inr (record {
    mutex = m;
    by = by;
    beside = refl;
    in_hand = refl;
    claims = refl;
    waited = (inr refl, refl);
  })
  wait_asleep timed (wait.Asleep (stands.Noted note)) reached h = absurd reached
  wait_asleep timed (wait.Lock late (mutex.Lock entry.Lock r lock.Asleep)) reached h =
      inl (
        m,
        inl (in_a_line (location_at
            (Condvar k (Wait m timed (wait.Lock late (mutex.Lock entry.Lock r lock.Asleep)))) m).stands Main
            (stands_at k (Wait m timed (wait.Lock late (mutex.Lock entry.Lock r lock.Asleep))) m
            ∙ rw (differ k m apart, same m) refl)),
      )
  wait_asleep timed (wait.Lock late (mutex.Lock entry.Lock r (lock.Taken by))) reached h =
      inl (
        m,
        inr (in_a_hand (taken_at
            (Condvar k (Wait m timed (wait.Lock late (mutex.Lock entry.Lock r (lock.Taken by))))) m)
            (record { by = by; want = Exclusive }) (rw (differ k m apart, same m) refl)),
      )
  wait_asleep timed (wait.Lock late (mutex.Lock entry.Lock r (lock.Handed by))) reached h = inr (record {
    mutex = m;
    by = by;
    beside = refl;
    in_hand = refl;
    claims = refl;
    waited = (inr refl, refl);
  })
  wait_asleep timed (wait.Lock late (mutex.Lock entry.Lock r (lock.Decide x))) reached h =
      absurd (decided_awake m x (is_locked x) (x == 1) h)
  wait_asleep timed (wait.Lock late (mutex.Lock entry.Lock r at)) reached h = absurd cc
  wait_asleep timed (wait.Lock late at) reached h = absurd reached.1
  wait_asleep timed (wait.Release s (mutex.Unlock at)) reached h = absurd (unlock_awake m at h)
  wait_asleep timed (wait.Release s at) reached h = absurd reached.0
  wait_asleep timed at reached h = absurd cc

-- a thread that notifies is awake
moving_awake : (all locked : Bool) (k m : ℕ) → move_act all locked k m ≢ Sleep
moving_awake true locked k m h = cc
moving_awake false true k m h = cc
moving_awake false false k m h = cc

notifier_awake : (all : Bool) (k m : ℕ) (at : NotifyAt) → notify_act all k m at ≢ Sleep
notifier_awake all k m (notify.Move locked) h = moving_awake all locked k m h
notifier_awake all k m at h = cc

pub two_asleep : (k : ℕ) (at : CondvarPlace) → ((m : ℕ) → mutex_beside at ≡ Some m → k ≢ m) → IsReached at
    → condvar_act k at ≡ Sleep → IsAsleep k at
two_asleep k (Wait m timed at) apart reached h = wait_asleep k m (apart m refl) timed at reached h
two_asleep k (Notify all m at) apart reached h = absurd (notifier_awake all k m at h)
two_asleep k (Look all) apart reached h = absurd cc

-- ---------------------------------------------------------------- nothing is handed over

to_wake : (any : Bool) → in_hand any false ≡ Some true → ⊥
to_wake true h = cc
to_wake false h = cc

hands_none : (at : CondvarPlace) → IsReached at → carries_at_mutex at ≡ Some true → ⊥
hands_none (Wait m timed (wait.Release s (mutex.Unlock (unlock.Clear any)))) reached h = to_wake any h
hands_none (Wait m timed (wait.Release s (mutex.Unlock (unlock.Leave any)))) reached h = to_wake any h
hands_none (Wait m timed (wait.Release s (mutex.Unlock unlock.Subtract))) reached h = cc
hands_none (Wait m timed (wait.Release s (mutex.Unlock at))) reached h = cc
hands_none (Wait m timed (wait.Release s at)) reached h = reached.0
hands_none (Wait m timed (wait.Lock late (mutex.Lock e r at))) reached h = cc
hands_none (Wait m timed (wait.Lock late at)) reached h = reached.1
hands_none (Wait m timed at) reached h = cc
hands_none (Notify all m (notify.Clear any)) reached h = to_wake any h
hands_none (Notify all m (notify.MarkMoved number)) reached h = cc
hands_none (Notify all m (notify.Leave any number)) reached h = to_wake any h
hands_none (Notify all m at) reached h = cc
hands_none (Look all) reached h = cc

pub two_hand_none : (k : ℕ) (at : CondvarPlace) → IsReached at → (l : ℕ)
    → (location_at (Condvar k at) l).has_taken ≡ Some true → ⊥
two_hand_none k at reached l h = by_lock (k == l) (is_lock l (mutex_beside at)) h
  where
    by_lock : (c d : Bool)
        → (if c then location (Condvar k at) else if d then location_by (mutex_side at) else nowhere).has_taken
        ≡ Some true → ⊥
    by_lock true d g = cc
    by_lock false true g = hands_none at reached g
    by_lock false false g = cc
