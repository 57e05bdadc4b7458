-- A waiter in the queue of a mutex, or in a hand there, and all that befalls it: by its rows at the mutex,
-- in a call of that mutex or of a condition variable beside it. No other lock sees a change of it.
use Rattle.lot_laws.proofs.Imports
use Imports.{ℕ, Bool, true, false, Option, Some, None, if◌then◌else◌, ◌==◌, ◌≡◌, ◌≢◌, ◌⊎◌, inl, inr, refl, sym}
use Imports.{◌∙◌, ap, subst, cases_eq, eqb-true, Exclusive, Woken, TakenBy, HandedBy, taken_from, in_line}
use Imports.{Place, Idle, Mutex, RwLock, Once, Condvar, Semaphore, next_place, or_else, wants, Entry, LockAt}
use Imports.{MutexPlace, Lock, Unlock, NotifyAt, CondvarPlace, Wait, Look, Notify, WaitAt, mutex_beside}
use Imports.{condvar_profile, mutex_side, notify_row, IsReached, IsUnlockPlace, IsLockOf, IsRelock, Rules}
use Imports.{Taken, Role, Line, Main, Has, has_readers, idle, State, place_at, taken_at, mutex_profile}
use Imports.{mutex_location, nowhere, location, location_at, role_on, FitsItsLock, IsInductive, Hands, hand_at}
use Imports.{rules_in}
use Rattle.core_base.specs.declared.notes.Note.TheVariants as note
use Rattle.steps_mutex.specs.declared.lock.Entry.TheVariants as entries
use Rattle.steps_mutex.specs.declared.lock.LockAt.TheVariants as lock
use Rattle.steps_mutex.specs.declared.unlock.UnlockAt.TheVariants as unlock
use Rattle.steps_condvar.specs.declared.notify.NotifyAt.TheVariants as notify
use Rattle.steps_condvar.specs.declared.wait.WaiterFate.TheVariants as stands
use Rattle.steps_condvar.specs.declared.wait.WaitAt.TheVariants as wait
use Rattle.spec_locks.specs.Locks as locks
use Rattle.lot_laws.specs.ThreadDeeds.{mutex_row}
use Rattle.lot_laws.specs.Locations.{Location, Hand, hand, location_by}
use Rattle.lot_laws.proofs.sites.StandsKept.{Alike, AlikeBeside}
use Rattle.lot_laws.proofs.sites.ToldAt.{HoldsHere}
use Rattle.lot_laws.proofs.machine.Parts.{aparts, held_tells, same, differ, mutex, taken_out, IsApart}
use Rattle.lot_laws.proofs.machine.Parts.{WantsAlone, in_hand_where}
use Rattle.lot_laws.proofs.hands.Handed.{CarriesAt, in_hand_here}

-- told something by another thread, it goes to a place: what the lock l sees then, and where it may stand
-- there
pub record IsTold (l : ℕ) (p q : Place) (may : Type 0) (goes : Location → Location) (does : Role → Role)
    (held : Option Taken) : Type 0 where
  pub location : location_at q l ≡ goes (location_at p l)
  pub role : role_on q l ≡ does (role_on p l)
  pub taken : taken_at q l ≡ held
  pub others : AlikeBeside l p q
  pub fits : may → (w : State) → FitsItsLock w p → FitsItsLock w q

-- the thread stands in the main line, asleep or releasing the mutex still, and may be taken
pub record SleepsAt (l : ℕ) (p : Place) : Type 0 where
  pub free : hand_at p l ≡ None
  pub untaken : taken_at p l ≡ None
  pub taken : (t : ℕ) → IsTold l p (next_place p (TakenBy t)) (Unit {0}) (λ s. record s {
    stands = None;
    waits = None;
    hand = hand t false;
  }) (λ d. d) (Some (record { by = t; want = Exclusive }))

-- taken by t, it is handed the mutex or woken: handed it only once it has released it
pub record IsHeldThere (l t : ℕ) (p : Place) : Type 0 where
  pub was : taken_at p l ≡ Some (record { by = t; want = Exclusive })
  pub claims : ((role_on p l).claims ≡ None) ⊎ ((role_on p l).claims ≡ Some (Has Exclusive))
  pub handed : (alone : Bool) → IsTold l p (next_place p (HandedBy t alone)) ((role_on p l).claims ≡ None)
      (λ s. record s { hand = hand t true }) (λ d. record d { claims = Some (Has Exclusive) }) None
  pub woken : IsTold l p (next_place p (Woken note.Normal)) (Unit {0}) (λ s. record s { hand = None })
      (λ d. record d { retries = Some Exclusive }) None

-- handed the mutex by t, it is told so
pub record WasGivenThere (l t : ℕ) (p : Place) : Type 0 where
  pub was : taken_at p l ≡ None
  pub told : IsTold l p (next_place p (Woken note.HandOff)) (Unit {0}) (λ s. record s { hand = None })
      (λ d. d) None

-- a thread that stands at the mutex l calls it, or waits with it
abbrev pub CallsMutex : ℕ → Place → Type 0
CallsMutex l (RwLock k a at) = k ≢ l
CallsMutex l (Once k at) = k ≢ l
CallsMutex l (Semaphore k at) = k ≢ l
CallsMutex l (Condvar k at) = (k ≢ l) × IsReached at
CallsMutex l p = Unit {0}

pub calls_mutex_at : (w : State) (l : ℕ) (p : Place) → FitsItsLock w p → rules_in w l ≡ mutex → CallsMutex l p
calls_mutex_at w l (RwLock k a c) fits rules = λ here.
    let readers : has_readers (rules_in w k).sort ≡ true = fits.0.0 in
    let none : has_readers (rules_in w k).sort ≡ false = ap (λ n. has_readers (rules_in w n).sort) here
    ∙ ap (λ (r : Rules). has_readers r.sort) rules in cc
calls_mutex_at w l (Once k at) fits rules = λ here.
    let both : locks.Once ≡ locks.Mutex = sym fits ∙ ap (λ n. (rules_in w n).sort) here
    ∙ ap (λ (r : Rules). r.sort) rules in cc
calls_mutex_at w l (Semaphore k at) fits rules = λ here.
    let both : locks.Semaphore ≡ locks.Mutex = sym fits.0 ∙ ap (λ n. (rules_in w n).sort) here
    ∙ ap (λ (r : Rules). r.sort) rules in cc
calls_mutex_at w l (Condvar k at) fits rules = (
  λ here. let both : locks.Condvar ≡ locks.Mutex = sym fits.sort ∙ ap (λ n. (rules_in w n).sort) here
      ∙ ap (λ (r : Rules). r.sort) rules in cc,
  fits.reached,
)
calls_mutex_at w l (Mutex k at) fits rules = tt
calls_mutex_at w l Idle fits rules = tt

-- ---------------------------------------------------------------- in a call of one lock

module _ (l : ℕ) (at at2 : MutexPlace) (may : Type 0) (goes : Location → Location) (does : Role → Role)
    (held : Option Taken) where
  -- by its rows
  mutex_told : mutex_location at2 ≡ goes (mutex_location at) → (mutex_row at2).role ≡ does (mutex_row at).role
      → taken_from (mutex_row at2).hand (mutex_row at2).wants true ≡ held → IsTold l (Mutex l at)
      (Mutex l at2) may goes does held
  mutex_told s d h = record {
    location = rw (same l) s;
    role = rw (same l) d;
    taken = rw (same l) h;
    others = λ k ne. let other : (l == k) ≡ false = differ l k (λ e. ne (sym e)) in record {
      location = rw other refl;
      role = rw other refl;
      taken = rw other (taken_out (mutex_row at2).hand (mutex_row at2).wants
          ∙ sym (taken_out (mutex_row at).hand (mutex_row at).wants));
    };
    fits = λ m w h. h;
  }

-- ---------------------------------------------------------------- beside a condition variable

module _ (k l : ℕ) (apart : k ≢ l) where
  other : (k == l) ≡ false
  other = differ k l apart

  module _ (p : CondvarPlace) (of : mutex_beside p ≡ Some l) where
    pub location_beside : location_at (Condvar k p) l ≡ location_by (mutex_side p)
    location_beside = rw (other, of, same l) refl

    pub role_beside : role_on (Condvar k p) l ≡ (mutex_side p).role
    role_beside = rw (other, of, same l) refl

    taken_beside : taken_at (Condvar k p) l ≡ taken_from (mutex_side p).hand (mutex_side p).wants true
    taken_beside = rw (other, of, same l) refl

  -- at any lock but the mutex it has the parts of its row at the condition variable, or none
  module _ (p p2 : CondvarPlace) (of : mutex_beside p ≡ Some l) (of2 : mutex_beside p2 ≡ Some l)
      (stood : location_by (condvar_profile p2) ≡ location_by (condvar_profile p))
      (did : (condvar_profile p2).role ≡ (condvar_profile p).role) where
    condvar_same : (j : ℕ) → j ≢ l → Alike j (Condvar k p) (Condvar k p2)
    condvar_same j ne = either (k == j) refl
      where
        elsewhere : (l == j) ≡ false
        elsewhere = differ l j (λ e. ne (sym e))

        either : (b : Bool) → (k == j) ≡ b → Alike j (Condvar k p) (Condvar k p2)
        either true e = record {
          location = rw e stood;
          role = rw e did;
          taken = rw (e, of, of2, elsewhere) refl;
        }
        either false e = record {
          location = rw (e, of, of2, elsewhere) refl;
          role = rw (e, of, of2, elsewhere) refl;
          taken = rw (e, of, of2, elsewhere) refl;
        }

    -- by its rows
    condvar_told : (may : Type 0) (goes : Location → Location) (does : Role → Role) (held : Option Taken)
        → location_by (mutex_side p2) ≡ goes (location_by (mutex_side p)) → (mutex_side p2).role
        ≡ does (mutex_side p).role
        → taken_from (mutex_side p2).hand (mutex_side p2).wants true ≡ held
        → (may → IsReached p → IsReached p2)
        → IsTold l (Condvar k p) (Condvar k p2) may goes does held
    condvar_told may goes does held s d h reached = record {
      location = location_beside p2 of2 ∙ s ∙ ap goes (sym (location_beside p of));
      role = role_beside p2 of2 ∙ d ∙ ap does (sym (role_beside p of));
      taken = taken_beside p2 of2 ∙ h;
      others = condvar_same;
      fits = λ m w fits. record {
        sort = fits.sort;
        reached = reached m fits.reached;
        mutex = λ m is. fits.mutex m (of ∙ sym of2 ∙ is);
      };
    }

-- a wait locks its mutex again at its other places too
relocks : (e : Entry) (r r2 : Bool) (a a2 : LockAt) → IsLockOf a2 → IsRelock (Lock e r a)
    → IsRelock (Lock e r2 a2)
relocks entries.Lock r r2 a a2 may h = may
relocks e r r2 a a2 may h = absurd h

module _ (k l : ℕ) (apart : k ≢ l) (m : ℕ) (timed : Bool) (of : mutex_beside (Wait m timed wait.Enter)
    ≡ Some l) where
  abbrev wait_at : WaitAt → Place
  wait_at at = Condvar k (Wait m timed at)

  -- while it releases its mutex
  pub release_sleeps : (at : MutexPlace) → SleepsAt l (wait_at (wait.Release stands.Moved at))
  release_sleeps at = record {
    free = ap (λ (s : Location). s.hand)
        (location_beside k l apart (Wait m timed (wait.Release stands.Moved at)) of);
    untaken = taken_beside k l apart (Wait m timed (wait.Release stands.Moved at)) of;
    taken = λ t. condvar_told k l apart (Wait m timed (wait.Release stands.Moved at))
        (Wait m timed (wait.Release (stands.InHand t) at)) of of refl refl _ _ _ _ refl refl refl (λ y h. h);
  }

  release_claims : (at : MutexPlace) → IsUnlockPlace at
      → ((mutex_profile at).role.claims ≡ None) ⊎ ((mutex_profile at).role.claims ≡ Some (Has Exclusive))
  release_claims (Unlock unlock.Subtract) h = inr refl
  release_claims (Unlock at) h = inl refl
  release_claims at h = absurd h

  release_held : (t : ℕ) (at : MutexPlace) → IsUnlockPlace at
      → IsHeldThere l t (wait_at (wait.Release (stands.InHand t) at))
  release_held t at release = record {
    was = taken_beside k l apart (Wait m timed (wait.Release (stands.InHand t) at)) of;
    claims = elim (release_claims at release) [
      | inl none ↦ inl (own_claims ∙ none)
      | inr owns ↦ inr (own_claims ∙ owns)
    ];
    handed = λ alone. condvar_told k l apart (Wait m timed (wait.Release (stands.InHand t) at))
        (Wait m timed (wait.Release (stands.Handed t) at)) of of refl refl _ _ _ _ refl refl refl
        (λ y h. (h.0, λ f. sym own_claims ∙ y));
    woken = condvar_told k l apart (Wait m timed (wait.Release (stands.InHand t) at))
        (Wait m timed (wait.Release (stands.Noted note.Normal) at)) of of refl refl _ _ _ _ refl refl refl
        (λ y h. (h.0, λ f. absurd cc));
  }
    where
      own_claims : (role_on (wait_at (wait.Release (stands.InHand t) at)) l).claims
          ≡ (mutex_profile at).role.claims
      own_claims = ap (λ (d : Role). d.claims)
          (role_beside k l apart (Wait m timed (wait.Release (stands.InHand t) at)) of)

  release_given : (t : ℕ) (at : MutexPlace) → WasGivenThere l t (wait_at (wait.Release (stands.Handed t) at))
  release_given t at = record {
    was = taken_beside k l apart (Wait m timed (wait.Release (stands.Handed t) at)) of;
    told = condvar_told k l apart (Wait m timed (wait.Release (stands.Handed t) at))
        (Wait m timed (wait.Release (stands.Noted note.HandOff) at)) of of refl refl _ _ _ _ refl refl refl
        (λ y h. h);
  }

  -- after it
  asleep_sleeps : SleepsAt l (wait_at (wait.Asleep stands.Moved))
  asleep_sleeps = record {
    free = ap (λ (s : Location). s.hand) (location_beside k l apart (Wait m timed (wait.Asleep stands.Moved))
        of);
    untaken = taken_beside k l apart (Wait m timed (wait.Asleep stands.Moved)) of;
    taken = λ t. condvar_told k l apart (Wait m timed (wait.Asleep stands.Moved))
        (Wait m timed (wait.Asleep (stands.InHand t))) of of refl refl _ _ _ _ refl refl refl (λ y h. h);
  }

  asleep_held : (t : ℕ) → IsHeldThere l t (wait_at (wait.Asleep (stands.InHand t)))
  asleep_held t = record {
    was = taken_beside k l apart (Wait m timed (wait.Asleep (stands.InHand t))) of;
    claims = inl (ap (λ (d : Role). d.claims)
        (role_beside k l apart (Wait m timed (wait.Asleep (stands.InHand t))) of));
    handed = λ alone. condvar_told k l apart (Wait m timed (wait.Asleep (stands.InHand t)))
        (Wait m timed (wait.Asleep (stands.Handed t))) of of refl refl _ _ _ _ refl refl refl (λ y h. h);
    woken = condvar_told k l apart (Wait m timed (wait.Asleep (stands.InHand t)))
        (Wait m timed (wait.Lock false (Lock entries.Lock true lock.First))) of of refl refl _ _ _ _ refl refl
        refl (λ y h. (λ f. absurd cc, tt));
  }

  asleep_given : (t : ℕ) → WasGivenThere l t (wait_at (wait.Asleep (stands.Handed t)))
  asleep_given t = record {
    was = taken_beside k l apart (Wait m timed (wait.Asleep (stands.Handed t))) of;
    told = condvar_told k l apart (Wait m timed (wait.Asleep (stands.Handed t)))
        (Wait m timed (wait.Lock false (Lock entries.Lock false lock.Accept))) of of refl refl _ _ _ _ refl
        refl refl (λ y h. (λ f. absurd cc, tt));
  }

  -- while it locks its mutex again
  module _ (late : Bool) (e : Entry) (r : Bool) where
    abbrev lock_at : Bool → LockAt → WaitAt
    lock_at again at = wait.Lock late (Lock e again at)

    lock_sleeps : SleepsAt l (wait_at (lock_at r lock.Asleep))
    lock_sleeps = record {
      free = ap (λ (s : Location). s.hand) (location_beside k l apart (Wait m timed (lock_at r lock.Asleep))
          of);
      untaken = taken_beside k l apart (Wait m timed (lock_at r lock.Asleep)) of;
      taken = λ t. condvar_told k l apart (Wait m timed (lock_at r lock.Asleep))
          (Wait m timed (lock_at r (lock.Taken t))) of of refl refl _ _ _ _ refl refl refl
          (λ y h. (h.0, relocks e r r lock.Asleep (lock.Taken t) tt h.1));
    }

    lock_held : (t : ℕ) → IsHeldThere l t (wait_at (lock_at r (lock.Taken t)))
    lock_held t = record {
      was = taken_beside k l apart (Wait m timed (lock_at r (lock.Taken t))) of;
      claims = inl (ap (λ (d : Role). d.claims)
          (role_beside k l apart (Wait m timed (lock_at r (lock.Taken t))) of));
      handed = λ alone. condvar_told k l apart (Wait m timed (lock_at r (lock.Taken t)))
          (Wait m timed (lock_at false (lock.Handed t))) of of refl refl _ _ _ _ refl refl refl
          (λ y h. (h.0, relocks e r false (lock.Taken t) (lock.Handed t) tt h.1));
      woken = condvar_told k l apart (Wait m timed (lock_at r (lock.Taken t)))
          (Wait m timed (lock_at true lock.Load)) of of refl refl _ _ _ _ refl refl refl
          (λ y h. (h.0, relocks e r true (lock.Taken t) lock.Load tt h.1));
    }

    lock_given : (t : ℕ) → WasGivenThere l t (wait_at (lock_at r (lock.Handed t)))
    lock_given t = record {
      was = taken_beside k l apart (Wait m timed (lock_at r (lock.Handed t))) of;
      told = condvar_told k l apart (Wait m timed (lock_at r (lock.Handed t)))
          (Wait m timed (lock_at r lock.Accept)) of of refl refl _ _ _ _ refl refl refl
          (λ y h. (h.0, relocks e r r (lock.Handed t) lock.Accept tt h.1));
    }

-- ---------------------------------------------------------------- wherever it stands

-- a notification stands in no line, and is in nobody's hand
pub notifier_stands : (all : Bool) (m : ℕ) (at : NotifyAt)
    → ((notify_row all m at).moved ≡ false) × ((notify_row all m at).hand ≡ None)
notifier_stands all m notify.Enter = (refl, refl)
notifier_stands all m notify.Again = (refl, refl)
notifier_stands all m notify.Hide = (refl, refl)
notifier_stands all m notify.Mark = (refl, refl)
notifier_stands all m (notify.Set seen) = (refl, refl)
notifier_stands all m (notify.Move locked) = (refl, refl)
notifier_stands all m (notify.Clear any) = (refl, refl)
notifier_stands all m (notify.MarkMoved number) = (refl, refl)
notifier_stands all m (notify.Leave any number) = (refl, refl)

-- beside its condition variable a thread is at the mutex that it names, or nowhere
beside_or_out : (k l : ℕ) → k ≢ l → (p : CondvarPlace) → (location_at (Condvar k p) l ≡ nowhere)
    ⊎ (mutex_beside p ≡ Some l)
beside_or_out k l apart p = by_mutex (mutex_beside p) refl
  where
    by_mutex : (o : Option ℕ) → mutex_beside p ≡ o → (location_at (Condvar k p) l ≡ nowhere)
        ⊎ (mutex_beside p ≡ Some l)
    by_mutex None e = inl (rw (other k l apart, e) refl)
    by_mutex (Some m) e = elim (cases_eq m l) [
      | inl f ↦ inr (e ∙ ap Some f)
      | inr ne ↦ inl (rw (other k l apart, e, differ m l ne) refl)
    ]

module _ (k l : ℕ) (apart : k ≢ l) (m : ℕ) (timed : Bool) (of : mutex_beside (Wait m timed wait.Enter)
    ≡ Some l) where
  abbrev side : WaitAt → Location
  side at = location_by (mutex_side (Wait m timed at))

  -- a thread that stands in the line of the mutex is inside its section, or asleep there
  abbrev StandsOrSleeps : WaitAt → Type 0
  StandsOrSleeps at = ((side at).inside ≡ Some Main) ⊎ SleepsAt l (Condvar k (Wait m timed at))

  wait_stands : (at : WaitAt) → (side at).stands ≡ Some Main → StandsOrSleeps at
  wait_stands (wait.Release stands.Moved at) h = inr (release_sleeps k l apart m timed of at)
  wait_stands (wait.Release s at) h = absurd cc
  wait_stands (wait.Asleep stands.Moved) h = inr (asleep_sleeps k l apart m timed of)
  wait_stands (wait.Asleep s) h = absurd cc
  wait_stands wait.RemoveMoved h = inl refl
  wait_stands (wait.Lock late (Lock e r (lock.Leave true))) h = inl refl
  wait_stands (wait.Lock late (Lock e r lock.Asleep)) h = inr (lock_sleeps k l apart m timed of late e r)
  wait_stands (wait.Lock late (Lock e r lock.Remove)) h = inl refl
  wait_stands at h = absurd cc

  wait_held : (t : ℕ) (at : WaitAt) → IsReached (Wait m timed at) → (side at).hand ≡ hand t false
      → IsHeldThere l t (Condvar k (Wait m timed at))
  wait_held t (wait.Release (stands.InHand by) at) reached h = let who : by ≡ t = cc
      in rw who (release_held k l apart m timed of t at reached.0)
  wait_held t (wait.Release s at) reached h = absurd cc
  wait_held t (wait.Asleep (stands.InHand by)) reached h = let who : by ≡ t = cc
      in rw who (asleep_held k l apart m timed of t)
  wait_held t (wait.Asleep s) reached h = absurd cc
  wait_held t (wait.Lock late (Lock e r (lock.Taken by))) reached h = let who : by ≡ t = cc
      in rw who (lock_held k l apart m timed of late e r t)
  wait_held t at reached h = absurd cc

  wait_given : (t : ℕ) (at : WaitAt) → (side at).hand ≡ hand t true
      → WasGivenThere l t (Condvar k (Wait m timed at))
  wait_given t (wait.Release (stands.Handed by) at) h = let who : by ≡ t = cc
      in rw who (release_given k l apart m timed of t at)
  wait_given t (wait.Release s at) h = absurd cc
  wait_given t (wait.Asleep (stands.Handed by)) h = let who : by ≡ t = cc
      in rw who (asleep_given k l apart m timed of t)
  wait_given t (wait.Asleep s) h = absurd cc
  wait_given t (wait.Lock late (Lock e r (lock.Handed by))) h = let who : by ≡ t = cc
      in rw who (lock_given k l apart m timed of late e r t)
  wait_given t at h = absurd cc

-- at the mutex that it calls
module _ (l : ℕ) where
  mutex_stands : (at : MutexPlace) → (mutex_location at).stands ≡ Some Main
      → ((mutex_location at).inside ≡ Some Main) ⊎ SleepsAt l (Mutex l at)
  mutex_stands (Lock e r (lock.Leave true)) h = inl refl
  mutex_stands (Lock e r lock.Asleep) h = inr (record {
    free = ap (λ b. (if b then mutex_location (Lock e r lock.Asleep) else nowhere).hand) (same l);
    untaken = refl;
    taken = λ t. mutex_told l (Lock e r lock.Asleep) (Lock e r (lock.Taken t)) _ _ _ _ refl refl refl;
  })
  mutex_stands (Lock e r lock.Remove) h = inl refl
  mutex_stands at h = absurd cc

  mutex_held : (t : ℕ) (at : MutexPlace) → (mutex_location at).hand ≡ hand t false
      → IsHeldThere l t (Mutex l at)
  mutex_held t (Lock e r (lock.Taken by)) h = let who : by ≡ t = cc in rw who (record {
    was = rw (same l) refl;
    claims = inl (ap (λ b. (if b then (mutex_row (Lock e r (lock.Taken t))).role else idle).claims) (same l));
    handed = λ alone. mutex_told l (Lock e r (lock.Taken t)) (Lock e false (lock.Handed t)) _ _ _ _ refl refl
        refl;
    woken = mutex_told l (Lock e r (lock.Taken t)) (Lock e true lock.Load) _ _ _ _ refl refl refl;
  })
  mutex_held t at h = absurd cc

  mutex_given : (t : ℕ) (at : MutexPlace) → (mutex_location at).hand ≡ hand t true
      → WasGivenThere l t (Mutex l at)
  mutex_given t (Lock e r (lock.Handed by)) h = let who : by ≡ t = cc in rw who (record {
    was = refl;
    told = mutex_told l (Lock e r (lock.Handed t)) (Lock e r lock.Accept) _ _ _ _ refl refl refl;
  })
  mutex_given t at h = absurd cc

-- a place has at the mutex what its row there says
module _ (l : ℕ) (T : Place → Type 0) {A : Type 0} (g : Location → A) (x : A) (none : g nowhere ≡ x → ⊥)
    (mutexes : (at : MutexPlace) → g (mutex_location at) ≡ x → T (Mutex l at))
    (waits : (k : ℕ) → k ≢ l → (m : ℕ) (timed : Bool) (at : WaitAt) → IsReached (Wait m timed at)
    → mutex_beside (Wait m timed wait.Enter) ≡ Some l → g (location_by (mutex_side (Wait m timed at))) ≡ x
    → T (Condvar k (Wait m timed at)))
    (notifies : (k : ℕ) → k ≢ l → (all : Bool) (m : ℕ) (at : NotifyAt)
    → mutex_beside (Notify all m notify.Enter) ≡ Some l → g (location_by (mutex_side (Notify all m at)))
    ≡ x → T (Condvar k (Notify all m at))) where
  by_row : (p : Place) → CallsMutex l p → g (location_at p l) ≡ x → T p
  by_row Idle of h = absurd (none h)
  by_row (Mutex k at) of h = either (k == l) refl h
    where
      either : (b : Bool) → (k == l) ≡ b → g (if b then mutex_location at else nowhere) ≡ x → T (Mutex k at)
      either true e f = subst (λ j. T (Mutex j at)) (sym (eqb-true k l e)) (mutexes at f)
      either false e f = absurd (none f)
  by_row (RwLock k a at) of h =
      absurd (none (ap (λ b. g (if b then location (RwLock k a at) else nowhere)) (sym (differ k l of)) ∙ h))
  by_row (Once k at) of h = absurd (none (ap (λ b. g (if b then location (Once k at) else nowhere))
      (sym (differ k l of)) ∙ h))
  by_row (Semaphore k at) of h =
      absurd (none (ap (λ b. g (if b then location (Semaphore k at) else nowhere)) (sym (differ k l of)) ∙ h))
  by_row (Condvar k p) of h = elim (beside_or_out k l of.0 p) [
    | inl out ↦ absurd (none (ap g (sym out) ∙ h))
    | inr named ↦ by_call p of.1 named (ap g (sym (location_beside k l of.0 p named)) ∙ h)
  ]
    where
      by_call : (p : CondvarPlace) → IsReached p → mutex_beside p ≡ Some l → g (location_by (mutex_side p))
          ≡ x → T (Condvar k p)
      by_call (Wait m timed at) reached named f = waits k of.0 m timed at reached named f
      by_call (Look all) reached named f = absurd cc
      by_call (Notify all m at) reached named f = notifies k of.0 all m at named f

-- a thread that stands in the line of the mutex is inside its section, or sleeps there
pub stands_or_sleeps : (p : Place) (l : ℕ) → CallsMutex l p → (location_at p l).stands ≡ Some Main
    → ((location_at p l).inside ≡ Some Main) ⊎ SleepsAt l p
stands_or_sleeps p l = by_row l (λ q. ((location_at q l).inside ≡ Some Main) ⊎ SleepsAt l q)
    (λ (s : Location). s.stands) (Some Main) (λ h. cc)
    (λ at h. elim (mutex_stands l at h) [
      | inl within ↦ inl (ap (λ b. (if b then mutex_location at else nowhere).inside) (same l) ∙ within)
      | inr sleeps ↦ inr sleeps
    ])
    (λ k apart m timed at reached of h. elim (wait_stands k l apart m timed of at h) [
      | inl within ↦ inl (ap (λ (s : Location). s.inside) (location_beside k l apart (Wait m timed at) of)
          ∙ within)
      | inr sleeps ↦ inr sleeps
    ])
    (λ k apart all m at of h. absurd (let f : ◌≡◌ {A = Option Line} None (Some Main) =
    sym (ap (λ b. in_line b Main) (notifier_stands all m at).0) ∙ h in cc)) p

-- a thread that is in a hand there was taken or handed the mutex
pub held_there : (p : Place) (t l : ℕ) → CallsMutex l p → hand_at p l ≡ hand t false → IsHeldThere l t p
held_there p t l = by_row l (IsHeldThere l t) (λ (s : Location). s.hand) (hand t false) (λ h. cc)
    (mutex_held l t) (λ k apart m timed at reached of h. wait_held k l apart m timed of t at reached h)
    (λ k apart all m at of h. absurd (let f : ◌≡◌ {A = Option Hand} None (hand t false) =
    sym (notifier_stands all m at).1 ∙ h in cc)) p

pub given_there : (p : Place) (t l : ℕ) → CallsMutex l p → hand_at p l ≡ hand t true → WasGivenThere l t p
given_there p t l = by_row l (WasGivenThere l t) (λ (s : Location). s.hand) (hand t true) (λ h. cc)
    (mutex_given l t) (λ k apart m timed at reached of h. wait_given k l apart m timed of t at h)
    (λ k apart all m at of h. absurd (let f : ◌≡◌ {A = Option Hand} None (hand t true) =
    sym (notifier_stands all m at).1 ∙ h in cc)) p

-- each thread that is in a hand there wants to own alone
mutex_wanted : (at : MutexPlace) (t : ℕ) (b : Bool) → (mutex_location at).hand ≡ hand t b
    → (mutex_row at).wants ≡ Some Exclusive
mutex_wanted (Lock e r at) t b h = refl
mutex_wanted at t b h = absurd cc

wait_wanted : (m : ℕ) (timed : Bool) (at : WaitAt) (t : ℕ) (b : Bool) → (mutex_side (Wait m timed at)).hand
    ≡ hand t b
    → (mutex_side (Wait m timed at)).wants ≡ Some Exclusive
wait_wanted m timed (wait.Release stands.Listed at) t b h = absurd cc
wait_wanted m timed (wait.Release s at) t b h = refl
wait_wanted m timed (wait.Asleep stands.Listed) t b h = absurd cc
wait_wanted m timed (wait.Asleep s) t b h = refl
wait_wanted m timed (wait.Lock late (Lock e r at)) t b h = refl
wait_wanted m timed at t b h = absurd cc

pub side_wanted : (p : CondvarPlace) (t : ℕ) (b : Bool) → (mutex_side p).hand ≡ hand t b
    → (mutex_side p).wants ≡ Some Exclusive
side_wanted (Wait m timed at) t b h = wait_wanted m timed at t b h
side_wanted (Look all) t b h = absurd cc
side_wanted (Notify all m at) t b h = absurd (let f : ◌≡◌ {A = Option Hand} None (hand t b) =
    sym (notifier_stands all m at).1 ∙ h in cc)

pub held_wants : (p : Place) (t l : ℕ) (b : Bool) → CallsMutex l p → hand_at p l ≡ hand t b → wants p
    ≡ Some Exclusive
held_wants p t l b = by_row l (λ q. wants q ≡ Some Exclusive) (λ (s : Location). s.hand) (hand t b) (λ h. cc)
    (λ at h. mutex_wanted at t b h)
    (λ k apart m timed at reached of h. ap (λ x. or_else x (condvar_profile (Wait m timed at)).wants)
    (wait_wanted m timed at t b h))
    (λ k apart all m at of h. absurd (let f : ◌≡◌ {A = Option Hand} None (hand t b) =
    sym (notifier_stands all m at).1 ∙ h in cc)) p

-- each that t has in hand does so too, where it has nobody in hand elsewhere
pub held_alone : {one : ℕ → Type 0} (p : ℕ → Place) → ((u : ℕ) → IsApart (p u)) → Hands one p → (t l : ℕ)
    → CarriesAt l (p t)
    → ((u : ℕ) → CallsMutex l (p u)) → (u : ℕ) → WantsAlone t (p u)
held_alone p apart hands t l here mutexes u h = let x = in_hand_where (p u) t (apart u) h in
    held_wants (p u) t l x.handed (mutexes u) (subst (λ k. hand_at (p u) k ≡ hand t x.handed)
    (in_hand_here p hands t l u here x) x.hand)

-- each thread that is in the hand of t is so by the taker, at the lock where it has somebody in hand
pub holds_here : (w : State) (t l : ℕ) → IsInductive w → CarriesAt l (place_at w t) → HoldsHere w t l
holds_here w t l inductive here = record {
  held = λ u h. let k = in_hand_where (place_at w u) t (aparts w inductive u) h in record {
    lock = k.lock;
    handed = k.handed;
    hand = k.hand;
  };
  taker = λ u b h. held_tells (place_at w u) t l b h;
  nobody = here;
}
