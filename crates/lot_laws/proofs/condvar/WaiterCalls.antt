-- A waiter of a condition variable at its mutex goes on in its call as the event says: it is taken there,
-- woken, or handed the mutex.
use Rattle.lot_laws.proofs.Imports
use Imports.{ℕ, Bool, true, false, Option, Some, None, if◌then◌else◌, ◌==◌, ◌&&◌, not, ◌≡◌, ◌≢◌, ◌⊎◌, inl, inr}
use Imports.{refl, sym, ◌∙◌, ap, subst, eqb-true, Want, Exclusive, Woken, TakenBy, HandedBy, Hand, Of, hand}
use Imports.{in_line, taken_from, Condvar, is_lock, next_place, Lock, Unlock, CondvarPlace, Wait, Look, Notify}
use Imports.{WaitAt, mutex_beside, condvar_profile, condvar_row, mutex_side, waiters_are_told, Rights}
use Imports.{IsReached, after_wake, is_taken_by, one_more_at, call_state, taken_at, Has, Line, Main, idle}
use Imports.{role_on, nowhere, location, location_at, hand_at}
use Rattle.core_base.specs.declared.notes.Note.TheVariants as note
use Rattle.steps_mutex.specs.declared.lock.LockAt.TheVariants as lock
use Rattle.steps_condvar.specs.declared.wait.WaiterFate.TheVariants as stands
use Rattle.steps_condvar.specs.declared.wait.WaitAt.TheVariants as wait
use Rattle.steps_mutex.specs.declared.unlock.UnlockAt.TheVariants as unlock
use Rattle.lot_laws.specs.Locations.{location_by}
use Rattle.lot_laws.proofs.machine.Parts.{differ, same}
use Rattle.lot_laws.proofs.mutex.Waiters.{notifier_stands, side_wanted}

-- the thread by which one is taken that is in a hand, or in none
taken_hand : (t : ℕ) (h : Option Hand) (x : Option Want) → is_taken_by t (taken_from h x true) ≡ true
    → h ≡ hand t false
taken_hand t None x e = absurd cc
taken_hand t (Some (Of u true)) x e = absurd cc
taken_hand t (Some (Of u false)) None e = absurd cc
taken_hand t (Some (Of u false)) (Some x) e = ap (λ y. hand y false) (eqb-true u t e)

-- taken at a lock, it is so at the mutex that its wait names
record IsTakenBeside (at : CondvarPlace) (t l : ℕ) : Type 0 where
  pub timed : Bool
  pub place : WaitAt
  pub is : at ≡ Wait l timed place
  pub hand : (mutex_side (Wait l timed place)).hand ≡ hand t false

taken_beside : (k : ℕ) (at : CondvarPlace) (t l : ℕ) → is_taken_by t (taken_at (Condvar k at) l) ≡ true
    → IsTakenBeside at t l
taken_beside k (Look all) t l e = absurd cc
taken_beside k (Notify all m at) t l e = either (is_lock l (Some m) && not (k == l)) e
  where
    either : (b : Bool)
        → is_taken_by t
        (if b then taken_from (mutex_side (Notify all m at)).hand (mutex_side (Notify all m at)).wants true
        else None)
        ≡ true
        → IsTakenBeside (Notify all m at) t l
    either true f = absurd (let h : (mutex_side (Notify all m at)).hand ≡ hand t false =
        taken_hand t (mutex_side (Notify all m at)).hand (mutex_side (Notify all m at)).wants f
        in let g : ◌≡◌ {A = Option Hand} None (hand t false) = sym (notifier_stands all m at).1 ∙ h in cc)
    either false f = absurd cc
taken_beside k (Wait m timed at) t l e = either (m == l) (not (k == l)) refl e
  where
    either : (b c : Bool) → (m == l) ≡ b
        → is_taken_by t
        (if b && c then taken_from (mutex_side (Wait m timed at)).hand (mutex_side (Wait m timed at)).wants
        true else None)
        ≡ true
        → IsTakenBeside (Wait m timed at) t l
    either true true same_one f = let here : m ≡ l = eqb-true m l same_one in record {
      timed = timed;
      place = at;
      is = ap (λ j. Wait j timed at) here;
      hand = subst (λ j. (mutex_side (Wait j timed at)).hand ≡ hand t false) here
          (taken_hand t (mutex_side (Wait m timed at)).hand (mutex_side (Wait m timed at)).wants f);
    }
    either true false same_one f = absurd cc
    either false c same_one f = absurd cc

-- A waiter that is in a hand at the mutex is taken.
pub waiter_taken_by : (k : ℕ) (at : CondvarPlace) (t l : ℕ) → hand_at (Condvar k at) l ≡ hand t false
    → is_taken_by t (taken_at (Condvar k at) l) ≡ true
waiter_taken_by k at t l h = by_lock (k == l) (is_lock l (mutex_beside at)) h
  where
    by_lock : (c d : Bool)
        → (if c then location (Condvar k at) else if d then location_by (mutex_side at) else nowhere).hand
        ≡ hand t false
        → is_taken_by t (if d && not c then taken_from (mutex_side at).hand (mutex_side at).wants true
        else None) ≡ true
    by_lock true d g = absurd cc
    by_lock false true g = ap (is_taken_by t) (λ i. taken_from (g i) (side_wanted at t false g i) true)
        ∙ same t
    by_lock false false g = absurd cc

-- woken, it locks its mutex again
wait_woken : (k l t : ℕ) (timed : Bool) (at : WaitAt) → (mutex_side (Wait l timed at)).hand ≡ hand t false
    → (r : ℕ → Rights)
    → call_state (next_place (Condvar k (Wait l timed at)) (Woken note.Normal)) r
    ≡ record
    (call_state (Condvar k (Wait l timed at)) r) {
      retries = Some l;
      recalls =
          after_wake (call_state (Condvar k (Wait l timed at)) r).recalls;
    }
wait_woken k l t timed (wait.Release (stands.InHand by) at) h r = waiters_are_told k l timed
    (wait.Release (stands.InHand by) at) (Woken note.Normal) tt tt r
wait_woken k l t timed (wait.Release s at) h r = absurd cc
wait_woken k l t timed (wait.Asleep (stands.InHand by)) h r =
    waiters_are_told k l timed (wait.Asleep (stands.InHand by)) (Woken note.Normal) tt tt r
wait_woken k l t timed (wait.Asleep s) h r = absurd cc
wait_woken k l t timed (wait.Lock late (Lock e again (lock.Taken by))) h r =
    waiters_are_told k l timed (wait.Lock late (Lock e again (lock.Taken by))) (Woken note.Normal) tt tt r
wait_woken k l t timed at h r = absurd cc

pub waiter_woken : (k : ℕ) (at : CondvarPlace) (t l : ℕ) → is_taken_by t (taken_at (Condvar k at) l) ≡ true
    → (r : ℕ → Rights)
    → call_state (next_place (Condvar k at) (Woken note.Normal)) r
    ≡ record (call_state (Condvar k at) r) {
      retries = Some l;
      recalls =
          after_wake (call_state (Condvar k at) r).recalls;
    }
waiter_woken k at t l e r = let b = taken_beside k at t l e in
    subst (λ q. call_state (next_place (Condvar k q) (Woken note.Normal)) r
    ≡ record (call_state (Condvar k q) r) {
      retries = Some l;
      recalls =
          after_wake (call_state (Condvar k q) r).recalls;
    }) (sym b.is) (wait_woken k l t b.timed b.place
    b.hand r)

-- handed its mutex, once it has released that, it owns it
wait_handed : (k l t : ℕ) (alone timed : Bool) (at : WaitAt) → (mutex_side (Wait l timed at)).hand
    ≡ hand t false
    → (mutex_side (Wait l timed at)).role.claims ≡ None → (r : ℕ → Rights)
    → call_state (next_place (Condvar k (Wait l timed at)) (HandedBy t alone)) (one_more_at l Exclusive r)
    ≡ record
    (call_state (Condvar k (Wait l timed at)) r) {
      retries = None;
      recalls =
          after_wake (call_state (Condvar k (Wait l timed at)) r).recalls;
    }
wait_handed k l t alone timed (wait.Release (stands.InHand by) at) h free r =
    waiters_are_told k l timed (wait.Release (stands.InHand by) at) (HandedBy t alone) tt free r
wait_handed k l t alone timed (wait.Release s at) h free r = absurd cc
wait_handed k l t alone timed (wait.Asleep (stands.InHand by)) h free r = waiters_are_told k l timed
    (wait.Asleep (stands.InHand by)) (HandedBy t alone) tt free r
wait_handed k l t alone timed (wait.Asleep s) h free r = absurd cc
wait_handed k l t alone timed (wait.Lock late (Lock e again (lock.Taken by))) h free r =
    waiters_are_told k l timed (wait.Lock late (Lock e again (lock.Taken by))) (HandedBy t alone) tt free r
wait_handed k l t alone timed at h free r = absurd cc

-- the thread claims nothing where it has released its mutex, or owns that
wait_claims : (l t : ℕ) (timed : Bool) (at : WaitAt) → IsReached (Wait l timed at)
    → (mutex_side (Wait l timed at)).hand ≡ hand t false
    → ((mutex_side (Wait l timed at)).role.claims ≡ None)
    ⊎ ((mutex_side (Wait l timed at)).role.claims ≡ Some (Has Exclusive))
wait_claims l t timed (wait.Release (stands.InHand by) (Unlock unlock.Subtract)) reached h = inr refl
wait_claims l t timed (wait.Release (stands.InHand by) (Unlock at)) reached h = inl refl
wait_claims l t timed (wait.Release (stands.InHand by) at) reached h = absurd reached.0
wait_claims l t timed (wait.Release s at) reached h = absurd cc
wait_claims l t timed (wait.Asleep (stands.InHand by)) reached h = inl refl
wait_claims l t timed (wait.Asleep s) reached h = absurd cc
wait_claims l t timed (wait.Lock late (Lock e again (lock.Taken by))) reached h = inl refl
wait_claims l t timed at reached h = absurd cc

pub waiter_claims : (k : ℕ) (at : CondvarPlace) (t l : ℕ) → IsReached at
    → is_taken_by t (taken_at (Condvar k at) l) ≡ true
    → ((mutex_side at).role.claims ≡ None) ⊎ ((mutex_side at).role.claims ≡ Some (Has Exclusive))
waiter_claims k at t l reached e = let b = taken_beside k at t l e in
    subst (λ q. ((mutex_side q).role.claims ≡ None) ⊎ ((mutex_side q).role.claims ≡ Some (Has Exclusive)))
    (sym b.is) (wait_claims l t b.timed b.place (subst IsReached b.is reached) b.hand)

-- A taken waiter does at the mutex what its place says.
pub waiter_does : (k : ℕ) (at : CondvarPlace) (t l : ℕ) → is_taken_by t (taken_at (Condvar k at) l) ≡ true
    → role_on (Condvar k at) l ≡ (mutex_side at).role
waiter_does k at t l e = by_lock (k == l) (is_lock l (mutex_beside at)) e
  where
    by_lock : (c d : Bool)
        → is_taken_by t (if d && not c then taken_from (mutex_side at).hand (mutex_side at).wants true
        else None) ≡ true
        → (if c then (condvar_profile at).role else if d then (mutex_side at).role else idle)
        ≡ (mutex_side at).role
    by_lock false true f = refl
    by_lock true true f = absurd cc
    by_lock c false f = absurd cc

pub waiter_handed : (k : ℕ) (at : CondvarPlace) (t l : ℕ) (alone : Bool)
    → is_taken_by t (taken_at (Condvar k at) l) ≡ true
    → (mutex_side at).role.claims ≡ None → (r : ℕ → Rights)
    → call_state (next_place (Condvar k at) (HandedBy t alone)) (one_more_at l Exclusive r)
    ≡ record (call_state (Condvar k at) r) {
      retries = None;
      recalls =
          after_wake (call_state (Condvar k at) r).recalls;
    }
waiter_handed k at t l alone e free r = let b = taken_beside k at t l e in
    subst (λ q. call_state (next_place (Condvar k q) (HandedBy t alone)) (one_more_at l Exclusive r)
    ≡ record (call_state (Condvar k q) r) {
      retries = None;
      recalls =
          after_wake (call_state (Condvar k q) r).recalls;
    }) (sym b.is)
    (wait_handed k l t alone b.timed b.place b.hand (ap (λ q. (mutex_side q).role.claims) (sym b.is) ∙ free)
    r)

-- told that it was, its call is as it was
wait_told : (k l t : ℕ) (timed : Bool) (at : WaitAt) → (mutex_side (Wait l timed at)).hand ≡ hand t true
    → (r : ℕ → Rights)
    → call_state (next_place (Condvar k (Wait l timed at)) (Woken note.HandOff)) r ≡ call_state
    (Condvar k (Wait l timed at)) r
wait_told k l t timed (wait.Release (stands.Handed by) at) h r =
    waiters_are_told k l timed (wait.Release (stands.Handed by) at) (Woken note.HandOff) tt tt r
wait_told k l t timed (wait.Release s at) h r = absurd cc
wait_told k l t timed (wait.Asleep (stands.Handed by)) h r =
    waiters_are_told k l timed (wait.Asleep (stands.Handed by)) (Woken note.HandOff) tt tt r
wait_told k l t timed (wait.Asleep s) h r = absurd cc
wait_told k l t timed (wait.Lock late (Lock e again (lock.Handed by))) h r =
    waiters_are_told k l timed (wait.Lock late (Lock e again (lock.Handed by))) (Woken note.HandOff) tt tt r
wait_told k l t timed at h r = absurd cc

pub waiter_told : (k : ℕ) (at : CondvarPlace) (t l : ℕ) → hand_at (Condvar k at) l ≡ hand t true
    → (r : ℕ → Rights)
    → call_state (next_place (Condvar k at) (Woken note.HandOff)) r ≡ call_state (Condvar k at) r
waiter_told k at t l h r = by_call at (by_lock (k == l) (is_lock l (mutex_beside at)) h)
  where
    by_lock : (c d : Bool)
        → (if c then location (Condvar k at) else if d then location_by (mutex_side at) else nowhere).hand
        ≡ hand t true
        → (mutex_side at).hand ≡ hand t true
    by_lock true d g = absurd cc
    by_lock false true g = g
    by_lock false false g = absurd cc

    by_call : (q : CondvarPlace) → (mutex_side q).hand ≡ hand t true
        → call_state (next_place (Condvar k q) (Woken note.HandOff)) r ≡ call_state (Condvar k q) r
    by_call (Wait m timed at) g = wait_told k m t timed at g r
    by_call (Look all) g = absurd cc
    by_call (Notify all m at) g = absurd (let f : ◌≡◌ {A = Option Hand} None (hand t true) =
        sym (notifier_stands all m at).1 ∙ g in cc)

-- taken of the line of its mutex, it recalls that it was moved there
wait_taken : (k l u : ℕ) (timed : Bool) (at : WaitAt) → (mutex_side (Wait l timed at)).stands ≡ Some Main
    → (r : ℕ → Rights)
    → call_state (next_place (Condvar k (Wait l timed at)) (TakenBy u)) r ≡ call_state
    (Condvar k (Wait l timed at)) r
wait_taken k l u timed (wait.Release stands.Moved at) h r =
    waiters_are_told k l timed (wait.Release stands.Moved at) (TakenBy u) tt tt r
wait_taken k l u timed (wait.Release s at) h r = absurd cc
wait_taken k l u timed (wait.Asleep stands.Moved) h r = waiters_are_told k l timed (wait.Asleep stands.Moved)
    (TakenBy u) tt tt r
wait_taken k l u timed (wait.Asleep s) h r = absurd cc
wait_taken k l u timed wait.RemoveMoved h r = refl
wait_taken k l u timed (wait.Lock late (Lock e again (lock.Leave true))) h r = refl
wait_taken k l u timed (wait.Lock late (Lock e again lock.Asleep)) h r = waiters_are_told k l timed
    (wait.Lock late (Lock e again lock.Asleep)) (TakenBy u) tt tt r
wait_taken k l u timed (wait.Lock late (Lock e again lock.Remove)) h r = refl
wait_taken k l u timed at h r = absurd cc

stands_main : (b : Bool) (m : Line) → in_line b Main ≡ Some m → in_line b Main ≡ Some Main
stands_main true m h = refl
stands_main false m h = absurd cc

pub waiter_taken : (k : ℕ) (at : CondvarPlace) (u l : ℕ) (m : Line) → k ≢ l
    → (location_at (Condvar k at) l).stands ≡ Some m
    → (r : ℕ → Rights) → call_state (next_place (Condvar k at) (TakenBy u)) r ≡ call_state (Condvar k at) r
waiter_taken k at u l m apart h r =
    by_call at (by_lock (is_lock l (mutex_beside at))
    (ap (λ c. (if c then location (Condvar k at) else if is_lock l (mutex_beside at) then location_by
    (mutex_side at) else nowhere).stands) (sym (differ k l apart)) ∙ h))
  where
    by_lock : (d : Bool) → (if d then location_by (mutex_side at) else nowhere).stands ≡ Some m
        → (mutex_side at).stands ≡ Some Main
    by_lock true g = stands_main (condvar_row at).moved m g
    by_lock false g = absurd cc

    by_call : (q : CondvarPlace) → (mutex_side q).stands ≡ Some Main
        → call_state (next_place (Condvar k q) (TakenBy u)) r ≡ call_state (Condvar k q) r
    by_call (Wait m timed at) g = wait_taken k m u timed at g r
    by_call (Look all) g = absurd cc
    by_call (Notify all m at) g = absurd (let f : ◌≡◌ {A = Option Line} None (Some Main) =
        sym (ap (λ b. in_line b Main) (notifier_stands all m at).0) ∙ g in cc)
