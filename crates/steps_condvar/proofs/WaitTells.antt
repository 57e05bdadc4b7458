-- Each step of a wait makes of its call what its rows say, and its answer is true.
use Rattle.std.proofs.Common.{ℕ, Bool, true, false, Option, Some, None, if◌then◌else◌, ◌==◌, ◌≡◌, inl, inr}
use Rattle.std.proofs.Common.{List, [], ◌∷◌, refl, sym, ap, ◌∙◌, subst}
use Rattle.std.specs.Prelude.{is_none, not, ◌||◌}
use Rattle.core_base.specs.declared.notes.Note.TheVariants as note
use Rattle.core_base.specs.declared.wants.Want.TheVariants.{Exclusive, Wait as WaitHere}
use Rattle.spec_locks.specs.declared.outcomes.Answer.TheVariants as answer
use Rattle.steps_base.specs.declared.acts.Next.{Next}
use Rattle.steps_base.specs.declared.acts.Next.TheVariants.{At, End as Over}
use Rattle.steps_base.specs.declared.acts.Reply.{Reply}
use Rattle.steps_base.specs.declared.acts.Reply.TheVariants.{Done, Value, Parked, Took, Removed, TakenBy}
use Rattle.steps_base.specs.declared.acts.Reply.TheVariants.{MovedTo, HandedBy, Late, Woken}
use Rattle.steps_base.specs.Calls.{rights_where}
use Rattle.steps_base.specs.Profiles.{in_hand}
use Rattle.spec_locks.specs.Condvars.{CondvarSite, Inside, IsAsInside, IsCondvar, SeesOther, SeeOther, Show}
use Rattle.spec_locks.specs.Condvars as condvars
use Rattle.spec_locks.specs.Deeds.{after_all, event_by, event_of}
use Rattle.spec_locks.specs.Locks as cases
use Rattle.spec_locks.specs.Locks.{Enter, Leave, LockState, Mutex, OfCondvar, Park, Rights, Rules, TakeFirst}
use Rattle.spec_locks.specs.Locks.{Wake, rights_of, with_owner, with_right, without_owner}
use Rattle.spec_locks.specs.Purposes.{Blank, WasNotified, Waits}
use Rattle.spec_locks.specs.Runs.{AnswerHolds, AtLock, CallState, Event, IsNotified, Keeps, LocksState}
use Rattle.spec_locks.specs.Runs.{Nothing, ShowsOther, going_on, one_more_at}
use Rattle.spec_locks.specs.Sites.{Case, Deed, End, IsSite, Main, Mark, Out, Site}
use Rattle.spec_locks.proofs.Rights.{agree, changed, entered_alone, left, unchanged}
use Rattle.steps_mutex.specs.declared.lock.Entry.{Entry}
use Rattle.steps_mutex.specs.declared.lock.LockAt.{LockAt}
use Rattle.steps_mutex.specs.declared.lock.LockAt.TheVariants as lock
use Rattle.steps_mutex.specs.declared.places.MutexPlace.{MutexPlace}
use Rattle.steps_mutex.specs.declared.places.MutexPlace.TheVariants as mutex
use Rattle.steps_mutex.specs.declared.unlock.UnlockAt.{UnlockAt}
use Rattle.steps_mutex.specs.declared.unlock.UnlockAt.TheVariants as unlock
use Rattle.steps_mutex.specs.MutexDeeds.{enter_deeds, queued, take_deeds}
use Rattle.steps_mutex.specs.MutexProfiles.{before_release, mutex_profile}
use Rattle.steps_mutex.specs.MutexSteps.{entered, in_lock, in_unlock, is_locked, is_parked}
use Rattle.steps_condvar.specs.declared.places.CondvarPlace.{CondvarPlace}
use Rattle.steps_condvar.specs.declared.places.CondvarPlace.TheVariants.{Wait}
use Rattle.steps_condvar.specs.declared.wait.WaiterFate.{WaiterFate}
use Rattle.steps_condvar.specs.declared.wait.WaiterFate.TheVariants as stands
use Rattle.steps_condvar.specs.declared.wait.WaitAt.{WaitAt}
use Rattle.steps_condvar.specs.declared.wait.WaitAt.TheVariants as wait
use Rattle.steps_condvar.specs.CondvarSteps.{past_release, condvar_next, in_wait, is_shown, released}
use Rattle.steps_condvar.specs.CondvarSteps.{relocked, waited}
use Rattle.steps_condvar.specs.CondvarProfiles.{condvar_profile, has_mutex, wait_row}
use Rattle.steps_condvar.specs.CondvarDeeds.{IsAt, condvar_deeds, relocked_deeds}
use Rattle.steps_condvar.specs.CondvarDeeds as deeds
use Rattle.steps_condvar.specs.CondvarWaits.{MayHearLocking, MayHearReleasing, MayHearWaiter, waiter_deeds}
use Rattle.steps_condvar.specs.CondvarWaits as waits
use Rattle.steps_condvar.specs.CondvarCalls.{CallOfTwoFollows, IsReached, MayComeOfTwo, WaitersAreTold}
use Rattle.steps_condvar.specs.CondvarCalls.{WaitsTell, condvar_call_by, case_at_condvar, heard, or_else}
use Rattle.steps_condvar.specs.CondvarCalls.{wait_event}
use Rattle.steps_mutex.proofs.MutexWords.{unlocked_free, zero_free}
use Rattle.steps_condvar.proofs.WaiterFit.{owns}

-- a thread's rights at the mutex, seen anew
module _ (t m : ℕ) (s s2 : LockState) (rights : ℕ → Rights) (is : rights m ≡ rights_of s t) where
  pub same_rights : rights_of s2 t ≡ rights_of s t → rights_where m s2 t rights ≡ rights
  same_rights stay = λ i k. agree rights m (rights_where m s2 t rights) rights _ _ (λ k. refl)
      (unchanged rights m (rights_of s t) is) stay k i

  -- the thread gave its right up
  pub lost : with_right Exclusive (rights_of s2 t) ≡ rights_of s t → one_more_at m Exclusive
      (rights_where m s2 t rights) ≡ rights
  lost e = λ i k. agree rights m (one_more_at m Exclusive (rights_where m s2 t rights)) rights _ _
      (changed rights m (with_right Exclusive) (rights_where m s2 t rights) _ (λ k. refl))
      (unchanged rights m (rights_of s t) is) e k i

  -- A wait that has its mutex again has got it.
  pub gained : rights_of s2 t ≡ with_right Exclusive (rights_of s t) → (k : ℕ) → rights_where m s2 t rights k
      ≡ one_more_at m Exclusive rights k
  gained e = agree rights m (rights_where m s2 t rights) _ _ _ (λ k. refl)
      (changed rights m (with_right Exclusive) rights _ (unchanged rights m (rights_of s t) is)) e

-- the call goes on, and its rights stay
pub keeps : (c m t : ℕ) (p p2 : CondvarPlace) (told : Reply) (event : Event) (shown : Option ℕ)
    (s s2 : LockState) → MayComeOfTwo c (condvar_profile p) event → rights_of s2 t ≡ rights_of s t
    → ((rights : ℕ → Rights) → condvar_call_by c m p2 rights ≡ going_on event
    (heard told (condvar_call_by c m p rights))) → CallOfTwoFollows c m p told event shown s s2 t (At p2)
keeps c m t p p2 told event shown s s2 may stay same = record {
  may = may;
  becomes = λ rights is. ap (condvar_call_by c m p2) (same_rights t m s s2 rights is stay) ∙ same rights;
}

module _ (v : CondvarSite) (limit : ℕ) (s : Site) (t c m : ℕ) (timed : Bool) (site : IsCondvar v)
    (h : IsSite (record { sort = Mutex; limit = limit }) s) where
  abbrev r : Rules
  r = record { sort = Mutex; limit = limit }

  abbrev place : WaitAt → CondvarPlace
  place at = Wait m timed at

  -- a step with these deeds at the mutex, and this event
  abbrev Tells : WaitAt → Reply → Event → Option ℕ → List Deed → Next CondvarPlace → Type 0
  Tells at told event shown ds n = CallOfTwoFollows c m (place at) told event shown s.lock
      (after_all r ds s t).lock t n

  -- ---------------------------------------------------------------- the release

  module _ (st : WaiterFate) where
    abbrev releasing : UnlockAt → CondvarPlace
    releasing at = place (wait.Release st (mutex.Unlock at))

    -- the thread has released the mutex
    gives_way : (p2 : CondvarPlace) (seen : ℕ) (shown : Option ℕ) → s.lock.exclusive ≡ Some t
        → ((rights2 rights : ℕ → Rights) → condvar_call_by c m p2 rights2 ≡ record
        (condvar_call_by c m (releasing unlock.Subtract) rights) {
          released = true;
          former =
              one_more_at m Exclusive rights2;
        })
        → ((rights : ℕ → Rights) → (condvar_call_by c m (releasing unlock.Subtract) rights).former ≡ rights)
        → CallOfTwoFollows c m (releasing unlock.Subtract) (Value seen) (AtLock m (Leave Exclusive)) shown
        s.lock (without_owner t Exclusive s.lock) t (At p2)
    gives_way p2 seen shown own same former = record {
      may = (inr (refl, inl (refl, refl)), tt);
      becomes = λ rights is.
          same (rights_where m (without_owner t Exclusive s.lock) t rights) rights
          ∙ ap (λ (f : ℕ → Rights). record (condvar_call_by c m (releasing unlock.Subtract) rights)
          { released = true; former = f }) (lost t m s.lock (without_owner t Exclusive s.lock) rights is
          (left s.lock t Exclusive own) ∙ sym (former rights));
    }

  subtracts : (st : WaiterFate) (seen : ℕ) (shown : Option ℕ) → s.lock.exclusive ≡ Some t → has_mutex st
      ≡ false
      → (b : Bool)
      → CallOfTwoFollows c m (releasing st unlock.Subtract) (Value seen) (AtLock m (Leave Exclusive)) shown
      s.lock (without_owner t Exclusive s.lock) t
      (At (place (released st (in_unlock (if b then At unlock.Enter else Over answer.Ok)))))
  subtracts stands.Listed seen shown own without true = gives_way stands.Listed _ seen shown own
      (λ rights2 rights. refl) (λ rights. refl)
  subtracts stands.Listed seen shown own without false = gives_way stands.Listed _ seen shown own
      (λ rights2 rights. refl) (λ rights. refl)
  subtracts stands.Moved seen shown own without true = gives_way stands.Moved _ seen shown own
      (λ rights2 rights. refl) (λ rights. refl)
  subtracts stands.Moved seen shown own without false = gives_way stands.Moved _ seen shown own
      (λ rights2 rights. refl) (λ rights. refl)
  subtracts (stands.InHand by) seen shown own without true = gives_way (stands.InHand by) _ seen shown own
      (λ rights2 rights. refl) (λ rights. refl)
  subtracts (stands.InHand by) seen shown own without false = gives_way (stands.InHand by) _ seen shown own
      (λ rights2 rights. refl) (λ rights. refl)
  subtracts (stands.Noted note.Normal) seen shown own without true = gives_way (stands.Noted note.Normal) _
      seen shown own (λ rights2 rights. refl) (λ rights. refl)
  subtracts (stands.Noted note.Normal) seen shown own without false = gives_way (stands.Noted note.Normal) _
      seen shown own (λ rights2 rights. refl) (λ rights. refl)
  subtracts (stands.Handed by) seen shown own without b = absurd cc
  subtracts (stands.Noted note.HandOff) seen shown own without b = absurd cc

  -- the thread leaves its section, and wakes the threads that it has taken, if anybody
  wakes : (st : WaiterFate) (any : Bool) (shown : Option ℕ) (s2 : LockState) → rights_of s2 t
      ≡ rights_of s.lock t
      → CallOfTwoFollows c m (releasing st (unlock.Leave any)) Done
      (or_else (event_of m (in_hand any false) (Out ∷ [])) Nothing) shown s.lock s2 t
      (At (place (past_release st)))
  wakes stands.Listed true shown s2 stay = keeps c m t _ _ Done (AtLock m Wake) shown s.lock s2
      (inr (refl, inl (inl refl)), tt) stay (λ rights. refl)
  wakes stands.Listed false shown s2 stay = keeps c m t _ _ Done Nothing shown s.lock s2 tt stay
      (λ rights. refl)
  wakes stands.Moved true shown s2 stay = keeps c m t _ _ Done (AtLock m Wake) shown s.lock s2
      (inr (refl, inl (inl refl)), tt) stay (λ rights. refl)
  wakes stands.Moved false shown s2 stay = keeps c m t _ _ Done Nothing shown s.lock s2 tt stay
      (λ rights. refl)
  wakes (stands.InHand by) true shown s2 stay = keeps c m t _ _ Done (AtLock m Wake) shown s.lock s2
      (inr (refl, inl (inl refl)), tt) stay (λ rights. refl)
  wakes (stands.InHand by) false shown s2 stay = keeps c m t _ _ Done Nothing shown s.lock s2 tt stay
      (λ rights. refl)
  wakes (stands.Handed by) true shown s2 stay = keeps c m t _ _ Done (AtLock m Wake) shown s.lock s2
      (inr (refl, inl (inl refl)), tt) stay (λ rights. refl)
  wakes (stands.Handed by) false shown s2 stay = keeps c m t _ _ Done Nothing shown s.lock s2 tt stay
      (λ rights. refl)
  wakes (stands.Noted note.Normal) true shown s2 stay = keeps c m t _ _ Done (AtLock m Wake) shown s.lock s2
      (inr (refl, inl (inl refl)), tt) stay (λ rights. refl)
  wakes (stands.Noted note.Normal) false shown s2 stay = keeps c m t _ _ Done Nothing shown s.lock s2 tt stay
      (λ rights. refl)
  wakes (stands.Noted note.HandOff) true shown s2 stay = keeps c m t _ _ Done (AtLock m Wake) shown s.lock s2
      (inr (refl, inl (inl refl)), tt) stay (λ rights. refl)
  wakes (stands.Noted note.HandOff) false shown s2 stay = keeps c m t _ _ Done Nothing shown s.lock s2 tt stay
      (λ rights. refl)

  took : (st : WaiterFate) (whom : Option ℕ) (any none_left : Bool) (shown : Option ℕ)
      → CallOfTwoFollows c m (releasing st unlock.Take) (Took any none_left)
      (or_else (event_of m None (waits.unended (take_deeds whom))) Nothing) shown s.lock
      (after_all r (waits.unended (take_deeds whom)) s t).lock t
      (At (place (released st (in_unlock (if none_left then At (unlock.Clear any)
      else At (unlock.Leave any))))))
  took st None any true shown = keeps c m t _ _ (Took any true) Nothing shown s.lock _ tt refl
      (λ rights. refl)
  took st None any false shown = keeps c m t _ _ (Took any false) Nothing shown s.lock _ tt refl
      (λ rights. refl)
  took st (Some u) any true shown = keeps c m t _ _ (Took any true) (AtLock m (TakeFirst (queued u))) shown
      s.lock _ (inr (refl, inl tt), tt) refl (λ rights. refl)
  took st (Some u) any false shown = keeps c m t _ _ (Took any false) (AtLock m (TakeFirst (queued u))) shown
      s.lock _ (inr (refl, inl tt), tt) refl (λ rights. refl)

  abbrev Follows : WaitAt → Option ℕ → Reply → Type 0
  Follows at whom told =
      CallOfTwoFollows c m (place at) told (wait_event c m at whom told) (deeds.after_condvar_deeds
      (condvar_deeds (place at) told) v t).shown s.lock (after_all r (waiter_deeds at whom told) s t).lock
      t (condvar_next (place at) told)

  releases : (st : WaiterFate) (at : UnlockAt) (whom : Option ℕ) (told : Reply)
      → s.role t ≡ (wait_row m (wait.Release st (mutex.Unlock at))).role → MayHearReleasing r s t st at whom
      told → Follows (wait.Release st (mutex.Unlock at)) whom told
  releases st unlock.Subtract whom (Value seen) is f = by_bit (is_parked seen)
    where
      by_bit : (b : Bool)
          → CallOfTwoFollows c m (releasing st unlock.Subtract) (Value seen) (AtLock m (Leave Exclusive))
          v.shown s.lock (after_all r (waits.unended (Case (Leave Exclusive)
          ∷ (if b then [] else End ∷ []))) s t).lock t
          (At (place (released st (in_unlock (if b then At unlock.Enter else Over answer.Ok)))))
      by_bit true = subtracts st seen v.shown (owns limit s t m h st is) f.1 true
      by_bit false = subtracts st seen v.shown (owns limit s t m h st is) f.1 false
  releases st unlock.Enter whom Done is f = keeps c m t _ _ Done Nothing v.shown s.lock _ tt refl
      (λ rights. refl)
  releases st unlock.Take whom (Took any none_left) is f = took st whom any none_left v.shown
  releases st (unlock.Clear any) whom (Value seen) is f = keeps c m t _ _ (Value seen) Nothing v.shown s.lock
      _ tt refl (λ rights. refl)
  releases st (unlock.Leave any) whom Done is f = wakes st any v.shown _ refl
  releases st at whom told is f = absurd f

  -- ---------------------------------------------------------------- the lock after it

  module _ (e : Entry) (retries timed_out : Bool) (late : timed_out ≡ true → timed ≡ true) where
    abbrev locking : LockAt → CondvarPlace
    locking at = place (wait.Lock timed_out (mutex.Lock e retries at))

    -- the thread has the mutex again
    answers : (w : LocksState) (call : CallState) → call.recalls ≡ (if timed_out then Blank else WasNotified)
        → call.gave_up ≡ (if timed_out then Some c else None) → call.released ≡ true → Keeps w t call
        → AnswerHolds (Some (Waits c m timed)) w t call (waited timed timed_out)
    answers w call recalls gave released own = by timed timed_out late recalls gave
      where
        by : (timed timed_out : Bool) → (timed_out ≡ true → timed ≡ true) → call.recalls
            ≡ (if timed_out then Blank else WasNotified) → call.gave_up ≡ (if timed_out then Some c else None)
            → AnswerHolds (Some (Waits c m timed)) w t call (waited timed timed_out)
        by false true late a b = absurd (let g : false ≡ true = late refl in cc)
        by false false late a b = (subst IsNotified (sym a) tt, (released, own))
        by true false late a b = (subst IsNotified (sym a) tt, (released, own))
        by true true late a b = (b, (λ n. subst IsNotified a n), (released, own))

    comes_in : (at : LockAt) (seen : ℕ) (shown : Option ℕ) → s.lock.exclusive ≡ None
        → ((rights : ℕ → Rights) → (condvar_call_by c m (locking at) rights).former ≡ one_more_at m Exclusive
        rights)
        → CallOfTwoFollows c m (locking at) (Value seen) (AtLock m (Enter Exclusive)) shown s.lock
        (with_owner t Exclusive s.lock) t (Over (waited timed timed_out))
    comes_in at seen shown free former = record {
      may = (inr (refl, inr (refl, refl)), tt);
      becomes = λ w rights now is has. answers w (going_on (AtLock m (Enter Exclusive))
          (condvar_call_by c m (locking at) rights)) refl refl refl
          (λ k. has k ∙ gained t m s.lock (with_owner t Exclusive s.lock) rights is
          (entered_alone s.lock t free) k ∙ ap (λ (f : ℕ → Rights). f k) (sym (former rights)));
    }

    abbrev goes : List Deed → Next LockAt → Event
    goes ds n = or_else (event_of m None ds) (event_by c (case_at_condvar (relocked_deeds (in_lock e retries n))))

    abbrev Locks : LockAt → Reply → List Deed → Next LockAt → Type 0
    Locks at told ds n =
        CallOfTwoFollows c m (locking at) told (goes ds n)
        (deeds.after_condvar_deeds (relocked_deeds (in_lock e retries n)) v t).shown s.lock
        (after_all r ds s t).lock t (in_wait m timed (relocked timed timed_out (in_lock e retries n)))

    tries : (seen : ℕ) (b : Bool) → (b ≡ true → s.lock.exclusive ≡ None) → Locks lock.First (Value seen)
        (if b then enter_deeds else []) (if b then Over (entered e) else At lock.Load)
    tries seen true free = comes_in lock.First seen v.shown (free refl) (λ rights. refl)
    tries seen false free = keeps c m t _ _ (Value seen) Nothing v.shown s.lock _ tt refl (λ rights. refl)

    decides : (expected seen : ℕ) (same locked : Bool) → (locked ≡ false → s.lock.exclusive ≡ None)
        → Locks (lock.Decide expected) (Value seen) (if not same then [] else if locked then Mark Main ∷ []
        else enter_deeds) (if not same then At (lock.Decide seen) else if locked then At (lock.Decide 3)
        else Over (entered e))
    decides expected seen false locked free = keeps c m t _ _ (Value seen) Nothing v.shown s.lock _ tt refl
        (λ rights. refl)
    decides expected seen true true free = keeps c m t _ _ (Value seen) Nothing v.shown s.lock _ tt refl
        (λ rights. refl)
    decides expected seen true false free = comes_in (lock.Decide expected) seen v.shown (free refl)
        (λ rights. refl)

  parks : (e : Entry) (retries timed_out b : Bool)
      → Follows (wait.Lock timed_out (mutex.Lock e retries lock.Check)) None (Parked b)
  parks e true timed_out true = keeps c m t _ _ (Parked true) (AtLock m (Park Exclusive)) v.shown s.lock _
      (inr (refl, inr (refl, (refl, λ h. cc))), tt) refl (λ rights. refl)
  parks e false timed_out true = keeps c m t _ _ (Parked true) (AtLock m (Park Exclusive)) v.shown s.lock _
      (inr (refl, inr (refl, (refl, λ h. cc))), tt) refl (λ rights. refl)
  parks e true timed_out false = keeps c m t _ _ (Parked false) Nothing v.shown s.lock _ tt refl
      (λ rights. refl)
  parks e false timed_out false = keeps c m t _ _ (Parked false) Nothing v.shown s.lock _ tt refl
      (λ rights. refl)

  leaves : (e : Entry) (retries timed_out parked : Bool)
      → Follows (wait.Lock timed_out (mutex.Lock e retries (lock.Leave parked))) None Done
  leaves e retries timed_out true = keeps c m t _ _ Done Nothing v.shown s.lock _ tt refl (λ rights. refl)
  leaves e retries timed_out false = keeps c m t _ _ Done Nothing v.shown s.lock _ tt refl (λ rights. refl)

  locks : (e : Entry) (retries timed_out : Bool) → (timed_out ≡ true → timed ≡ true)
      → (at : LockAt) (whom : Option ℕ) (told : Reply) → MayHearLocking r s t at told
      → Follows (wait.Lock timed_out (mutex.Lock e retries at)) whom told
  locks e retries timed_out late lock.First whom (Value seen) f = tries e retries timed_out late seen
      (seen == 0) (λ z. zero_free s.parked s.lock.exclusive (ap (λ n. n == 0) (sym f) ∙ z))
  locks e retries timed_out late lock.Load whom (Value seen) f = keeps c m t _ _ (Value seen) Nothing v.shown
      s.lock _ tt refl (λ rights. refl)
  locks e retries timed_out late (lock.Decide expected) whom (Value seen) f =
      decides e retries timed_out late expected seen (seen == expected) (is_locked seen)
      (λ z. unlocked_free s.parked s.lock.exclusive (ap is_locked (sym f) ∙ z))
  locks e retries timed_out late (lock.Decide expected) whom Done f = keeps c m t _ _ Done Nothing v.shown
      s.lock _ tt refl (λ rights. refl)
  locks e retries timed_out late lock.Check whom (Parked b) f = parks e retries timed_out b
  locks e retries timed_out late (lock.Leave parked) whom Done f = leaves e retries timed_out parked
  locks e retries timed_out late lock.Accept whom Done f = record {
    may = tt;
    becomes = λ w rights now is has. answers e retries timed_out late w (condvar_call_by c m
        (place (wait.Lock timed_out (mutex.Lock e retries lock.Accept))) rights) refl refl refl (λ k. has k
        ∙ ap (λ (f : ℕ → Rights). f k) (same_rights t m s.lock s.lock rights is refl));
  }
  locks e retries timed_out late at whom told f = absurd f

  -- ---------------------------------------------------------------- each place

  shows : (seen : ℕ) (b : Bool)
      → CallOfTwoFollows c m (place wait.Show) (Value seen)
      (event_by c (case_at_condvar (if b then Show m ∷ [] else SeeOther m ∷ [])))
      (deeds.after_condvar_deeds (if b then Show m ∷ [] else SeeOther m ∷ []) v t).shown s.lock s.lock t
      (in_wait m timed (if b then At wait.Stand else At wait.Refuse))
  shows seen true = keeps c m t _ _ (Value seen) (AtLock c (OfCondvar (cases.Show m))) (Some m) s.lock _
      (inl (refl, (refl, refl)), tt) refl (λ rights. refl)
  shows seen false = keeps c m t _ _ (Value seen) Nothing v.shown s.lock _ tt refl (λ rights. refl)

  unlisted : (b : Bool) → timed ≡ true
      → CallOfTwoFollows c m (place wait.Remove) (Removed b) (AtLock c cases.Late) v.shown s.lock s.lock t
      (in_wait m timed (if b then At wait.Hide else At wait.GiveUp))
  unlisted true late = keeps c m t _ _ (Removed true) (AtLock c cases.Late) v.shown s.lock _
      (inl (refl, (late, refl)), refl) refl (λ rights. refl)
  unlisted false late = keeps c m t _ _ (Removed false) (AtLock c cases.Late) v.shown s.lock _
      (inl (refl, (late, refl)), refl) refl (λ rights. refl)

  refused : IsAt v t (place wait.Refuse) → (w : LocksState) (call : CallState) → (w.locks c).shown ≡ v.shown
      → call.released ≡ false → Keeps w t call → AnswerHolds (Some (Waits c m timed)) w t call
      answer.TwoMutexes
  refused a w call now released own = by timed
    where
      known : condvars.StageHolds v t (SeesOther m)
      known = subst (λ (i : Option Inside). IsAsInside v i) a.stage site.inside

      other : ShowsOther (w.locks c) m
      other = ((λ e. known.1 (sym now ∙ e)), λ e. known.2 (sym now ∙ e))

      by : (timed : Bool) → AnswerHolds (Some (Waits c m timed)) w t call answer.TwoMutexes
      by true = (released, other, own)
      by false = (released, other, own)

  tells : (at : WaitAt) (whom : Option ℕ) (told : Reply) → IsAt v t (place at)
      → s.role t ≡ (wait_row m at).role → MayHearWaiter r s t at whom told → IsReached (place at)
      → Follows at whom told
  tells wait.Enter whom Done a is f reached = keeps c m t _ _ Done Nothing v.shown s.lock _ tt refl
      (λ rights. refl)
  tells wait.Show whom (Value seen) a is f reached = shows seen ((seen == 0) || is_shown seen m)
  tells wait.Stand whom Done a is f reached = keeps c m t _ _ Done (AtLock c (Park WaitHere)) v.shown s.lock _
      (inl (refl, (refl, refl)), tt) refl (λ rights. refl)
  tells wait.Leave whom Done a is f reached = keeps c m t _ _ Done Nothing v.shown s.lock _ tt refl
      (λ rights. refl)
  tells wait.Refuse whom Done a is f reached = record {
    may = tt;
    becomes = λ w rights now is has. refused a w (condvar_call_by c m (place wait.Refuse) rights) now refl
        (λ k. has k ∙ ap (λ (f : ℕ → Rights). f k) (same_rights t m s.lock s.lock rights is refl));
  }
  tells (wait.Release st (mutex.Unlock at)) whom told a is f reached = releases st at whom told is f
  tells (wait.Asleep stands.Listed) whom Late a is f reached = keeps c m t _ _ Late Nothing v.shown s.lock _
      tt refl (λ rights. refl)
  tells (wait.Asleep stands.Moved) whom Late a is f reached = keeps c m t _ _ Late Nothing v.shown s.lock _ tt
      refl (λ rights. refl)
  tells wait.Remove whom (Removed none_left) a is f reached = unlisted none_left reached
  tells wait.Hide whom (Value seen) a is f reached = keeps c m t _ _ (Value seen)
      (AtLock c (OfCondvar cases.Hide)) None s.lock _ (inl (refl, λ e. cc), tt) refl (λ rights. refl)
  tells wait.GiveUp whom Done a is f reached = keeps c m t _ _ Done Nothing v.shown s.lock _ tt refl
      (λ rights. refl)
  tells wait.RemoveMoved whom (Removed none_left) a is f reached = keeps c m t _ _ (Removed none_left)
      (AtLock m cases.Late) v.shown s.lock _ (inr (refl, (reached, refl)), refl) refl (λ rights. refl)
  tells (wait.GiveUpMoved none_left) whom Done a is f reached = keeps c m t _ _ Done Nothing v.shown s.lock _
      tt refl (λ rights. refl)
  tells (wait.Lock timed_out (mutex.Lock e retries at)) whom told a is f reached =
      locks e retries timed_out reached.0 at whom told f
  tells at whom told a is f reached = absurd f

pub waits_tell : WaitsTell
waits_tell v r s t c m timed at whom told sort site a h is hears f reached =
    subst (λ x. IsSite x s → MayHearWaiter x s t at whom told → CallOfTwoFollows c m (Wait m timed at) told
    (wait_event c m at whom told) (deeds.after_condvar_deeds (condvar_deeds (Wait m timed at) told) v
    t).shown s.lock (after_all x (waiter_deeds at whom told) s t).lock t
    (condvar_next (Wait m timed at) told))
    (λ i. record {
      sort = sym sort i;
      limit = r.limit;
    }) (λ h f. tells v r.limit s t c m timed site h at whom told a is f reached) h f

-- ---------------------------------------------------------------- effects on it

handed_release : (c m : ℕ) (timed : Bool) (by u : ℕ) (alone : Bool) (at : MutexPlace) (rights : ℕ → Rights)
    → (mutex_profile at).role.claims ≡ None
    → condvar_call_by c m (Wait m timed (wait.Release (stands.Handed u) at)) (one_more_at m Exclusive rights)
    ≡ record (condvar_call_by c m (Wait m timed (wait.Release (stands.InHand by) at)) rights) {
      retries =
          None;
      recalls = WasNotified;
    }
handed_release c m timed by u alone at rights e =
    ap (λ o. record (condvar_call_by c m (Wait m timed (wait.Release (stands.Handed u) at)) rights) {
      former =
          before_release m (is_none o) rights;
    }) (sym e)

pub waiters_are_told : WaitersAreTold
waiters_are_told c m timed (wait.Release stands.Listed at) (TakenBy u) may free = λ rights. refl
waiters_are_told c m timed (wait.Release stands.Listed at) (MovedTo key) may free = λ rights. refl
waiters_are_told c m timed (wait.Release stands.Moved at) (TakenBy u) may free = λ rights. refl
waiters_are_told c m timed (wait.Release (stands.InHand by) at) (HandedBy u alone) may free =
    λ rights. handed_release c m timed by u alone at rights free
waiters_are_told c m timed (wait.Release (stands.InHand by) at) (Woken note.Normal) may free = λ rights. refl
waiters_are_told c m timed (wait.Release (stands.Handed by) at) (Woken note.HandOff) may free = λ rights. refl
waiters_are_told c m timed (wait.Asleep stands.Listed) (TakenBy u) may free = λ rights. refl
waiters_are_told c m timed (wait.Asleep stands.Listed) (MovedTo key) may free = λ rights. refl
waiters_are_told c m timed (wait.Asleep stands.Moved) (TakenBy u) may free = λ rights. refl
waiters_are_told c m timed (wait.Asleep (stands.InHand by)) (HandedBy u alone) may free = λ rights. refl
waiters_are_told c m timed (wait.Asleep (stands.InHand by)) (Woken note.Normal) may free = λ rights. refl
waiters_are_told c m timed (wait.Asleep (stands.Handed by)) (Woken note.HandOff) may free = λ rights. refl
waiters_are_told c m timed (wait.Lock timed_out (mutex.Lock e retries lock.Asleep)) (TakenBy u) may free =
    λ rights. refl
waiters_are_told c m timed (wait.Lock true (mutex.Lock e retries (lock.Taken by))) (HandedBy u alone) may
    free = λ rights. refl
waiters_are_told c m timed (wait.Lock false (mutex.Lock e retries (lock.Taken by))) (HandedBy u alone) may
    free = λ rights. refl
waiters_are_told c m timed (wait.Lock true (mutex.Lock e retries (lock.Taken by))) (Woken note.Normal) may
    free = λ rights. refl
waiters_are_told c m timed (wait.Lock false (mutex.Lock e retries (lock.Taken by))) (Woken note.Normal) may
    free = λ rights. refl
waiters_are_told c m timed (wait.Lock timed_out (mutex.Lock e retries (lock.Handed by))) (Woken note.HandOff)
    may free = λ rights. refl
waiters_are_told c m timed at told may free = absurd may
