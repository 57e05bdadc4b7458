-- A step of a wait is one event of its condition variable or of its mutex, and its call goes on by it.
use Rattle.lot_laws.proofs.Imports
use Imports.{ℕ, Bool, true, false, Option, Some, None, if◌then◌else◌, ◌==◌, ◌||◌, ◌≡◌, ◌≢◌, ◌⊎◌, ◌*◌, ◌+◌, List}
use Imports.{[], ◌∷◌, not, inl, inr, refl, sym, ◌∙◌, ap, subst, cases_eq, One, outcome_of, Act, Next, Reply}
use Imports.{Done, Value, Parked, MutexPlace, LockAt, enter_deeds, take_deeds, is_locked, is_parked, lock_act}
use Imports.{mutex_next, Wait, WaitAt, BecomesOfTwo, CallOfTwoFollows, IsLockOf, IsReached, case_at_condvar, heard}
use Imports.{wait_event, condvar_deeds, relocked_deeds, wait_deeds, waits_tell, wait_carries, condvar_next}
use Imports.{in_wait, is_shown, next_wait, wait_act, unended, waiter_deeds, CondvarDeed, IsCondvar, SeeOther}
use Imports.{Show, AreOneCase, KeepLock, after_all, case_of, event_by, HasTakenNobody, LockCase, LockState}
use Imports.{Rights, Rules, rights_of, CallState, Event, GoesOn, MayHappen, Moves, going_on, woken, End, Main}
use Imports.{Mark, Site, State, can_do, place_at, reply_to, word_at, rights_where, Location, Condvar}
use Imports.{condvar_does, condvar_goes, acts, call_at, call_state, lock_state, locks_of, FollowAll}
use Imports.{IsInductive, condvar_of, rules_in, site_of}
use Rattle.core_base.specs.declared.ops.Op.TheVariants as op
use Rattle.steps_base.specs.declared.acts.Act.TheVariants as act
use Rattle.steps_base.specs.declared.acts.Next.TheVariants as next
use Rattle.steps_base.specs.declared.acts.TakeWhich.TheVariants as whoms
use Rattle.steps_mutex.specs.declared.places.MutexPlace.TheVariants as mutex
use Rattle.steps_mutex.specs.declared.lock.Entry.TheVariants as entry
use Rattle.steps_mutex.specs.declared.lock.LockAt.TheVariants as lock
use Rattle.steps_mutex.specs.declared.unlock.UnlockAt.TheVariants as unlock
use Rattle.steps_condvar.specs.declared.wait.WaitAt.TheVariants as wait
use Rattle.steps_condvar.specs.CondvarCalls as calls
use Rattle.steps_condvar.specs.CondvarCalls.{or_else}
use Rattle.steps_condvar.specs.CondvarDeeds as condvar
use Rattle.lot_laws.specs.ThreadDeeds as deeds
use Rattle.lot_laws.proofs.machine.AtPlaces.{in_no_hand, taken_nobody}
use Rattle.lot_laws.proofs.calls.CallEvents.{GoesAs, IsEvent, OthersFollow, deeds_by, put_is, rights}
use Rattle.lot_laws.proofs.condvar.StepEvents.{call_named, call_then, NamesStill, ToldSo, begins_two}
use Rattle.lot_laws.proofs.condvar.StepEvents.{call_led, condvar_goes_on, locks_led, may_go, no_closure}
use Rattle.lot_laws.proofs.condvar.StepEvents.{others, wait_happens}
use Rattle.lot_laws.proofs.condvar.Replies.{apart, at_it, role_beside, fits_here, may_hear, rules_beside}
use Rattle.lot_laws.proofs.condvar.Replies.{location_beside, taken_by_wait, waiter_hears}
use Rattle.lot_laws.proofs.machine.Parts.{same}
use Rattle.lot_laws.proofs.condvar.MutexUntouched.{there_deeds}

-- -------------------------------------------------- the effect is on one of the two locks, and never on both

-- a thread is never told of its own step that its time is up
pub unheard : (w : State) (t : ℕ) (a : Act) (c : CallState) → heard (reply_to w t a) c ≡ c
unheard w t (act.Take key whoms.First) c = refl
unheard w t (act.Take key (whoms.Picked start recursive)) c = refl
unheard w t (act.Take key whoms.All) c = refl
unheard w t act.Rest c = refl
unheard w t a c = refl

names_wait : (m : ℕ) (timed : Bool) (n : Next WaitAt) → NamesStill m (in_wait m timed n)
names_wait m timed (next.At at) = refl
names_wait m timed (next.End answer) = tt

-- the deeds of a step of a wait, at its condition variable and at its mutex
pub record OneAtATime (m : ℕ) (p : WaitAt) (whom : Option ℕ) (told : Reply) : Type 0 where
  pub there : AreOneCase (there_deeds (wait_deeds m p told))
  pub beside : AreOneCase (waiter_deeds p whom told)
  pub alone : (case_of (wait_carries p) (waiter_deeds p whom told) ≡ None)
      ⊎ (case_at_condvar (wait_deeds m p told) ≡ None)

module _ (w : State) (t l m : ℕ) where
  relocked_one : (n : Next MutexPlace) → AreOneCase (there_deeds (relocked_deeds n))
      × (case_at_condvar (relocked_deeds n) ≡ None)
  relocked_one (next.At q) = (tt, refl)
  relocked_one (next.End answer) = (tt, refl)

  shows : (b : Bool) → AreOneCase (there_deeds (if b then Show m ∷ [] else SeeOther m ∷ []))
  shows true = tt
  shows false = tt

  entered : (b : Bool) → AreOneCase (if b then enter_deeds else [])
  entered true = tt
  entered false = tt

  taken : (o : Option ℕ) → AreOneCase (unended (take_deeds o))
  taken None = tt
  taken (Some u) = tt

  left_word : (b : Bool) → KeepLock (unended (if b then [] else End ∷ []))
  left_word true = tt
  left_word false = tt

  word_seen : (a b : Bool) → AreOneCase (if not a then [] else if b then Mark Main ∷ [] else enter_deeds)
  word_seen false b = tt
  word_seen true true = tt
  word_seen true false = tt

  module _ (late again : Bool) where
    locks_one : (a : LockAt) (told : Reply)
        → AreOneCase (waiter_deeds (wait.Lock late (mutex.Lock entry.Lock again a)) None told)
        → OneAtATime m (wait.Lock late (mutex.Lock entry.Lock again a)) None told
    locks_one a told one = record {
      there = (relocked_one (mutex_next (mutex.Lock entry.Lock again a) told)).0;
      beside = one;
      alone = inr (relocked_one (mutex_next (mutex.Lock entry.Lock again a) told)).1;
    }

    decides_one : (seen : ℕ) (a b : Bool)
        → OneAtATime m (wait.Lock late (mutex.Lock entry.Lock again (lock.Decide seen))) None
        (reply_to w t (if not a then act.Word m (op.Exchange seen (seen + 1)) else if b
        then act.Word m (op.Exchange 1 3) else act.Enter (One (2 * m))))
    decides_one seen false b = locks_one (lock.Decide seen) (Value (word_at w m))
        (word_seen (word_at w m == seen) (is_locked (word_at w m)))
    decides_one seen true true = locks_one (lock.Decide seen) (Value (word_at w m))
        (word_seen (word_at w m == seen) (is_locked (word_at w m)))
    decides_one seen true false = locks_one (lock.Decide seen) Done tt

    lock_one : (a : LockAt) → IsLockOf a → can_do w (lock_act m a) ≡ true
        → OneAtATime m (wait.Lock late (mutex.Lock entry.Lock again a)) None (reply_to w t (lock_act m a))
    lock_one lock.First of can = locks_one lock.First (Value (word_at w m)) (entered (word_at w m == 0))
    lock_one lock.Load of can = locks_one lock.Load (Value (word_at w m)) tt
    lock_one (lock.Decide seen) of can = decides_one seen (is_locked seen) (seen == 1)
    lock_one lock.Check of can = parks (word_at w m == 3)
      where
        parks : (b : Bool) → OneAtATime m (wait.Lock late (mutex.Lock entry.Lock again lock.Check)) None
            (Parked b)
        parks true = locks_one lock.Check (Parked true) tt
        parks false = locks_one lock.Check (Parked false) tt
    lock_one (lock.Leave parked) of can = locks_one (lock.Leave parked) Done tt
    lock_one lock.Asleep of can = absurd cc
    lock_one (lock.Taken by) of can = absurd cc
    lock_one (lock.Handed by) of can = absurd cc
    lock_one lock.Accept of can = locks_one lock.Accept Done tt
    lock_one a of can = absurd of

  pub wait_one : (timed : Bool) (p : WaitAt) → IsReached (Wait m timed p) → can_do w (wait_act l m p) ≡ true
      → OneAtATime m p (taken_by_wait w m p) (reply_to w t (wait_act l m p))
  wait_one timed wait.Enter reached can = record { there = tt; beside = tt; alone = inl refl }
  wait_one timed wait.Show reached can = record {
    there = shows ((word_at w l == 0) || is_shown (word_at w l) m);
    beside = tt;
    alone = inl refl;
  }
  wait_one timed wait.Stand reached can = record { there = tt; beside = tt; alone = inl refl }
  wait_one timed wait.Leave reached can = record { there = tt; beside = tt; alone = inl refl }
  wait_one timed wait.Refuse reached can = record { there = tt; beside = tt; alone = inl refl }
  wait_one timed (wait.Release s (mutex.Unlock unlock.Subtract)) reached can = record {
    there = tt;
    beside = left_word (is_parked (word_at w m));
    alone = inr refl;
  }
  wait_one timed (wait.Release s (mutex.Unlock unlock.Enter)) reached can = record {
    there = tt;
    beside = tt;
    alone = inr refl;
  }
  wait_one timed (wait.Release s (mutex.Unlock unlock.Take)) reached can = record {
    there = tt;
    beside = taken (taken_by_wait w m (wait.Release s (mutex.Unlock unlock.Take)));
    alone = inr refl;
  }
  wait_one timed (wait.Release s (mutex.Unlock (unlock.Clear any))) reached can = record {
    there = tt;
    beside = tt;
    alone = inr refl;
  }
  wait_one timed (wait.Release s (mutex.Unlock (unlock.Leave any))) reached can = record {
    there = tt;
    beside = tt;
    alone = inr refl;
  }
  wait_one timed (wait.Release s p) reached can = absurd reached.0
  wait_one timed (wait.Asleep s) reached can = absurd cc
  wait_one timed wait.Remove reached can = record { there = tt; beside = tt; alone = inl refl }
  wait_one timed wait.Hide reached can = record { there = tt; beside = tt; alone = inl refl }
  wait_one timed wait.GiveUp reached can = record { there = tt; beside = tt; alone = inl refl }
  wait_one timed wait.RemoveMoved reached can = record { there = tt; beside = tt; alone = inr refl }
  wait_one timed (wait.GiveUpMoved none_left) reached can = record {
    there = tt;
    beside = tt;
    alone = inr refl;
  }
  wait_one timed (wait.Lock late (mutex.Lock entry.Lock again a)) reached can =
      lock_one late again a reached.1 can
  wait_one timed (wait.Lock late p) reached can = absurd reached.1

-- ---------------------------------------------------------------- the step

-- the deed of a wait at the condition variable changes nobody's rights
pub there_rights : (ds : List CondvarDeed) (r : Rules) (s : Site) (t : ℕ)
    → rights_of (after_all r (there_deeds ds) s t).lock t ≡ rights_of s.lock t
there_rights [] r s t = refl
there_rights (Show m ∷ ds) r s t = refl
there_rights (d ∷ ds) r s t = refl

never_moves : (m l : ℕ) (x y : Option LockCase) (c k n : ℕ) (all owned : Bool)
    → or_else (event_by m x) (event_by l y) ≡ Moves c k all owned n → ⊥
never_moves m l None None c k n all owned e = cc
never_moves m l None (Some b) c k n all owned e = cc
never_moves m l (Some a) y c k n all owned e = cc

module _ (w v : State) (t l m : ℕ) (timed : Bool) (p : WaitAt) (inductive : IsInductive w)
    (after : IsInductive v)
    (condvar_holds : IsCondvar (condvar_of w l)) (is : place_at w t ≡ Condvar l (Wait m timed p))
    (can : can_do w (wait_act l m p) ≡ true)
    (all : ℕ → List deeds.Act) (f : FollowAll w v all) (elsewhere : (k : ℕ) → k ≢ l → k ≢ m → all k ≡ [])
    (at_l : all l ≡ acts t (there_deeds (wait_deeds m p (reply_to w t (wait_act l m p)))))
    (at_m : all m ≡ acts t (waiter_deeds p (taken_by_wait w m p) (reply_to w t (wait_act l m p)))) where
  abbrev told : Reply
  told = reply_to w t (wait_act l m p)

  abbrev whom : Option ℕ
  whom = taken_by_wait w m p

  abbrev event : Event
  event = wait_event l m p whom told

  reached : IsReached (Wait m timed p)
  reached = (fits_here w t l (Wait m timed p) inductive is).reached

  one : OneAtATime m p whom told
  one = wait_one w t l m timed p reached can

  apart_m : m ≢ l
  apart_m = apart w t l (Wait m timed p) inductive is m refl

  -- the thread has nobody in hand but by its place
  nobody_there : HasTakenNobody (lock_state w l) t
  nobody_there = taken_nobody w inductive t l (rw (is, same l) refl)

  nobody_beside : wait_carries p ≢ Some false → HasTakenNobody (lock_state w m) t
  nobody_beside none = in_no_hand w inductive t m
      (λ h. none (sym (ap (λ (y : Location). y.has_taken) (location_beside w t l (Wait m timed p) inductive is m
      refl)) ∙ h))

  pub wait_happened : IsEvent w v t event
  wait_happened = wait_happens w v t l m apart_m inductive after all f elsewhere p whom told at_l at_m
      one.there
      one.beside nobody_there nobody_beside one.alone

  -- the mutex of the wait after the step
  abbrev afterwards : LockState
  afterwards = (after_all (rules_in w m) (waiter_deeds p whom told) (site_of w m) t).lock

  led_beside : lock_state v m ≡ afterwards
  led_beside = locks_led w v t l m apart_m inductive after all f elsewhere m
      (acts t (waiter_deeds p whom told))
      at_m ∙ deeds_by (rules_in w m) t (waiter_deeds p whom told) (site_of w m)

  led_there : lock_state v l ≡ (after_all (rules_in w l) (there_deeds (wait_deeds m p told)) (site_of w l)
      t).lock
  led_there = locks_led w v t l m apart_m inductive after all f elsewhere l
      (acts t (there_deeds (wait_deeds m p told))) at_l ∙ deeds_by (rules_in w l) t
      (there_deeds (wait_deeds m p told)) (site_of w l)

  rights_led : (k : ℕ) → rights v t k ≡ rights_where m afterwards t (rights w t) k
  rights_led k = put_is (rights w t) m (rights_of afterwards t) k (rights v t k)
      (λ e. rw e (ap (λ s. rights_of s t) led_beside)) (λ nm. elim (cases_eq k l) [
        | inl e ↦ rw e (ap (λ s. rights_of s t) led_there ∙ there_rights (wait_deeds m p told) (rules_in w l)
            (site_of w l) t)
        | inr nl ↦ ap (λ s. rights_of s t) (others w v t l m apart_m inductive after all f elsewhere k nl nm)
      ])

  -- which mutex its deeds leave shown
  abbrev shown_then : Option ℕ
  shown_then = (condvar.after_condvar_deeds (condvar_deeds (Wait m timed p) told) (condvar_of w l) t).shown

  follows : CallOfTwoFollows l m (Wait m timed p) told event shown_then (lock_state w m) afterwards t
      (condvar_next (Wait m timed p) told)
  follows = waits_tell (condvar_of w l) (rules_in w m) (site_of w m) t l m timed p whom told
      (rules_beside w t l (Wait m timed p) inductive is m refl) condvar_holds
      (at_it w t l (Wait m timed p) inductive is) (inductive.sites.site m)
      (role_beside w t l (Wait m timed p) inductive is m refl) (may_hear w t l (Wait m timed p) inductive is
      can)
      (waiter_hears w t l m timed p inductive is can) reached

  -- the call of the thread
  abbrev pub call : CallState
  call = calls.condvar_call_by l m (Wait m timed p) (rights w t)

  call_is : call_at w t ≡ call
  call_is = call_named w t l m (Wait m timed p) is refl

  may : MayHappen (locks_of w) t event
  may = may_go w v t l m (Wait m timed p) call_is told event wait_happened shown_then afterwards follows.may
      (λ c k every owned n e. absurd (never_moves m l _ _ c k n every owned e))

  -- the step goes on by that event, where it stands then as its reply says, isn't woken by itself, and the
  -- others' calls follow
  pub wait_goes : place_at v t ≡ condvar_goes l (condvar_next (Wait m timed p) told)
      → woken (locks_of w) t event t (going_on event call) ≡ going_on event call → (lock_state v l).shown
      ≡ shown_then
      → ToldSo v t (condvar_next (Wait m timed p) told)
      (outcome_of (condvar_does l (condvar_next (Wait m timed p) told)))
      → OthersFollow w v t event
      → GoesOn (locks_of w) t (outcome_of (condvar_does l (condvar_next (Wait m timed p) told))) (locks_of v)
  wait_goes there unwoken shown rests others_follow = condvar_goes_on w v t l m (Wait m timed p) call_is told
      event wait_happened shown_then afterwards (condvar_next (Wait m timed p) told) _ may
      (call_led w v t l m (Wait m timed p) call_is told event wait_happened shown_then afterwards
      (condvar_next (Wait m timed p) told) _ (unheard w t (wait_act l m p) _) unwoken
      follows.becomes there (names_wait m timed (next_wait m timed p told)) shown rights_led rests)
      others_follow (begins_two (locks_of w) l (Wait m timed p) event _ follows.may
      (no_closure l (condvar_next (Wait m timed p) told)))

  -- A wait that its own act has befallen goes on with what that makes of the call which its reply says.
  pub wait_goes_told : (q q2 : WaitAt) → condvar_next (Wait m timed p) told ≡ next.At (Wait m timed q)
      → place_at v t ≡ Condvar l (Wait m timed q2) → (makes : CallState → CallState)
      → ((r : ℕ → Rights) → calls.condvar_call_by l m (Wait m timed q2) r ≡ makes
      (calls.condvar_call_by l m (Wait m timed q) r))
      → woken (locks_of w) t event t (going_on event call) ≡ makes (going_on event call)
      → (k : ℕ) × GoesAs v t k (outcome_of (wait_act l m q2)) → OthersFollow w v t event
      → GoesOn (locks_of w) t (outcome_of (wait_act l m q2)) (locks_of v)
  wait_goes_told q q2 says there makes made woken_so goes_as others_follow =
      condvar_goes_on w v t l m (Wait m timed p) call_is told event wait_happened shown_then afterwards
      (next.At (Wait m timed q2)) _ may
      (inl (
        call_now ∙ made (rights v t)
            ∙ ap makes (ap (calls.condvar_call_by l m (Wait m timed q)) (λ i k. rights_led k i)
            ∙ becomes (rights w t) refl ∙ ap (going_on event) (unheard w t (wait_act l m p) call))
            ∙ sym woken_so,
        goes_as,
      ))
      others_follow (begins_two (locks_of w) l (Wait m timed p) event _ follows.may
      (no_closure l (next.At (Wait m timed q2))))
    where
      call_now : call_state (place_at v t) (rights v t) ≡ calls.condvar_call_by l m (Wait m timed q2)
          (rights v t)
      call_now = call_then w v t l m (Wait m timed p) call_is told event wait_happened shown_then afterwards
          (Wait m timed q2) there refl

      becomes : BecomesOfTwo l m (Wait m timed p) told event shown_then (lock_state w m) afterwards t
          (next.At (Wait m timed q))
      becomes = subst (BecomesOfTwo l m (Wait m timed p) told event shown_then (lock_state w m) afterwards t)
          says
          follows.becomes
