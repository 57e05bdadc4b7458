-- Each place of a mutex: what its step makes of its call, by the row of the next place. The case is the one
-- of its deeds.
use Rattle.std.proofs.Common.{ℕ, Bool, true, false, Option, Some, None, if◌then◌else◌, ◌==◌, ◌&&◌, not, ◌≡◌}
use Rattle.std.proofs.Common.{◌≢◌, ◌⊎◌, ◌+◌, ◌*◌, inl, inr, List, [], ◌∷◌, refl, sym, ◌∙◌, ap}
use Rattle.core_base.specs.declared.keys.Keys.TheVariants.{One}
use Rattle.core_base.specs.declared.ops.Op.TheVariants as op
use Rattle.core_base.specs.declared.wants.Want.TheVariants.{Exclusive}
use Rattle.spec_locks.specs.declared.outcomes.Answer.TheVariants as answer
use Rattle.spec_locks.specs.declared.outcomes.Outcome.TheVariants as outcome
use Rattle.steps_base.specs.declared.acts.Act.TheVariants as act
use Rattle.steps_base.specs.declared.acts.Next.{Next}
use Rattle.steps_base.specs.declared.acts.Next.TheVariants as next
use Rattle.steps_base.specs.Acts.{outcome_of}
use Rattle.steps_base.specs.Calls.{call_by, CallFollows, IsNextCall, MayCome, event_at, rights_where}
use Rattle.steps_mutex.specs.declared.places.MutexPlace.{MutexPlace}
use Rattle.steps_mutex.specs.declared.places.MutexPlace.TheVariants.{Lock, TryLock, Unlock, UnlockFair, Bump}
use Rattle.steps_mutex.specs.declared.places.MutexPlace.TheVariants.{HandOff}
use Rattle.steps_mutex.specs.declared.lock.Entry.{Entry}
use Rattle.steps_mutex.specs.declared.lock.Entry.TheVariants as entries
use Rattle.steps_mutex.specs.declared.lock.LockAt.TheVariants.{First, Load, Decide, Check, Leave, Asleep}
use Rattle.steps_mutex.specs.declared.lock.LockAt.TheVariants.{Accept, Remove, Clear, GiveUp}
use Rattle.steps_mutex.specs.declared.unlock.UnlockAt.TheVariants as unlock
use Rattle.steps_mutex.specs.declared.hand_off.HandOffAt.TheVariants as hand_off
use Rattle.steps_mutex.specs.MutexSteps.{is_locked, is_timed, entered, looked, in_lock, in_unlock}
use Rattle.steps_mutex.specs.MutexSteps.{in_hand_off, lock_act, hand_off_act, mutex_act}
use Rattle.spec_locks.specs.Locks.{LockState, LockCase, Mutex, Rules, Rights, Queued, Enter}
use Rattle.spec_locks.specs.Locks.{Leave as GivesBack, Park, TakeFirst, HandOff as HandsOff, Owns, after_case}
use Rattle.spec_locks.specs.Locks.{rights_of, with_right, without_right}
use Rattle.spec_locks.specs.Locks as locks
use Rattle.spec_locks.specs.Purposes.{IsMadeOf, Blank}
use Rattle.spec_locks.specs.Runs.{LocksState, CallState, AtLock, going_on, AnswerHolds, rights_in}
use Rattle.spec_locks.specs.Runs.{one_more_at, one_less_at}
use Rattle.spec_locks.specs.Sites.{Deed, Main, End, Out, Mark, Case}
use Rattle.spec_locks.specs.Deeds.{AreOneCase, case_of, after_event}
use Rattle.spec_locks.proofs.Rights.{unchanged, changed, agree, entered_alone, left, regained}
use Rattle.steps_mutex.specs.MutexDeeds.{enter_deeds, take_deeds, handing_deeds, queued}
use Rattle.steps_mutex.specs.MutexLaws.{heir, mutex_row, next_row}
use Rattle.steps_mutex.specs.MutexProfiles.{is_bump, entry_purpose, release_purpose, before_release}

-- the thread goes on, or sleeps in its line
abbrev pub Rests : ℕ → Next MutexPlace → Type 0
Rests l (next.At at) = (outcome_of (mutex_act l at) ≡ outcome.Step)
    ⊎ ((outcome_of (mutex_act l at) ≡ outcome.Sleep) × ((mutex_row at).stands ≡ Some Main))
Rests l (next.End a) = Unit {0}

-- a thread that decides goes on, by any decision
pub decides : (l s : ℕ) → outcome_of (lock_act l (Decide s)) ≡ outcome.Step
decides l s = either (is_locked s) (s == 1)
  where
    either : (a b : Bool)
        → outcome_of
        (if not a then act.Word l (op.Exchange s (s + 1)) else if b
        then act.Word l (op.Exchange 1 3) else act.Enter
        (One (2 * l)))
        ≡ outcome.Step
    either false b = refl
    either true true = refl
    either true false = refl

-- the thread goes on, with any hand-over
stores_so : (l : ℕ) (any none_left : Bool) → outcome_of (hand_off_act l (hand_off.Store any none_left))
    ≡ outcome.Step
stores_so l true none_left = refl
stores_so l false none_left = refl

module _ (limit l t : ℕ) (s : LockState) where
  abbrev mutex : Rules
  mutex = record { sort = Mutex; limit = limit }

  -- the step of a place with these deeds leads there
  pub record Tells (at : MutexPlace) (ds : List Deed) (n : Next MutexPlace) : Type 0 where
    pub follows : CallFollows mutex s t l (mutex_row at) ds (next_row n)
    pub rests : Rests l n

  -- a thread's rights, seen anew
  same_rights : (s2 : LockState) → rights_of s2 t ≡ rights_of s t → (rights : ℕ → Rights) → rights l
      ≡ rights_of s t
      → rights_where l s2 t rights ≡ rights
  same_rights s2 stay rights is = λ i k. agree rights l (rights_where l s2 t rights) rights _ _ (λ k. refl)
      (unchanged rights l (rights_of s t) is) stay k i

  -- the rights of the thread at the lock stay, and its call is what the event makes of it
  keeps : (at at2 : MutexPlace) (ds : List Deed) → AreOneCase ds
      → MayCome l (mutex_row at) (event_at l (mutex_row at) ds)
      → rights_of (after_event mutex (event_at l (mutex_row at) ds) s t) t ≡ rights_of s t
      → ((rights : ℕ → Rights) → call_by l (mutex_row at2) rights ≡ going_on (event_at l (mutex_row at) ds)
      (call_by l (mutex_row at) rights))
      → Rests l (next.At at2) → Tells at ds (next.At at2)
  keeps at at2 ds one may stay same rests = record {
    follows = record {
      one = one;
      may = may;
      comes = λ rights is. ap (call_by l (mutex_row at2))
          (same_rights (after_event mutex (event_at l (mutex_row at) ds) s t) stay rights is) ∙ same rights;
    };
    rests = rests;
  }

  -- nothing happens to the lock
  quiet : (at at2 : MutexPlace) (ds : List Deed) → AreOneCase ds → case_of (mutex_row at).has_taken ds ≡ None
      → ((rights : ℕ → Rights) → call_by l (mutex_row at2) rights ≡ call_by l (mutex_row at) rights)
      → Rests l (next.At at2)
      → Tells at ds (next.At at2)
  quiet at at2 ds one none same rests = keeps at at2 ds one (rw none tt) (rw none refl)
      (λ rights. rw none (same rights)) rests

  -- the thread has entered: what it owns then
  module _ (v : LocksState) (rights : ℕ → Rights) (s2 : LockState) (now : v.locks l ≡ s2) (is : rights l
      ≡ rights_of s t)
      (has : (k : ℕ) → rights_in v t k ≡ rights_where l s2 t rights k) where
    gains : rights_of s2 t ≡ with_right Exclusive (rights_of s t) → (k : ℕ) → rights_in v t k
        ≡ one_more_at l Exclusive rights k
    gains e = agree rights l _ _ _ _ has (changed rights l (with_right Exclusive) rights _
        (unchanged rights l (rights_of s t) is)) e

    stays : rights_of s2 t ≡ rights_of s t → (k : ℕ) → rights_in v t k ≡ rights k
    stays e = agree rights l _ _ _ _ has (unchanged rights l (rights_of s t) is) e

    loses : with_right Exclusive (rights_of s2 t) ≡ rights_of s t → (k : ℕ)
        → one_more_at l Exclusive (rights_in v t) k ≡ rights k
    loses e = agree rights l _ _ _ _ (changed rights l (with_right Exclusive) (rights_in v t) _ has)
        (unchanged rights l (rights_of s t) is) e

    -- the thread was handed its right before
    had : Owns s t Exclusive → rights_of s2 t ≡ rights_of s t → (k : ℕ)
        → rights_in v t k ≡ one_more_at l Exclusive (one_less_at l Exclusive rights) k
    had own e = agree rights l _ _ _ _ has (changed rights l (with_right Exclusive)
        (one_less_at l Exclusive rights) _ (changed rights l (without_right Exclusive) rights _
        (unchanged rights l (rights_of s t) is))) (e ∙ sym (regained s t Exclusive own))

  -- the thread gave its right up
  lost : (s2 : LockState) → with_right Exclusive (rights_of s2 t) ≡ rights_of s t → (rights : ℕ → Rights)
      → rights l ≡ rights_of s t → one_more_at l Exclusive (rights_where l s2 t rights) ≡ rights
  lost s2 e rights is = λ i k. agree rights l (one_more_at l Exclusive (rights_where l s2 t rights)) rights _
      _ (changed rights l (with_right Exclusive) (rights_where l s2 t rights) _ (λ k. refl))
      (unchanged rights l (rights_of s t) is) e k i

  -- ---------------------------------------------------------------- the cases that calls are made of

  enters_by : (entry : Entry) → IsMadeOf (entry_purpose l entry) None (is_bump entry) Blank l
      (Enter Exclusive)
  enters_by entries.Lock = (refl, refl)
  enters_by entries.LockTimed = (refl, refl)
  enters_by entries.Bump = (refl, inr (refl, refl))

  parks_by : (entry : Entry) → IsMadeOf (entry_purpose l entry) None (is_bump entry) Blank l (Park Exclusive)
  parks_by entries.Lock = (refl, (refl, λ h. cc))
  parks_by entries.LockTimed = (refl, (refl, λ h. cc))
  parks_by entries.Bump = (refl, inr (refl, (refl, λ h. cc)))

  late_by : (entry : Entry) → is_timed entry ≡ true → IsMadeOf (entry_purpose l entry) None (is_bump entry)
      Blank l locks.Late
  late_by entries.Lock h = absurd cc
  late_by entries.LockTimed h = (refl, (refl, refl))
  late_by entries.Bump h = absurd cc

  takes_by : (bumps : Bool) (x : Queued) → IsMadeOf (release_purpose l bumps) None false Blank l (TakeFirst x)
  takes_by true x = (refl, inl tt)
  takes_by false x = (refl, tt)

  hands_by : (bumps : Bool) (x : Option Queued) → IsMadeOf (release_purpose l bumps) None false Blank l
      (HandsOff Exclusive x)
  hands_by true x = (refl, inl ((refl, refl), refl))
  hands_by false x = (refl, (refl, refl))

  -- ---------------------------------------------------------------- calls that enter

  -- the answer of a call that has entered
  agreed : (entry : Entry) (v : LocksState) (c : CallState) (rights : ℕ → Rights)
      → c.former ≡ before_release l (is_bump entry) rights → Owns (v.locks l) t Exclusive
      → ((k : ℕ) → rights_in v t k ≡ one_more_at l Exclusive rights k)
      → AnswerHolds (Some (entry_purpose l entry)) v t c (entered entry)
  agreed entries.Lock v c rights former own got = rw former (own, got)
  agreed entries.LockTimed v c rights former own got = rw former (own, got)
  agreed entries.Bump v c rights former own got = rw former (own, got)

  abbrev by_case : LockCase → MutexPlace → (ℕ → Rights) → CallState
  by_case case at rights = going_on (AtLock l case) (call_by l (mutex_row at) rights)

  pub first : (e : Entry) (again b : Bool) → (b ≡ true → s.exclusive ≡ None)
      → Tells (Lock e again First) (if b then enter_deeds else [])
      (in_lock e again (if b then next.End (entered e) else next.At Load))
  first e again true free = record {
    follows = record {
      one = tt;
      may = (enters_by e, tt);
      comes = λ v rights ruled now is has. agreed e v (by_case (Enter Exclusive) (Lock e again First) rights)
          rights refl (rw now refl) (gains v rights _ now is has (entered_alone s t (free refl)));
    };
    rests = tt;
  }
  first e again false free = quiet (Lock e again First) (Lock e again Load) [] tt refl (λ rights. refl)
      (inl refl)

  pub loads : (e : Entry) (again : Bool) (seen : ℕ) → Tells (Lock e again Load) []
      (next.At (Lock e again (Decide seen)))
  loads e again seen = quiet (Lock e again Load) (Lock e again (Decide seen)) [] tt refl (λ rights. refl)
      (inl (decides l seen))

  pub exchanges : (e : Entry) (again : Bool) (was seen : ℕ) (a b : Bool) → (a ≡ true → b ≡ false
      → s.exclusive ≡ None)
      → Tells (Lock e again (Decide was)) (if not a then [] else if b then Mark Main ∷ [] else enter_deeds)
      (in_lock e again (if not a then next.At (Decide seen) else if b then next.At (Decide 3)
      else next.End (entered e)))
  exchanges e again was seen false b free = quiet (Lock e again (Decide was)) (Lock e again (Decide seen)) []
      tt refl (λ rights. refl) (inl (decides l seen))
  exchanges e again was seen true true free = quiet (Lock e again (Decide was)) (Lock e again (Decide 3))
      (Mark Main ∷ []) tt refl (λ rights. refl) (inl (decides l 3))
  exchanges e again was seen true false free = record {
    follows = record {
      one = tt;
      may = (enters_by e, tt);
      comes = λ v rights ruled now is has. agreed e v (by_case (Enter Exclusive) (Lock e again (Decide was))
          rights) rights refl (rw now refl)
          (gains v rights _ now is has (entered_alone s t (free refl refl)));
    };
    rests = tt;
  }

  parked_ends : (b : Bool) → (if b && not true then Some l else None) ≡ None
  parked_ends true = refl
  parked_ends false = refl

  unparked_goes_on : (b : Bool) → (if b && not false then Some l else None) ≡ (if b then Some l else None)
  unparked_goes_on true = refl
  unparked_goes_on false = refl

  pub checks : (e : Entry) (again b : Bool)
      → Tells (Lock e again Check) (if b then Case (Park Exclusive) ∷ [] else [])
      (next.At (Lock e (again && not b) (Leave b)))
  checks e again true = keeps (Lock e again Check) (Lock e (again && not true) (Leave true))
      (Case (Park Exclusive) ∷ []) tt (parks_by e, tt) refl
      (λ rights i. record (call_by l (mutex_row (Lock e again Check)) rights) {
        retries =
            parked_ends again i;
      }) (inl refl)
  checks e again false = quiet (Lock e again Check) (Lock e (again && not false) (Leave false)) [] tt refl
      (λ rights i. record (call_by l (mutex_row (Lock e again Check)) rights) {
        retries =
            unparked_goes_on again i;
      }) (inl refl)

  pub leaves_line : (e : Entry) (again b : Bool)
      → Tells (Lock e again (Leave b)) (Out ∷ []) (in_lock e again (if b then next.At Asleep
      else next.At Load))
  leaves_line e again true = quiet (Lock e again (Leave true)) (Lock e again Asleep) (Out ∷ []) tt refl
      (λ rights. refl) (inr (refl, refl))
  leaves_line e again false = quiet (Lock e again (Leave false)) (Lock e again Load) (Out ∷ []) tt refl
      (λ rights. refl) (inl refl)

  pub removes : (e : Entry) (again b : Bool) → is_timed e ≡ true
      → Tells (Lock e again Remove) (Case locks.Late ∷ [])
      (in_lock e again (if b then next.At Clear else next.At GiveUp))
  removes e again true timed = keeps (Lock e again Remove) (Lock e again Clear) (Case locks.Late ∷ []) tt
      (late_by e timed, refl) refl (λ rights. refl) (inl refl)
  removes e again false timed = keeps (Lock e again Remove) (Lock e again GiveUp) (Case locks.Late ∷ []) tt
      (late_by e timed, refl) refl (λ rights. refl) (inl refl)

  -- the thread has given up, and owns what it owned
  pub gives_up : (e : Entry) (again : Bool) → is_timed e ≡ true → Tells (Lock e again GiveUp) (Out ∷ [])
      (next.End answer.No)
  gives_up entries.LockTimed again timed = record {
    follows = record {
      one = tt;
      may = tt;
      comes = λ v rights ruled now is has. (refl, stays v rights s now is has refl);
    };
    rests = tt;
  }
  gives_up entries.Lock again timed = absurd cc
  gives_up entries.Bump again timed = absurd cc

  -- the thread was handed the lock, and owns it
  pub accepts : (e : Entry) (again : Bool) → s.exclusive ≡ Some t → Tells (Lock e again Accept) (End ∷ [])
      (next.End (entered e))
  accepts entries.Lock again own = record {
    follows = record {
      one = tt;
      may = tt;
      comes = λ v rights ruled now is has. (rw now own, had v rights s now is has own refl);
    };
    rests = tt;
  }
  accepts entries.LockTimed again own = record {
    follows = record {
      one = tt;
      may = tt;
      comes = λ v rights ruled now is has. (rw now own, had v rights s now is has own refl);
    };
    rests = tt;
  }
  accepts entries.Bump again own = record {
    follows = record {
      one = tt;
      may = tt;
      comes = λ v rights ruled now is has. (rw now own, stays v rights s now is has refl);
    };
    rests = tt;
  }

  pub tries : (b : Bool) → (b ≡ false → s.exclusive ≡ None) → (b ≡ true → s.exclusive ≢ None)
      → Tells TryLock (if b then End ∷ [] else enter_deeds) (if b then next.End answer.No else next.End
      answer.Yes)
  tries false free owned = record {
    follows = record {
      one = tt;
      may = ((refl, refl), tt);
      comes = λ v rights ruled now is has. (
        rw now refl,
        gains v rights _ now is has (entered_alone s t (free refl)),
      );
    };
    rests = tt;
  }
  tries true free owned = record {
    follows = record {
      one = tt;
      may = tt;
      comes = λ v rights ruled now is has.
          ((λ of_mutex. rw (ruled, now) (tt, λ none. owned refl none)), stays v rights s now is has refl);
    };
    rests = tt;
  }

  -- ---------------------------------------------------------------- releases

  pub subtracts : (b : Bool) → s.exclusive ≡ Some t
      → Tells (Unlock unlock.Subtract) (Case (GivesBack Exclusive) ∷ (if b then [] else End ∷ []))
      (in_unlock (if b then next.At unlock.Enter else next.End answer.Ok))
  subtracts true own = record {
    follows = record {
      one = tt;
      may = ((refl, refl), tt);
      comes = λ rights is. ap (λ f. record (by_case (GivesBack Exclusive) (Unlock unlock.Subtract) rights)
          { former = f }) (lost (after_case mutex (GivesBack Exclusive) s t) (left s t Exclusive own) rights
          is);
    };
    rests = inl refl;
  }
  subtracts false own = record {
    follows = record {
      one = tt;
      may = ((refl, refl), tt);
      comes = λ v rights ruled now is has. loses v rights _ now is has (left s t Exclusive own);
    };
    rests = tt;
  }

  -- the thread takes the first of the queue, or finds nobody
  pub takes_one : (o : Option ℕ) (any b : Bool)
      → Tells (Unlock unlock.Take) (take_deeds o) (in_unlock (if b then next.At (unlock.Clear any)
      else next.At (unlock.Leave any)))
  takes_one None any true = quiet (Unlock unlock.Take) (Unlock (unlock.Clear any)) (take_deeds None) tt refl
      (λ rights. refl) (inl refl)
  takes_one None any false = quiet (Unlock unlock.Take) (Unlock (unlock.Leave any)) (take_deeds None) tt refl
      (λ rights. refl) (inl refl)
  takes_one (Some u) any true = keeps (Unlock unlock.Take) (Unlock (unlock.Clear any)) (take_deeds (Some u))
      tt ((refl, tt), tt) refl (λ rights. refl) (inl refl)
  takes_one (Some u) any false = keeps (Unlock unlock.Take) (Unlock (unlock.Leave any)) (take_deeds (Some u))
      tt ((refl, tt), tt) refl (λ rights. refl) (inl refl)

  -- the thread wakes the threads that it has taken
  pub wakes_taken : (any : Bool) → Tells (Unlock (unlock.Leave any)) (Out ∷ []) (next.End answer.Ok)
  wakes_taken true = record {
    follows = record {
      one = tt;
      may = ((refl, inl refl), tt);
      comes = λ v rights ruled now is has k. ap (λ f. one_more_at l Exclusive f k)
          (λ i x. stays v rights _ now is has refl x i);
    };
    rests = tt;
  }
  wakes_taken false = record {
    follows = record {
      one = tt;
      may = tt;
      comes = λ v rights ruled now is has k. ap (λ f. one_more_at l Exclusive f k)
          (λ i x. stays v rights _ now is has refl x i);
    };
    rests = tt;
  }

  -- ---------------------------------------------------------------- fair releases

  pub unlocks_fairly : (b : Bool) → (b ≡ true → s.exclusive ≡ Some t)
      → Tells UnlockFair (if b then Case (GivesBack Exclusive) ∷ End ∷ [] else []) (looked false (not b))
  unlocks_fairly true own = record {
    follows = record {
      one = tt;
      may = ((refl, refl), tt);
      comes = λ v rights ruled now is has. loses v rights _ now is has (left s t Exclusive (own refl));
    };
    rests = tt;
  }
  unlocks_fairly false own = quiet UnlockFair (HandOff false hand_off.Enter) [] tt refl (λ rights. refl)
      (inl refl)

  pub bumps : (b : Bool) → s.exclusive ≡ Some t → Tells Bump (if b then [] else End ∷ []) (looked true b)
  bumps true own = quiet Bump (HandOff true hand_off.Enter) [] tt refl (λ rights. refl) (inl refl)
  bumps false own = record {
    follows = record {
      one = tt;
      may = tt;
      comes = λ v rights ruled now is has. (rw now own, stays v rights s now is has refl);
    };
    rests = tt;
  }

  pub takes_fairly : (bumping : Bool) (o : Option ℕ) (any b : Bool)
      → Tells (HandOff bumping hand_off.Take) (take_deeds o)
      (next.At (HandOff bumping (hand_off.Store any b)))
  takes_fairly bumping None any b = quiet (HandOff bumping hand_off.Take)
      (HandOff bumping (hand_off.Store any b)) (take_deeds None) tt refl (λ rights. refl)
      (inl (stores_so l any b))
  takes_fairly bumping (Some u) any b = keeps (HandOff bumping hand_off.Take)
      (HandOff bumping (hand_off.Store any b)) (take_deeds (Some u)) tt (takes_by bumping (queued u), tt) refl
      (λ rights. refl) (inl (stores_so l any b))

  -- the thread gives its right to its heir, which isn't itself
  pub stores : (bumping any none_left : Bool) (to : Option ℕ)
      → with_right Exclusive (rights_of (locks.handed t Exclusive (heir to) s) t) ≡ rights_of s t
      → Tells (HandOff bumping (hand_off.Store any none_left)) (handing_deeds to none_left)
      (next.At (HandOff bumping (hand_off.Leave any)))
  stores bumping any none_left to gave = record {
    follows = record { one = one to none_left; may = may to; comes = comes to gave };
    rests = inl (leaves_so any);
  }
    where
      one : (o : Option ℕ) (b : Bool) → AreOneCase (handing_deeds o b)
      one None b = tt
      one (Some u) true = tt
      one (Some u) false = tt

      may : (o : Option ℕ)
          → MayCome l (mutex_row (HandOff bumping (hand_off.Store any none_left)))
          (event_at l (mutex_row (HandOff bumping (hand_off.Store any none_left)))
          (handing_deeds o none_left))
      may None = (hands_by bumping None, tt)
      may (Some u) = (hands_by bumping (heir (Some u)), tt)

      leaves_so : (b : Bool) → outcome_of (hand_off_act l (hand_off.Leave b)) ≡ outcome.Step
      leaves_so true = refl
      leaves_so false = refl

      comes : (o : Option ℕ) → with_right Exclusive (rights_of (locks.handed t Exclusive (heir o) s) t)
          ≡ rights_of s t
          → IsNextCall l (mutex_row (HandOff bumping (hand_off.Store any none_left)))
          (event_at l (mutex_row (HandOff bumping (hand_off.Store any none_left)))
          (handing_deeds o none_left)) s
          (after_event mutex (event_at l (mutex_row (HandOff bumping (hand_off.Store any none_left)))
          (handing_deeds o none_left)) s t) t
          (mutex_row (HandOff bumping (hand_off.Leave any)))
      comes None e rights is = ap (λ f. record (by_case (HandsOff Exclusive None)
          (HandOff bumping (hand_off.Store any none_left)) rights) { former = f })
          (lost (locks.handed t Exclusive None s) e rights is)
      comes (Some u) e rights is = ap (λ f. record (by_case (HandsOff Exclusive (heir (Some u)))
          (HandOff bumping (hand_off.Store any none_left)) rights) { former = f })
          (lost (locks.handed t Exclusive (heir (Some u)) s) e rights is)

  -- the thread leaves, and a bump enters again
  pub leaves_fairly : (bumping to : Bool)
      → Tells (HandOff bumping (hand_off.Leave to)) (Out ∷ []) (in_hand_off bumping (next.End answer.Ok))
  leaves_fairly true true = quiet (HandOff true (hand_off.Leave true)) (Lock entries.Bump false First)
      (Out ∷ []) tt refl (λ rights. refl) (inl refl)
  leaves_fairly true false = quiet (HandOff true (hand_off.Leave false)) (Lock entries.Bump false First)
      (Out ∷ []) tt refl (λ rights. refl) (inl refl)
  leaves_fairly false true = record {
    follows = record {
      one = tt;
      may = tt;
      comes = λ v rights ruled now is has k. ap (λ f. one_more_at l Exclusive f k)
          (λ i x. stays v rights _ now is has refl x i);
    };
    rests = tt;
  }
  leaves_fairly false false = record {
    follows = record {
      one = tt;
      may = tt;
      comes = λ v rights ruled now is has k. ap (λ f. one_more_at l Exclusive f k)
          (λ i x. stays v rights _ now is has refl x i);
    };
    rests = tt;
  }

  -- ---------------------------------------------------------------- steps that only lead elsewhere

  -- into a section, or a bit cleared
  pub goes_to : (at at2 : MutexPlace) (d : Deed) → AreOneCase (d ∷ []) → case_of (mutex_row at).has_taken
      (d ∷ []) ≡ None
      → ((rights : ℕ → Rights) → call_by l (mutex_row at2) rights ≡ call_by l (mutex_row at) rights)
      → Rests l (next.At at2)
      → Tells at (d ∷ []) (next.At at2)
  goes_to at at2 d one none same rests = quiet at at2 (d ∷ []) one none same rests
