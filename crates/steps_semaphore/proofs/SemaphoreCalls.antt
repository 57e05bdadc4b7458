-- Each place of a semaphore: what its step makes of its call, by the row of the next place. The case is the
-- one of its deeds.
use Rattle.std.proofs.Common.{ℕ, Bool, true, false, Option, Some, None, if◌then◌else◌, ◌&&◌, not, ◌≡◌, ◌<◌}
use Rattle.std.proofs.Common.{◌+◌, inl, List, [], ◌∷◌, refl, ◌∙◌, ap, length, slice_index, arith}
use Rattle.std.proofs.Common.{get_or-set_same}
use Rattle.core_base.specs.declared.wants.Want.TheVariants.{Shared}
use Rattle.spec_locks.specs.declared.outcomes.Answer.TheVariants as answer
use Rattle.steps_base.specs.declared.acts.Next.{Next}
use Rattle.steps_base.specs.declared.acts.Next.TheVariants as next
use Rattle.steps_base.specs.Calls.{call_by, CallFollows, MayCome, event_at, rights_where}
use Rattle.spec_locks.specs.Locks.{LockState, LockCase, Semaphore, Rules, Rights, Enter, Leave as GivesBack}
use Rattle.spec_locks.specs.Locks.{Park, Owns, IsBlocked, after_case, rights_of, with_right}
use Rattle.spec_locks.specs.Locks.{with_owner}
use Rattle.spec_locks.specs.Locks as locks
use Rattle.spec_locks.specs.Purposes.{IsMadeOf, Enters, Blank}
use Rattle.spec_locks.specs.Runs.{LocksState, CallState, AtLock, going_on, AnswerHolds, rights_in}
use Rattle.spec_locks.specs.Runs.{one_more_at}
use Rattle.spec_locks.specs.Sites.{Deed, Main, End, Out, Mark, Case}
use Rattle.spec_locks.specs.Deeds.{AreOneCase, case_of, after_event}
use Rattle.spec_locks.proofs.Rights.{unchanged, changed, agree, entered_shared, left}
use Rattle.steps_semaphore.specs.declared.acquire.AcquireAt.TheVariants as acquire
use Rattle.steps_semaphore.specs.declared.tries.TryAt.TheVariants as tries
use Rattle.steps_semaphore.specs.declared.release.ReleaseAt.TheVariants as release
use Rattle.steps_semaphore.specs.declared.places.SemaphorePlace.{SemaphorePlace}
use Rattle.steps_semaphore.specs.declared.places.SemaphorePlace.TheVariants.{Acquire, Try, Release}
use Rattle.steps_semaphore.specs.SemaphoreDeeds.{enter_deeds, take_deeds}
use Rattle.steps_semaphore.specs.SemaphoreLaws.{next_row}
use Rattle.steps_semaphore.specs.SemaphoreProfiles.{patience, semaphore_profile}
use Rattle.steps_semaphore.specs.SemaphoreSteps.{acquired, in_acquire, in_release, in_try}

module _ (limit l t : ℕ) (s : LockState) where
  abbrev r : Rules
  r = record { sort = Semaphore; limit = limit }

  -- the step of a place with these deeds leads there
  abbrev pub Tells : SemaphorePlace → List Deed → Next SemaphorePlace → Type 0
  Tells at ds n = CallFollows r s t l (semaphore_profile at) ds (next_row n)

  -- a thread's rights, seen anew
  same_rights : (s2 : LockState) → rights_of s2 t ≡ rights_of s t → (rights : ℕ → Rights) → rights l
      ≡ rights_of s t
      → rights_where l s2 t rights ≡ rights
  same_rights s2 stay rights is = λ i k. agree rights l (rights_where l s2 t rights) rights _ _ (λ k. refl)
      (unchanged rights l (rights_of s t) is) stay k i

  -- the rights of the thread at the lock stay, and its call is what the event makes of it
  keeps : (at at2 : SemaphorePlace) (ds : List Deed) → AreOneCase ds → MayCome l (semaphore_profile at)
      (event_at l (semaphore_profile at) ds)
      → rights_of (after_event r (event_at l (semaphore_profile at) ds) s t) t ≡ rights_of s t
      → ((rights : ℕ → Rights) → call_by l (semaphore_profile at2) rights ≡ going_on
      (event_at l (semaphore_profile at) ds) (call_by l (semaphore_profile at) rights))
      → Tells at ds (next.At at2)
  keeps at at2 ds one may stay same = record {
    one = one;
    may = may;
    comes = λ rights is. ap (call_by l (semaphore_profile at2))
        (same_rights (after_event r (event_at l (semaphore_profile at) ds) s t) stay rights is) ∙ same rights;
  }

  -- nothing happens to the lock
  pub quiet : (at at2 : SemaphorePlace) (ds : List Deed) → AreOneCase ds
      → case_of (semaphore_profile at).has_taken ds ≡ None
      → ((rights : ℕ → Rights) → call_by l (semaphore_profile at2) rights ≡ call_by l (semaphore_profile at)
      rights)
      → Tells at ds (next.At at2)
  quiet at at2 ds one none same = keeps at at2 ds one (rw none tt) (rw none refl)
      (λ rights. rw none (same rights))

  -- the thread has entered: what it holds then
  module _ (v : LocksState) (rights : ℕ → Rights) (s2 : LockState) (is : rights l ≡ rights_of s t)
      (has : (k : ℕ) → rights_in v t k ≡ rights_where l s2 t rights k) where
    gains : rights_of s2 t ≡ with_right Shared (rights_of s t) → (k : ℕ) → rights_in v t k ≡ one_more_at l
        Shared rights k
    gains e = agree rights l _ _ _ _ has (changed rights l (with_right Shared) rights _
        (unchanged rights l (rights_of s t) is)) e

    stays : rights_of s2 t ≡ rights_of s t → (k : ℕ) → rights_in v t k ≡ rights k
    stays e = agree rights l _ _ _ _ has (unchanged rights l (rights_of s t) is) e

    loses : with_right Shared (rights_of s2 t) ≡ rights_of s t → (k : ℕ) → one_more_at l Shared
        (rights_in v t) k ≡ rights k
    loses e = agree rights l _ _ _ _ (changed rights l (with_right Shared) (rights_in v t) _ has)
        (unchanged rights l (rights_of s t) is) e

  -- the thread gave its permit back
  lost : (s2 : LockState) → with_right Shared (rights_of s2 t) ≡ rights_of s t → (rights : ℕ → Rights)
      → rights l ≡ rights_of s t → one_more_at l Shared (rights_where l s2 t rights) ≡ rights
  lost s2 e rights is = λ i k. agree rights l (one_more_at l Shared (rights_where l s2 t rights)) rights _ _
      (changed rights l (with_right Shared) (rights_where l s2 t rights) _ (λ k. refl))
      (unchanged rights l (rights_of s t) is) e k i

  -- ---------------------------------------------------------------- the cases that calls are made of

  enters_by : (timed : Bool) → IsMadeOf (Enters l Shared (patience timed)) None false Blank l (Enter Shared)
  enters_by true = (refl, refl)
  enters_by false = (refl, refl)

  parks_by : (timed : Bool) → IsMadeOf (Enters l Shared (patience timed)) None false Blank l (Park Shared)
  parks_by true = (refl, (refl, λ h. cc))
  parks_by false = (refl, (refl, λ h. cc))

  late_by : (timed : Bool) → timed ≡ true → IsMadeOf (Enters l Shared (patience timed)) None false Blank l
      locks.Late
  late_by true h = (refl, (refl, refl))
  late_by false h = absurd cc

  -- ---------------------------------------------------------------- calls that acquire

  -- the thread holds one more
  owned : t < length s.shared → Owns (with_owner t Shared s) t Shared
  owned here = let e = get_or-set_same s.shared t (slice_index s.shared t + 1) 0 here in omega arith

  -- the answer of a call that has its permit
  agreed : (timed : Bool) (v : LocksState) (c : CallState) (rights : ℕ → Rights) → c.former ≡ rights
      → Owns (v.locks l) t Shared
      → ((k : ℕ) → rights_in v t k ≡ one_more_at l Shared rights k)
      → AnswerHolds (Some (Enters l Shared (patience timed))) v t c (acquired timed)
  agreed true v c rights former own got = rw former (own, got)
  agreed false v c rights former own got = rw former (own, got)

  abbrev by_case : LockCase → SemaphorePlace → (ℕ → Rights) → CallState
  by_case case at rights = going_on (AtLock l case) (call_by l (semaphore_profile at) rights)

  pub exchanges : (timed again : Bool) (was seen : ℕ) (a b : Bool) → t < length s.shared
      → Tells (Acquire timed again (acquire.Decide was)) (if not a then [] else if b then enter_deeds
      else Mark Main ∷ [])
      (in_acquire timed again (if not a then next.At (acquire.Decide seen) else if b then next.End
      (acquired timed) else next.At (acquire.Decide 1)))
  exchanges timed again was seen false b here = quiet (Acquire timed again (acquire.Decide was))
      (Acquire timed again (acquire.Decide seen)) [] tt refl (λ rights. refl)
  exchanges timed again was seen true false here = quiet (Acquire timed again (acquire.Decide was))
      (Acquire timed again (acquire.Decide 1)) (Mark Main ∷ []) tt refl (λ rights. refl)
  exchanges timed again was seen true true here = record {
    one = tt;
    may = (enters_by timed, tt);
    comes = λ v rights ruled now is has.
        agreed timed v (by_case (Enter Shared) (Acquire timed again (acquire.Decide was)) rights) rights refl
        (rw now (owned here)) (gains v rights (with_owner t Shared s) is has (entered_shared s t here));
  }

  parked_ends : (b : Bool) → (if b && not true then Some l else None) ≡ None
  parked_ends true = refl
  parked_ends false = refl

  unparked_goes_on : (b : Bool) → (if b && not false then Some l else None) ≡ (if b then Some l else None)
  unparked_goes_on true = refl
  unparked_goes_on false = refl

  pub checks : (timed again b : Bool)
      → Tells (Acquire timed again acquire.Check) (if b then Case (Park Shared) ∷ [] else [])
      (next.At (Acquire timed (again && not b) (acquire.Leave b)))
  checks timed again true = keeps (Acquire timed again acquire.Check) (Acquire timed (again && not true)
      (acquire.Leave true)) (Case (Park Shared) ∷ []) tt (parks_by timed, tt) refl
      (λ rights i. record (call_by l (semaphore_profile (Acquire timed again acquire.Check)) rights)
      { retries = parked_ends again i })
  checks timed again false = quiet (Acquire timed again acquire.Check) (Acquire timed (again && not false)
      (acquire.Leave false)) [] tt refl
      (λ rights i. record (call_by l (semaphore_profile (Acquire timed again acquire.Check)) rights)
      { retries = unparked_goes_on again i })

  pub leaves_line : (timed again b : Bool)
      → Tells (Acquire timed again (acquire.Leave b)) (Out ∷ [])
      (in_acquire timed again (if b then next.At acquire.Asleep else next.At acquire.Load))
  leaves_line timed again true = quiet (Acquire timed again (acquire.Leave true))
      (Acquire timed again acquire.Asleep) (Out ∷ []) tt refl (λ rights. refl)
  leaves_line timed again false = quiet (Acquire timed again (acquire.Leave false))
      (Acquire timed again acquire.Load) (Out ∷ []) tt refl (λ rights. refl)

  pub removes : (timed again b : Bool) → timed ≡ true
      → Tells (Acquire timed again acquire.Remove) (Case locks.Late ∷ []) (in_acquire timed again
      (if b then next.At acquire.Clear else next.At acquire.GiveUp))
  removes timed again true h = keeps (Acquire timed again acquire.Remove) (Acquire timed again acquire.Clear)
      (Case locks.Late ∷ []) tt (late_by timed h, refl) refl (λ rights. refl)
  removes timed again false h = keeps (Acquire timed again acquire.Remove)
      (Acquire timed again acquire.GiveUp) (Case locks.Late ∷ []) tt (late_by timed h, refl) refl
      (λ rights. refl)

  -- the thread has given up, and holds what it held
  pub gives_up : (timed again : Bool) → timed ≡ true → Tells (Acquire timed again acquire.GiveUp) (Out ∷ [])
      (next.End answer.No)
  gives_up true again h = record {
    one = tt;
    may = tt;
    comes = λ v rights ruled now is has. (refl, stays v rights s is has refl);
  }
  gives_up false again h = absurd cc

  -- ---------------------------------------------------------------- tries

  pub looks : (at : _) (seen : ℕ) (b : Bool) → (b ≡ false → IsBlocked r s Shared)
      → Tells (Try at) (if b then [] else End ∷ []) (in_try (if b then next.At (tries.Decide seen)
      else next.End answer.No))
  looks at seen true none = quiet (Try at) (Try (tries.Decide seen)) [] tt refl (λ rights. refl)
  looks at seen false none = record {
    one = tt;
    may = tt;
    comes = λ v rights ruled now is has. (rw (ruled, now) (none refl), stays v rights s is has refl);
  }

  pub attempts : (was seen : ℕ) (a b : Bool) → t < length s.shared → (b ≡ false → IsBlocked r s Shared)
      → Tells (Try (tries.Decide was)) (if a && b then enter_deeds else if b then [] else End ∷ [])
      (in_try (if a && b then next.End answer.Yes else if b then next.At (tries.Decide seen)
      else next.End answer.No))
  attempts was seen true true here none = record {
    one = tt;
    may = ((refl, refl), tt);
    comes = λ v rights ruled now is has. (
      rw now (owned here),
      gains v rights (with_owner t Shared s) is has
          (entered_shared s t here),
    );
  }
  attempts was seen true false here none = looks (tries.Decide was) seen false none
  attempts was seen false b here none = looks (tries.Decide was) seen b none

  -- ---------------------------------------------------------------- releases

  pub gives : (b : Bool) → Owns s t Shared
      → Tells (Release release.Add) (Case (GivesBack Shared) ∷ (if b then [] else End ∷ []))
      (in_release (if b then next.At release.Enter else next.End answer.Ok))
  gives true own = record {
    one = tt;
    may = ((refl, refl), tt);
    comes = λ rights is. ap (λ f. record (by_case (GivesBack Shared) (Release release.Add) rights) {
      former =
          f;
    }) (lost (after_case r (GivesBack Shared) s t) (left s t Shared own) rights is);
  }
  gives false own = record {
    one = tt;
    may = ((refl, refl), tt);
    comes = λ v rights ruled now is has. loses v rights (after_case r (GivesBack Shared) s t) is has
        (left s t Shared own);
  }

  -- the thread takes the first of the queue, or finds nobody
  pub takes_one : (o : Option ℕ) (any b : Bool)
      → Tells (Release release.Take) (take_deeds o) (in_release (if b then next.At (release.Clear any)
      else next.At (release.Leave any)))
  takes_one None any true = quiet (Release release.Take) (Release (release.Clear any)) (take_deeds None) tt
      refl (λ rights. refl)
  takes_one None any false = quiet (Release release.Take) (Release (release.Leave any)) (take_deeds None) tt
      refl (λ rights. refl)
  takes_one (Some u) any true = keeps (Release release.Take) (Release (release.Clear any))
      (take_deeds (Some u)) tt ((refl, tt), tt) refl (λ rights. refl)
  takes_one (Some u) any false = keeps (Release release.Take) (Release (release.Leave any))
      (take_deeds (Some u)) tt ((refl, tt), tt) refl (λ rights. refl)

  -- the thread wakes the threads that it has taken
  pub wakes_taken : (any : Bool) → Tells (Release (release.Leave any)) (Out ∷ []) (next.End answer.Ok)
  wakes_taken true = record {
    one = tt;
    may = ((refl, inl refl), tt);
    comes = λ v rights ruled now is has k. ap (λ f. one_more_at l Shared f k)
        (λ i x. stays v rights (after_case r locks.Wake s t) is has refl x i);
  }
  wakes_taken false = record {
    one = tt;
    may = tt;
    comes = λ v rights ruled now is has k. ap (λ f. one_more_at l Shared f k)
        (λ i x. stays v rights s is has refl x i);
  }
