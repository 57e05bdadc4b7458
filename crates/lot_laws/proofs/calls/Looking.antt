-- A thread that looks at the word once more goes on from another place of its call. Standing there changes
-- nothing that locks and calls see.
use Rattle.lot_laws.proofs.Imports
use Imports.{false, ◌==◌, ◌&&◌, not, ℕ, zero, suc, List, set, true, Option, Some, None, if◌then◌else◌, ◌≡◌, ◌<◌}
use Imports.{inl, inr, [], ◌∷◌, length, replicate, refl, sym, ◌∙◌, ap, subst, get_or-set_other, get_or-set_same}
use Imports.{length-set, get_or, Event, Status, MayHappen, Nothing, AtLock, Moves, Bool, CondvarPlace, Wait}
use Imports.{IsReached, IsRelock, condvar_respin, in_lock, mutex_beside, Entry, in_condvar, closed_place}
use Imports.{next_place, beside_of, profile_at_mutex, is_lock, Closed, in_once, once_respin, OncePlace}
use Imports.{SemaphorePlace, semaphore_respin, RwLockCallPlace, fair_looks_stand, call_respin, in_rwlock}
use Imports.{cases_eq, Act, Word, Outcome, taken_from, MutexPlace, Place, Idle, Mutex, RwLock, Once, Condvar}
use Imports.{Semaphore, act_of, respins_from, called_lock, profile, in_mutex, in_semaphore, mutex_respin}
use Imports.{State}
use Imports.{unlocked, place_at, put, can_go, state_after_act, state_after_go, IsLook, look, Profile, Rights}
use Imports.{rights_of, LocksState, GoesOn, Stays, idle, lock_state, locks_of, call_on_both, stance_of, nowhere}
use Imports.{KeepsWordsAndQueues, FitsCondvar, FitsItsLock, Goes, IsInductive, rules_in}
use Rattle.steps_condvar.specs.declared.wait.WaitAt.TheVariants as wait
use Rattle.steps_mutex.specs.declared.lock.Entry.TheVariants as entry
use Rattle.steps_mutex.specs.declared.lock.LockAt.TheVariants as lock
use Rattle.steps_mutex.specs.declared.places.MutexPlace.TheVariants as mutex
use Rattle.lot_laws.proofs.calls.Closures.{RunsOne}
use Rattle.core_base.specs.declared.ops.Op.TheVariants.{Load}
use Rattle.spec_locks.specs.declared.kinds.Kind.TheVariants as kind
use Rattle.lot_laws.specs.Locations.{location_by}
use Rattle.lot_laws.proofs.calls.Beside.{looks_beside}
use Rattle.lot_laws.proofs.machine.Parts.{parts_at}
use Rattle.lot_laws.proofs.sites.OneStep.{steps_by}
use Rattle.lot_laws.proofs.sites.ActsAt.{place_goes}
use Rattle.lot_laws.proofs.sites.Following.{goes_inductive}
use Rattle.lot_laws.proofs.sites.StandsKept.{Alike}

-- a thread that is set as it was is seen as it was
pub set_keeps : {A B : Type 0} (f : A → B) (xs : List A) (i k : ℕ) (y d : A) → f y ≡ f (get_or xs i d)
    → f (get_or (set xs i y) k d) ≡ f (get_or xs k d)
set_keeps f [] i k y d e = refl
set_keeps f (x ∷ xs) zero zero y d e = e
set_keeps f (x ∷ xs) zero (suc k) y d e = refl
set_keeps f (x ∷ xs) (suc i) zero y d e = refl
set_keeps f (x ∷ xs) (suc i) (suc k) y d e = set_keeps f xs i k y d e

-- a load changes no word
load_untouched : (w : State) (t l : ℕ) (p : Place) (a : Act) → a ≡ Word l Load
    → KeepsWordsAndQueues w (state_after_act w t p a)
load_untouched w t l p a loads = subst (λ x. KeepsWordsAndQueues w (state_after_act w t p x)) (sym loads)
    ((λ k. set_keeps (λ x. x.word) w.locks l k _ (unlocked kind.Mutex) refl), λ key. refl)

-- the thread has come on in the same call, beside the same mutex
pub fits_on : (w : State) (l : ℕ) (at at2 : CondvarPlace) → FitsCondvar w l at → IsReached at2
    → mutex_beside at2 ≡ mutex_beside at → FitsCondvar w l at2
fits_on w l at at2 f reached beside = record {
  sort = f.sort;
  reached = reached;
  mutex = λ m is. f.mutex m (sym beside ∙ is);
}

-- as a wait does that looks at its mutex once more
looks_on : (at at2 : CondvarPlace) → condvar_respin at ≡ Some at2 → IsReached at
    → IsReached at2 × (mutex_beside at2 ≡ mutex_beside at)
looks_on (Wait m timed (wait.Lock late (mutex.Lock e again (lock.Decide seen)))) at2 is reached =
    by_mark e (seen == 1) reached.1 is
  where
    by_mark : (e : Entry) (b : Bool) → IsRelock (mutex.Lock e again (lock.Decide seen))
        → in_lock m timed late (if b then Some (mutex.Lock e again lock.Load) else None) ≡ Some at2
        → IsReached at2 × (mutex_beside at2 ≡ Some m)
    by_mark entry.Lock true relocks is =
        let there : Wait m timed (wait.Lock late (mutex.Lock entry.Lock again lock.Load)) ≡ at2 = cc in
        subst (λ p. IsReached p × (mutex_beside p ≡ Some m)) there ((reached.0, tt), refl)
    by_mark entry.Lock false relocks is = absurd cc
    by_mark e b relocks is = absurd relocks
looks_on (Wait m timed (wait.Lock late (mutex.Lock e again to))) at2 is reached = absurd cc
looks_on (Wait m timed (wait.Lock late to)) at2 is reached = absurd cc
looks_on at at2 is reached = absurd cc

-- the thread is in the same call, of a lock of its sort
calls_on : (w : State) (p q : Place) → respins_from p ≡ Some q → FitsItsLock w p → FitsItsLock w q
calls_on w Idle q is calls = absurd cc
calls_on w (Condvar l at) q is calls = by_place (condvar_respin at) refl is
  where
    by_place : (o : Option CondvarPlace) → condvar_respin at ≡ o → in_condvar l o ≡ Some q → FitsItsLock w q
    by_place None e is = absurd cc
    by_place (Some at2) e is = let there : Condvar l at2 ≡ q = cc in let on = looks_on at at2 e calls.reached
        in
        subst (FitsItsLock w) there (fits_on w l at at2 calls on.0 on.1)
calls_on w (Once l at) q is calls = by_place (once_respin at) is
  where
    by_place : (o : Option OncePlace) → in_once l o ≡ Some q → FitsItsLock w q
    by_place None is = absurd cc
    by_place (Some at2) is = let there : Once l at2 ≡ q = cc in subst (FitsItsLock w) there calls
calls_on w (Semaphore l at) q is calls = by_place (semaphore_respin at) is
  where
    by_place : (o : Option SemaphorePlace) → in_semaphore l o ≡ Some q → FitsItsLock w q
    by_place None is = absurd cc
    by_place (Some at2) e = let there : Semaphore l at2 ≡ q = cc in
        subst (FitsItsLock w) there (
          calls.0,
          subst (λ (row : Profile). row.late ≡ true → row.timed ≡ true)
              (sym (ap profile there ∙ (look (Semaphore l at) q is).row)) calls.1,
        )
calls_on w (RwLock l a c) q is calls = by_place (call_respin a c) refl is
  where
    by_place : (o : Option RwLockCallPlace) → call_respin a c ≡ o → in_rwlock l a o ≡ Some q
        → FitsItsLock w q
    by_place None e is = absurd cc
    by_place (Some d) e is = let there : RwLock l a d ≡ q = cc in subst (FitsItsLock w) there (
      calls.0,
      (fair_looks_stand a c d e).1 calls.1,
    )
calls_on w (Mutex l at) q is calls = by_place (mutex_respin at) is
  where
    by_place : (o : Option MutexPlace) → in_mutex l o ≡ Some q → FitsItsLock w q
    by_place None e = absurd cc
    by_place (Some at2) e = let there : Mutex l at2 ≡ q = cc in subst (FitsItsLock w) there calls

-- a place of the same call, of which its row says the same
pub record IsAlike (p q : Place) : Type 0 where
  pub lock : ℕ
  pub before : called_lock p ≡ Some lock
  pub now : called_lock q ≡ Some lock
  pub row : profile q ≡ profile p
  pub beside : beside_of q ≡ beside_of p
  pub row_at_mutex : profile_at_mutex q ≡ profile_at_mutex p

-- a thread that stands at another such place
module _ (w : State) (t : ℕ) (there : t < length w.places) (q : Place) (it : IsAlike (place_at w t) q) where
  abbrev moved : State
  moved = put w t q

  pub stands_here : place_at moved t ≡ q
  stands_here = get_or-set_same w.places t q Idle there

  -- each thread is in the call that it was in, and its place says of it what it said
  row_same : (u : ℕ) → profile (place_at moved u) ≡ profile (place_at w u)
  row_same u = elim (cases_eq u t) [
    | inl e ↦ rw (e, stands_here) it.row
    | inr ne ↦ ap profile (get_or-set_other w.places t u q Idle ne)
  ]

  beside_same : (u : ℕ)
      → (beside_of (place_at moved u) ≡ beside_of (place_at w u))
      × (profile_at_mutex (place_at moved u) ≡ profile_at_mutex (place_at w u))
  beside_same u = elim (cases_eq u t) [
    | inl e ↦ rw (e, stands_here) (it.beside, it.row_at_mutex)
    | inr ne ↦ let same_place = get_or-set_other w.places t u q Idle ne in (
      ap beside_of same_place,
      ap profile_at_mutex same_place,
    )
  ]

  lock_same : (u : ℕ) → called_lock (place_at moved u) ≡ called_lock (place_at w u)
  lock_same u = elim (cases_eq u t) [
    | inl e ↦ rw (e, stands_here) (it.now ∙ sym it.before)
    | inr ne ↦ ap called_lock (get_or-set_other w.places t u q Idle ne)
  ]

  pub alike_locks : (k : ℕ) → lock_state moved k ≡ lock_state w k
  alike_locks k = λ i. record (lock_state w k) {
    shared = get_or w.shares k (replicate (length-set w.places t q i) 0);
    taken = λ u. let b = beside_same u in
        if is_lock k (b.0 i) && not (is_lock k (lock_same u i)) then taken_from (b.1 i).hand (b.1 i).wants
        true
        else taken_from (row_same u i).hand (row_same u i).wants (is_lock k (lock_same u i));
  }

  abbrev rights_of_all : State → ℕ → ℕ → Rights
  rights_of_all v u k = rights_of (lock_state v k) u

  rights_same : (u : ℕ) → rights_of_all moved u ≡ rights_of_all w u
  rights_same u = λ i k. rights_of (alike_locks k i) u

  pub alike_calls : (u : ℕ) → (locks_of moved).calls u ≡ (locks_of w).calls u
  alike_calls u = let b = beside_same u in λ i. call_on_both (b.0 i) (lock_same u i) (row_same u i) (b.1 i)
      (rights_same u i)

  -- the abstract locks see nothing of it, but for how the thread stands
  sees : ◌≡◌ {A = LocksState} (record (locks_of w) { stances = λ u. stance_of (place_at moved u) })
      (locks_of moved)
  sees = λ i. record {
    threads = sym (length-set w.places t q) i;
    size = length w.locks;
    kinds = (locks_of w).kinds;
    locks = λ k. sym (alike_locks k) i;
    inside = (locks_of w).inside;
    calls = λ u. sym (alike_calls u) i;
    stances = λ u. stance_of (place_at moved u);
  }

  -- the possible turns hang on locks and calls alone
  may_alike : (s : ℕ → Status) (e : Event) → MayHappen (record (locks_of w) { stances = s }) t e
      → MayHappen (locks_of w) t e
  may_alike s Nothing h = h
  may_alike s (AtLock l case) h = h
  may_alike s (Moves c m all owned number) h = record {
    notifies = h.notifies;
    sorts = h.sorts;
    saw = h.saw;
    some = h.some;
    number = h.number;
    wait = h.wait;
    free = h.free;
  }

  pub alike_goes : (o : Outcome) (v : LocksState) → GoesOn (locks_of moved) t o v → GoesOn (locks_of w) t o v
  alike_goes o v g = let h = subst (λ x. GoesOn x t o v) (sym sees) g in
      record {
        called = h.called;
        event = h.event;
        may = may_alike (λ u. stance_of (place_at moved u)) h.event h.may;
        locks = h.locks;
        calls = h.calls;
        agrees = h.agrees;
        begins = h.begins;
      }

  -- by the same event
  pub alike_event : (o : Outcome) (v : LocksState) (e : Event) → ((g : GoesOn (locks_of moved) t o v)
      × (g.event ≡ e))
      → (g : GoesOn (locks_of w) t o v) × (g.event ≡ e)
  alike_event o v e g = let h = subst (λ x. (g : GoesOn x t o v) × (g.event ≡ e)) (sym sees) g in (
    record {
      called = h.0.called;
      event = h.0.event;
      may = may_alike (λ u. stance_of (place_at moved u)) h.0.event h.0.may;
      locks = h.0.locks;
      calls = h.0.calls;
      agrees = h.0.agrees;
      begins = h.0.begins;
    },
    h.1,
  )

  pub alike_stays : (o : Outcome) (v : LocksState) → Stays (locks_of moved) t ((locks_of moved).calls t) o v
      → Stays (locks_of w) t ((locks_of w).calls t) o v
  alike_stays o v s = let h = subst (λ x. Stays x t (x.calls t) o v) (sym sees) s in
      record { told = h.told; locks = h.locks; calls = h.calls }

  lock_stays : called_lock q ≡ called_lock (place_at w t)
  lock_stays = it.now ∙ sym it.before

  -- each lock sees of it what it saw
  alike_at : (k : ℕ) → Alike k (place_at w t) q
  alike_at k = record {
    location = λ i. if is_lock k (lock_stays i) then location_by (it.row i) else if is_lock k (it.beside i)
        then location_by (it.row_at_mutex i) else nowhere;
    role = λ i. if is_lock k (lock_stays i) then (it.row i).role else if is_lock k (it.beside i)
        then (it.row_at_mutex i).role else idle;
    taken = λ i. if is_lock k (it.beside i) && not (is_lock k (lock_stays i)) then taken_from
        (it.row_at_mutex i).hand (it.row_at_mutex i).wants true
        else taken_from (it.row i).hand (it.row i).wants (is_lock k (lock_stays i));
  }

  pub alike_keeps : FitsItsLock w q → IsInductive w → Goes w moved it.lock []
  alike_keeps fits inductive = place_goes w t it.lock inductive there (rules_in w it.lock) refl q
      (λ k ne. alike_at k) fits [] (λ h. tt)
      (steps_by (rules_in w it.lock) it.lock (parts_at w it.lock) (parts_at w it.lock) (place_at w) t q [] tt
      tt (sym (alike_at it.lock).taken) refl refl refl refl (alike_at it.lock).role)
      (alike_at it.lock).location

  pub alike_inductive : FitsItsLock w q → IsInductive w → IsInductive moved
  alike_inductive fits inductive = goes_inductive w moved it.lock [] inductive (alike_keeps fits inductive)

-- ---------------------------------------------------------------- a look

module _ (w : State) (t : ℕ) (there : t < length w.places) (q : Place)
    (is : respins_from (place_at w t) ≡ Some q)
  where
    abbrev looked : State
    looked = put w t q

    looks : IsLook (place_at w t) q
    looks = look (place_at w t) q is

    alike : IsAlike (place_at w t) q
    alike = let b = looks_beside (place_at w t) q is in record {
      lock = looks.lock;
      before = looks.before;
      now = looks.now;
      row = looks.row;
      beside = b.0;
      row_at_mutex = b.1;
    }

    pub here : place_at looked t ≡ q
    here = get_or-set_same w.places t q Idle there

    -- the thread may look now
    pub looks_now : can_go looked t ≡ true
    looks_now = rw (here, looks.loads) refl

    pub looks_untouched : KeepsWordsAndQueues w (state_after_go looked t)
    looks_untouched = load_untouched looked t looks.loaded (place_at looked t) (act_of (place_at looked t))
        (ap act_of here ∙ looks.loads)

    pub locks_same : (k : ℕ) → lock_state looked k ≡ lock_state w k
    locks_same k = alike_locks w t there q alike k

    pub calls_same : (u : ℕ) → (locks_of looked).calls u ≡ (locks_of w).calls u
    calls_same u = alike_calls w t there q alike u

    pub goes_as_before : (o : Outcome) (v : LocksState) → GoesOn (locks_of looked) t o v
        → GoesOn (locks_of w) t o v
    goes_as_before o v g = alike_goes w t there q alike o v g

    pub stays_as_before : (o : Outcome) (v : LocksState)
        → Stays (locks_of looked) t ((locks_of looked).calls t)
        o v
        → Stays (locks_of w) t ((locks_of w).calls t) o v
    stays_as_before o v s = alike_stays w t there q alike o v s

    pub looking_inductive : IsInductive w → IsInductive looked
    looking_inductive inductive = alike_inductive w t there q alike
        (calls_on w (place_at w t) q is (inductive.stands.calls t)) inductive

-- ---------------------------------------------------------------- a closure's end

-- after its closure
abbrev pub after_closure : Bool → Place → Place
after_closure succeeded p = next_place p (Closed succeeded)

-- a thread that runs a closure stands after it in the same call
pub closes_alike : (p : Place) (succeeded : Bool) → RunsOne p → IsAlike p (after_closure succeeded p)
closes_alike p succeeded one = rw one.is (record {
  lock = one.lock;
  before = refl;
  now = refl;
  row = refl;
  beside = refl;
  row_at_mutex = refl;
})

pub closes_fit : (w : State) (p : Place) (succeeded : Bool) → RunsOne p → FitsItsLock w p
    → FitsItsLock w (after_closure succeeded p)
closes_fit w p succeeded one fits = subst (λ q. FitsItsLock w (after_closure succeeded q)) (sym one.is)
    (subst (FitsItsLock w) one.is fits)

module _ (w : State) (t : ℕ) (there : t < length w.places) (succeeded : Bool) (one : RunsOne (place_at w t))
  where
    abbrev pub closing : State
    closing = put w t (closed_place w t succeeded)

    abbrev pub like : IsAlike (place_at w t) (closed_place w t succeeded)
    like = closes_alike (place_at w t) succeeded one

    pub closing_inductive : IsInductive w → IsInductive closing
    closing_inductive inductive = alike_inductive w t there (closed_place w t succeeded) like
        (closes_fit w (place_at w t) succeeded one (inductive.stands.calls t)) inductive

    pub closing_here : place_at closing t ≡ closed_place w t succeeded
    closing_here = get_or-set_same w.places t (closed_place w t succeeded) Idle there
