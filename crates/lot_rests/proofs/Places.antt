-- The step of a thread that goes on, wherever it stands.
use Rattle.std.proofs.Common.{ℕ, Bool, true, false, Option, Some, None, ◌≡◌, ◌+◌, ◌*◌, ◌≤◌, ◌<◌, inl, inr}
use Rattle.std.proofs.Common.{length, ap, sym, ◌∙◌, subst, arith}
use Rattle.spec_locks.specs.Codes.{bit, word_by}
use Rattle.spec_locks.specs.Locks as locks
use Rattle.spec_locks.specs.Locks.{Sort, one_if_some}
use Rattle.steps_base.specs.declared.acts.Act.{Act}
use Rattle.steps_base.specs.declared.acts.Next.{Next}
use Rattle.steps_base.specs.declared.acts.Next.TheVariants.{At, End}
use Rattle.steps_mutex.specs.declared.places.MutexPlace.{MutexPlace}
use Rattle.steps_mutex.specs.MutexSteps.{mutex_next}
use Rattle.steps_once.specs.declared.places.OncePlace.{OncePlace}
use Rattle.steps_once.specs.OnceSteps.{once_next}
use Rattle.steps_semaphore.specs.declared.places.SemaphorePlace.{SemaphorePlace}
use Rattle.steps_semaphore.specs.SemaphoreSteps.{semaphore_next}
use Rattle.steps_condvar.specs.declared.places.CondvarPlace.{CondvarPlace}
use Rattle.steps_condvar.specs.declared.places.CondvarPlace.TheVariants.{Wait}
use Rattle.steps_condvar.specs.declared.wait.WaitAt.TheVariants as wait
use Rattle.steps_condvar.specs.CondvarSteps.{condvar_act, condvar_next, mutex_beside}
use Rattle.steps_rwlock.specs.declared.places.Admission.{Admission}
use Rattle.steps_rwlock_fair.specs.declared.places.RwLockCallPlace.{RwLockCallPlace}
use Rattle.steps_rwlock_fair.specs.FairSteps.{call_next}
use Rattle.lot_steps.specs.declared.places.Place.{Place}
use Rattle.lot_steps.specs.declared.places.Place.TheVariants.{Idle, Mutex, RwLock, Once, Condvar, Semaphore}
use Rattle.lot_steps.specs.Steps.{act_of, condvar_goes, mutex_goes, next_place, once_goes, rwlock_goes}
use Rattle.lot_steps.specs.Steps.{semaphore_goes}
use Rattle.lot_machine.specs.Machine.{State, can_do, can_go, kind_at, place_at, reply_to, state_after_go}
use Rattle.lot_machine.specs.Machine.{state_after_going, word_at}
use Rattle.lot_machine.specs.Fits.{IsThere, PlaceFits}
use Rattle.lot_laws.specs.SitesOf.{FitsItsLock, IsInductive, IsWorld, rules_in, site_of}
use Rattle.lot_laws.proofs.rwlock.Words.{word_small}
use Rattle.lot_laws.proofs.calls.OwnPlace.{gone_place}
use Rattle.lot_laws.proofs.condvar.OwnStand.{IsStill, own_place, went_is, went_place}
use Rattle.lot_laws.proofs.condvar.WaitersAside.{plain_sort}
use Rattle.lot_laws.proofs.machine.Parts.{IsSingle, fits_two, single_or_two}
use Rattle.lot_laws.proofs.mutex.FairReleases.{mutex_sort}
use Rattle.lot_rests.proofs.Condvars.{IsMutexAt, condvar_row}
use Rattle.lot_rests.proofs.Mutexes.{mutex_row}
use Rattle.lot_rests.proofs.Onces.{IsOnceWord, once_row}
use Rattle.lot_rests.proofs.RwLockCalls.{call_row}
use Rattle.lot_rests.proofs.Semaphores.{semaphore_row}
use Rattle.lot_rests.proofs.Rows.{Goes}
use Rattle.lot_rests.proofs.Work.{call_work, condvar_work, mutex_work, once_work, semaphore_work, work}
use Rattle.lot_rests.proofs.Work.{work_then}
use Rattle.lot_rests.proofs.Ways.{call_ways, condvar_ways, mutex_ways, once_ways, semaphore_ways, ways}
use Rattle.lot_rests.proofs.Ways.{ways_then}

module _ (w : State) where
  -- ---------------------------------------------------------------- the next place, by sort

  mutex_so : (l : ℕ) (x : Act) (k m : ℕ) (n : Next MutexPlace) → Goes w x k (work_then mutex_work n) m
      (ways_then (mutex_ways (word_at w l)) n)
      → Goes w x k (work (mutex_goes l n)) m (ways (word_at w) (mutex_goes l n))
  mutex_so l x k m (At at) row = row
  mutex_so l x k m (End answer) row = row

  once_so : (l : ℕ) (x : Act) (k m : ℕ) (n : Next OncePlace) → Goes w x k (work_then once_work n) m
      (ways_then (once_ways (word_at w l)) n)
      → Goes w x k (work (once_goes l n)) m (ways (word_at w) (once_goes l n))
  once_so l x k m (At at) row = row
  once_so l x k m (End answer) row = row

  semaphore_so : (l : ℕ) (x : Act) (k m : ℕ) (n : Next SemaphorePlace)
      → Goes w x k (work_then semaphore_work n) m (ways_then (semaphore_ways (word_at w l)) n)
      → Goes w x k (work (semaphore_goes l n)) m (ways (word_at w) (semaphore_goes l n))
  semaphore_so l x k m (At at) row = row
  semaphore_so l x k m (End answer) row = row

  condvar_so : (l : ℕ) (x : Act) (k m : ℕ) (n : Next CondvarPlace) → Goes w x k (work_then condvar_work n) m
      (ways_then (condvar_ways (word_at w)) n)
      → Goes w x k (work (condvar_goes l n)) m (ways (word_at w) (condvar_goes l n))
  condvar_so l x k m (At at) row = row
  condvar_so l x k m (End answer) row = row

  rwlock_so : (l : ℕ) (a : Admission) (x : Act) (k m : ℕ) (n : Next RwLockCallPlace)
      → Goes w x k (work_then call_work n) m (ways_then (call_ways a (word_at w l)) n)
      → Goes w x k (work (rwlock_goes l a n)) m (ways (word_at w) (rwlock_goes l a n))
  rwlock_so l a x k m (At at) row = row
  rwlock_so l a x k m (End answer) row = row

  -- ---------------------------------------------------------------- words

  module _ (inductive : IsInductive w) where
    by_sort : (l : ℕ) (sort : Sort) → (rules_in w l).sort ≡ sort
        → word_at w l ≡ word_by sort (rules_in w l).limit (site_of w l).lock (site_of w l).aside_parked
        (site_of w l).parked
    by_sort l sort is = inductive.sites.word l
        ∙ ap (λ s. word_by s (rules_in w l).limit (site_of w l).lock (site_of w l).aside_parked
        (site_of w l).parked) is

    mutex_few : (l : ℕ) → (rules_in w l).sort ≡ locks.Mutex → word_at w l ≤ 3
    mutex_few l is = subst (λ n. n ≤ 3) (sym (by_sort l locks.Mutex is)) (most (site_of w l).lock.exclusive
        (site_of w l).parked)
      where
        most : (o : Option ℕ) (b : Bool) → one_if_some o + 2 * bit b ≤ 3
        most None true = omega arith
        most None false = omega arith
        most (Some u) true = omega arith
        most (Some u) false = omega arith

    once_coded : (l : ℕ) → (rules_in w l).sort ≡ locks.Once → IsOnceWord (word_at w l)
    once_coded l is = record {
      parked = (site_of w l).parked;
      phase = (site_of w l).lock.phase;
      is = by_sort l locks.Once is;
    }

    -- ---------------------------------------------------------------- rows

    module _ (t : ℕ) where
      abbrev Row : Place → Place → Type 0
      Row p q = Goes w (act_of p) (work p) (work q) (ways (word_at w) p) (ways (word_at w) q)

      place_row : (p : Place) → IsSingle p → FitsItsLock w p → PlaceFits (length w.locks) p
          → can_do w (act_of p) ≡ true
          → Row p (next_place p (reply_to w t (act_of p)))
      place_row Idle single fits there can = absurd cc
      place_row (Mutex l at) single fits there can =
          let sort = mutex_sort (kind_at w l) fits in
          mutex_so l (act_of (Mutex l at)) (mutex_work at) (mutex_ways (word_at w l) at)
          (mutex_next at (reply_to w t (act_of (Mutex l at))))
          (mutex_row w t l sort (mutex_few l sort) there.0 at can)
      place_row (Once l at) single fits there can =
          once_so l (act_of (Once l at)) (once_work at) (once_ways (word_at w l) at)
          (once_next at (reply_to w t (act_of (Once l at))))
          (once_row w t l fits (once_coded l fits) there at can)
      place_row (Semaphore l at) single fits there can =
          semaphore_so l (act_of (Semaphore l at)) (semaphore_work at) (semaphore_ways (word_at w l) at)
          (semaphore_next at (reply_to w t (act_of (Semaphore l at))))
          (semaphore_row w t l fits.0 there at can)
      place_row (RwLock l a c) single fits there can =
          rwlock_so l a (act_of (RwLock l a c)) (call_work c) (call_ways a (word_at w l) c)
          (call_next a c (reply_to w t (act_of (RwLock l a c))))
          (call_row w t l fits.0.0 (word_small w l inductive fits.0.0) there a c can)
      place_row (Condvar l at) single fits there can = absurd single

      -- a thread that releases its mutex may be told something by its own act, which changes nothing of this
      still_row : (l : ℕ) (at q : CondvarPlace) → IsStill at q → ((m : ℕ) → mutex_beside at ≡ Some m
          → IsMutexAt w m) → can_do w (condvar_act l at) ≡ true
          → Goes w (condvar_act l at) (condvar_work at) (work_then condvar_work
          (condvar_next q (reply_to w t (condvar_act l at)))) (condvar_ways (word_at w) at)
          (ways_then (condvar_ways (word_at w)) (condvar_next q (reply_to w t (condvar_act l at))))
      still_row l (Wait m timed (wait.Release s a)) q still beside can =
          subst (λ x. Goes w (condvar_act l (Wait m timed (wait.Release s a)))
          (condvar_work (Wait m timed (wait.Release s a)))
          (work_then condvar_work (condvar_next x
          (reply_to w t (condvar_act l (Wait m timed (wait.Release s a))))))
          (condvar_ways (word_at w) (Wait m timed (wait.Release s a)))
          (ways_then (condvar_ways (word_at w))
          (condvar_next x (reply_to w t (condvar_act l (Wait m timed (wait.Release s a)))))))
          (sym still.1)
          (condvar_row w t l (Wait m timed (wait.Release still.0 a)) beside can)
      still_row l at q still beside can =
          subst (λ x. Goes w (condvar_act l at) (condvar_work at)
          (work_then condvar_work (condvar_next x (reply_to w t (condvar_act l at))))
          (condvar_ways (word_at w) at)
          (ways_then (condvar_ways (word_at w)) (condvar_next x (reply_to w t (condvar_act l at)))))
          (sym still)
          (condvar_row w t l at beside can)

      beside_of : (l : ℕ) (at : CondvarPlace) → FitsItsLock w (Condvar l at)
          → PlaceFits (length w.locks) (Condvar l at) → (m : ℕ) → mutex_beside at ≡ Some m → IsMutexAt w m
      beside_of l at fits there m is =
          let sort = plain_sort (kind_at w m) (fits.mutex m is) in
          record { sort = sort; few = mutex_few m sort; there = subst (IsThere (length w.locks)) is there.1 }

      two_row : (there : t < length w.places) (l : ℕ) (at : CondvarPlace) → place_at w t ≡ Condvar l at
          → FitsItsLock w (Condvar l at) → PlaceFits (length w.locks) (Condvar l at)
          → can_do w (condvar_act l at) ≡ true
          → Row (Condvar l at) (place_at (state_after_going w t (Condvar l at)) t)
      two_row there l at is fits fit can =
          let own = own_place w t l at is fits.reached there in
          subst (Row (Condvar l at)) (sym (went_place w t l at is fits.reached there
          ∙ ap (condvar_goes l) (went_is w t l at is fits.reached there)))
          (condvar_so l (condvar_act l at) (condvar_work at) (condvar_ways (word_at w) at)
          (condvar_next own.0 (reply_to w t (condvar_act l at)))
          (still_row l at own.0 own.2 (beside_of l at fits fit) can))

pub goes : (w : State) (t : ℕ) → IsWorld w → t < length w.places → can_go w t ≡ true
    → Goes w (act_of (place_at w t)) (work (place_at w t)) (work (place_at (state_after_go w t) t))
    (ways (word_at w) (place_at w t)) (ways (word_at w) (place_at (state_after_go w t) t))
goes w t h there can = elim (single_or_two (place_at w t)) [
  | inl single ↦ subst (λ q. Goes w (act_of (place_at w t)) (work (place_at w t)) (work q)
      (ways (word_at w) (place_at w t)) (ways (word_at w) q)) (sym (gone_place w t single there))
      (place_row w h.inductive t (place_at w t) single (h.inductive.stands.calls t) (h.well_formed.places t)
      can)
  | inr two ↦ subst (λ p. Goes w (act_of p) (work p) (work (place_at (state_after_going w t p) t))
      (ways (word_at w) p) (ways (word_at w) (place_at (state_after_going w t p) t))) (sym two.is)
      (two_row w h.inductive t there two.lock two.at two.is (fits_two w t h.inductive two)
      (subst (PlaceFits (length w.locks)) two.is (h.well_formed.places t))
      (subst (λ p. can_do w (act_of p) ≡ true) two.is can))
]
