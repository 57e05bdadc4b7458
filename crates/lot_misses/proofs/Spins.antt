-- A thread that looks once more in place of an exchange looks where it has looked.
use Rattle.std.proofs.Common.{Bool, true, false, Option, Some, None, if◌then◌else◌, ◌==◌, ◌&&◌, not, ◌≡◌, ◌⊎◌}
use Rattle.std.proofs.Common.{inl, inr, refl, sym, ◌∙◌, ap}
use Rattle.spec_locks.specs.Codes.{has_aside}
use Rattle.steps_mutex.specs.declared.lock.LockAt.TheVariants as lock
use Rattle.steps_mutex.specs.declared.places.MutexPlace.{MutexPlace}
use Rattle.steps_mutex.specs.declared.places.MutexPlace.TheVariants as mutex
use Rattle.steps_mutex.specs.MutexSteps.{is_locked, mutex_respin}
use Rattle.steps_once.specs.declared.look.Course.{Course}
use Rattle.steps_once.specs.declared.look.Course.TheVariants.{Ends, Runs, Marks, Parks}
use Rattle.steps_once.specs.declared.look.LookAt.TheVariants as look
use Rattle.steps_once.specs.declared.places.OncePlace.{OncePlace}
use Rattle.steps_once.specs.declared.places.OncePlace.TheVariants as once
use Rattle.steps_once.specs.OnceSteps.{course_of, is_mark, once_respin}
use Rattle.spec_locks.specs.Codes.{is_running}
use Rattle.steps_semaphore.specs.declared.acquire.AcquireAt.TheVariants as acquire
use Rattle.steps_semaphore.specs.declared.places.SemaphorePlace.{SemaphorePlace}
use Rattle.steps_semaphore.specs.declared.places.SemaphorePlace.TheVariants as semaphore
use Rattle.steps_semaphore.specs.SemaphoreSteps.{is_free, semaphore_respin}
use Rattle.steps_condvar.specs.declared.wait.WaitAt.TheVariants as wait
use Rattle.steps_condvar.specs.declared.places.CondvarPlace.{CondvarPlace}
use Rattle.steps_condvar.specs.declared.places.CondvarPlace.TheVariants as condvar
use Rattle.steps_condvar.specs.CondvarSteps.{condvar_respin, in_lock}
use Rattle.steps_rwlock.specs.declared.places.Admission.{Admission}
use Rattle.steps_rwlock.specs.declared.places.RwLockPlace.{RwLockPlace}
use Rattle.steps_rwlock.specs.declared.places.RwLockAt.{RwLockAt}
use Rattle.steps_rwlock.specs.declared.places.RwLockAt.TheVariants as at
use Rattle.steps_rwlock.specs.declared.enter.Decision.{Decision}
use Rattle.steps_rwlock.specs.declared.enter.Decision.TheVariants as decisions
use Rattle.steps_rwlock.specs.RwLockSteps.{decided}
use Rattle.steps_rwlock.specs.RwLockProfiles.{gone_to, looking_at}
use Rattle.steps_rwlock.specs.RwLockProfiles as rows
use Rattle.steps_rwlock_fair.specs.declared.places.RwLockCallPlace.{RwLockCallPlace}
use Rattle.steps_rwlock_fair.specs.declared.places.RwLockCallPlace.TheVariants as call
use Rattle.steps_rwlock_fair.specs.FairProfiles.{call_respin, in_call}
use Rattle.lot_steps.specs.declared.places.Place.{Place}
use Rattle.lot_steps.specs.declared.places.Place.TheVariants.{Idle, Mutex, RwLock, Once, Condvar, Semaphore}
use Rattle.lot_steps.specs.Steps.{in_condvar, in_mutex, in_once, in_rwlock, in_semaphore, respins_from}
use Rattle.lot_misses.specs.Looks.{call_looked, condvar_looked, looked_from, mutex_looked, once_looked}
use Rattle.lot_misses.specs.Looks.{once_looked_by, rwlock_looked, rwlock_looked_by, semaphore_looked}

-- none, or this one
abbrev IsOrNone : {A : Type 0} → Option A → A → Type 0
IsOrNone o x = (o ≡ None) ⊎ (o ≡ Some x)

-- two that are there are one
abbrev Agree : {A : Type 0} → Option A → Option A → Type 0
Agree {A} o k = (x y : A) → o ≡ Some x → k ≡ Some y → x ≡ y

agree : {A : Type 0} (o k : Option A) (z : A) → IsOrNone o z → IsOrNone k z → Agree o k
agree o k z (inl none) other x y e f = absurd (let both : None ≡ Some x = sym none ∙ e in cc)
agree o k z (inr one) (inl none) x y e f = absurd (let both : None ≡ Some y = sym none ∙ f in cc)
agree o k z (inr one) (inr other) x y e f = let first : Some z ≡ Some x = sym one ∙ e in let second : Some z
    ≡ Some y = sym other ∙ f in cc

nothing_there : {A : Type 0} (k : Option A) → Agree None k
nothing_there k x y e f = absurd cc

-- through a function on both
wrapped_agree : {A B : Type 0} (g : Option A → Option B) (f : A → B) → (g None ≡ None)
    → ((x : A) → g (Some x) ≡ Some (f x)) → (o k : Option A) → Agree o k → Agree (g o) (g k)
wrapped_agree g f none some None k h x y e e2 = absurd (let both : None ≡ Some x = sym none ∙ e in cc)
wrapped_agree g f none some (Some u) None h x y e e2 = absurd (let both : None ≡ Some y = sym none ∙ e2 in cc)
wrapped_agree g f none some (Some u) (Some v) h x y e e2 =
    let same : u ≡ v = h u v refl refl in
    let first : Some (f u) ≡ Some x = sym (some u) ∙ e in
    let second : Some (f v) ≡ Some y = sym (some v) ∙ e2 in
    let middle : f u ≡ f v = ap f same in cc

-- ---------------------------------------------------------------- each sort

mutex_agrees : (p : MutexPlace) → Agree (mutex_respin p) (mutex_looked p)
mutex_agrees (mutex.Lock e again (lock.Decide seen)) = agree _ _ (mutex.Lock e again lock.Load)
    (by_one (seen == 1)) (by_both (is_locked seen) (seen == 1))
  where
    by_one : (b : Bool) → IsOrNone (if b then Some (mutex.Lock e again lock.Load) else None)
        (mutex.Lock e again lock.Load)
    by_one true = inr refl
    by_one false = inl refl

    by_both : (a b : Bool) → IsOrNone (if not a then Some (mutex.Lock e again lock.Load) else if b
        then Some (mutex.Lock e again lock.Load) else None) (mutex.Lock e again lock.Load)
    by_both false b = inr refl
    by_both true true = inr refl
    by_both true false = inl refl
mutex_agrees (mutex.Lock e again lock.First) = nothing_there _
mutex_agrees (mutex.Lock e again at) = nothing_there _
mutex_agrees p = nothing_there _

once_agrees : (p : OncePlace) → Agree (once_respin p) (once_looked p)
once_agrees (once.Look c again (look.Decide seen)) = agree _ _ (once.Look c again look.Load)
    (by_one (is_running seen && is_mark (course_of c seen))) (by_course (course_of c seen))
  where
    by_one : (b : Bool) → IsOrNone (if b then Some (once.Look c again look.Load) else None)
        (once.Look c again look.Load)
    by_one true = inr refl
    by_one false = inl refl

    by_course : (k : Course) → IsOrNone (once_looked_by c again k) (once.Look c again look.Load)
    by_course (Ends answer) = inl refl
    by_course Runs = inr refl
    by_course Marks = inr refl
    by_course Parks = inl refl
once_agrees (once.Look c again look.Load) = nothing_there _
once_agrees (once.Look c again at) = nothing_there _
once_agrees p = nothing_there _

semaphore_agrees : (p : SemaphorePlace) → Agree (semaphore_respin p) (semaphore_looked p)
semaphore_agrees (semaphore.Acquire timed again (acquire.Decide seen)) = agree _ _
    (semaphore.Acquire timed again acquire.Load) (by_one (seen == 0)) (by_both (is_free seen) (seen == 0))
  where
    by_one : (b : Bool) → IsOrNone (if b then Some (semaphore.Acquire timed again acquire.Load) else None)
        (semaphore.Acquire timed again acquire.Load)
    by_one true = inr refl
    by_one false = inl refl

    by_both : (a b : Bool) → IsOrNone (if a then Some (semaphore.Acquire timed again acquire.Load) else if b
        then Some (semaphore.Acquire timed again acquire.Load) else None)
        (semaphore.Acquire timed again acquire.Load)
    by_both true b = inr refl
    by_both false true = inr refl
    by_both false false = inl refl
semaphore_agrees (semaphore.Acquire timed again acquire.Load) = nothing_there _
semaphore_agrees (semaphore.Acquire timed again at) = nothing_there _
semaphore_agrees p = nothing_there _

rwlock_agrees : (a : Admission) (p : RwLockPlace) (to : RwLockAt)
    → Agree (looking_at a p to) (rwlock_looked a p to)
rwlock_agrees a p (at.Decide seen) = agree _ _ at.Load
    (by_one (rows.is_mark (decided a p seen) && not (has_aside seen))) (by_decision (decided a p seen))
  where
    by_one : (b : Bool) → IsOrNone (if b then Some at.Load else None) at.Load
    by_one true = inr refl
    by_one false = inl refl

    by_decision : (d : Decision) → IsOrNone (rwlock_looked_by d) at.Load
    by_decision decisions.Take = inr refl
    by_decision decisions.Mark = inr refl
    by_decision decisions.Park = inl refl
    by_decision (decisions.Refuse answer) = inl refl
rwlock_agrees a p (at.Count seen) = agree _ _ at.Look (inr refl) (by_bit (has_aside seen))
  where
    by_bit : (b : Bool) → IsOrNone (if b then None else Some at.Look) at.Look
    by_bit true = inl refl
    by_bit false = inr refl
rwlock_agrees a p to = nothing_there _

call_agrees : (a : Admission) (c : RwLockCallPlace) → Agree (call_respin a c) (call_looked a c)
call_agrees a (call.Plain p) = wrapped_agree (λ o. in_call false (gone_to p o))
    (λ to. call.Plain (record p { at = to })) refl (λ to. refl) (looking_at a p p.at) (rwlock_looked a p p.at)
    (rwlock_agrees a p p.at)
call_agrees a (call.Bump p) = wrapped_agree (λ o. in_call true (gone_to p o))
    (λ to. call.Bump (record p { at = to })) refl (λ to. refl) (looking_at a p p.at) (rwlock_looked a p p.at)
    (rwlock_agrees a p p.at)
call_agrees a c = nothing_there _

condvar_agrees : (p : CondvarPlace) → Agree (condvar_respin p) (condvar_looked p)
condvar_agrees (condvar.Wait m timed (wait.Lock late at)) = wrapped_agree (in_lock m timed late)
    (λ p. condvar.Wait m timed (wait.Lock late p)) refl (λ p. refl) (mutex_respin at) (mutex_looked at)
    (mutex_agrees at)
condvar_agrees (condvar.Wait m timed wait.Enter) = nothing_there _
condvar_agrees (condvar.Wait m timed at) = nothing_there _
condvar_agrees (condvar.Notify all m at) = nothing_there _
condvar_agrees p = nothing_there _

-- ---------------------------------------------------------------- every place

pub looking_is : (p m q : Place) → respins_from p ≡ Some m → looked_from p ≡ Some q → m ≡ q
looking_is Idle m q e f = absurd cc
looking_is (Mutex l at) m q e f = wrapped_agree (in_mutex l) (Mutex l) refl (λ p. refl) (mutex_respin at)
    (mutex_looked at) (mutex_agrees at) m q e f
looking_is (RwLock l a c) m q e f = wrapped_agree (in_rwlock l a) (RwLock l a) refl (λ p. refl)
    (call_respin a c) (call_looked a c) (call_agrees a c) m q e f
looking_is (Once l at) m q e f = wrapped_agree (in_once l) (Once l) refl (λ p. refl) (once_respin at)
    (once_looked at) (once_agrees at) m q e f
looking_is (Condvar l at) m q e f = wrapped_agree (in_condvar l) (Condvar l) refl (λ p. refl)
    (condvar_respin at) (condvar_looked at) (condvar_agrees at) m q e f
looking_is (Semaphore l at) m q e f = wrapped_agree (in_semaphore l) (Semaphore l) refl (λ p. refl)
    (semaphore_respin at) (semaphore_looked at) (semaphore_agrees at) m q e f
