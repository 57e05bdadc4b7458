-- A call that tries to lock a mutex, or to write, ends as its thread goes on: it stands at its first place.
use Rattle.lot_laws.proofs.Imports
use Imports.{ℕ, Bool, true, false, Option, Some, ◌==◌, ◌≡◌, ◌⊎◌, inl, inr, refl, sym, ◌∙◌, subst, is_none}
use Imports.{Exclusive, Rights, Purpose, Enters, Patient, Timed, Try, Step, Outcome, outcome_of, Place, Idle}
use Imports.{Mutex, RwLock, Once, Semaphore, Condvar, MutexPlace, OncePlace, SemaphorePlace, Admission}
use Imports.{RwLockAt, RwLockPurpose, RwLockCallPlace, CallStands, StandsAt, State, place_at, word_at}
use Imports.{lock_state, locks_of, call_state, act_of, next_act, reply_to, go_of, step_outcome, tried}
use Imports.{FitsItsLock, IsInductive, mutex_profile, once_profile, semaphore_profile, call_profile}
use Imports.{purpose_by}
use Rattle.core_base.specs.declared.keys.Line.TheVariants.{Main, Second}
use Rattle.spec_locks.specs.Runs.{TriesEnd}
use Rattle.spec_locks.specs.declared.calls.Access.TheVariants as access
use Rattle.spec_locks.specs.declared.calls.OnceCall.TheVariants as once_call
use Rattle.spec_locks.specs.declared.outcomes.Answer.TheVariants as answer
use Rattle.spec_locks.specs.declared.outcomes.Outcome.TheVariants as outcome
use Rattle.steps_mutex.specs.declared.lock.Entry.TheVariants as entry
use Rattle.steps_mutex.specs.declared.places.MutexPlace.TheVariants as mutex
use Rattle.steps_rwlock.specs.declared.places.RwLockAt.TheVariants as at
use Rattle.steps_rwlock.specs.declared.purposes.RwLockPurpose.TheVariants as purpose
use Rattle.steps_rwlock_fair.specs.declared.places.RwLockCallPlace.TheVariants as fair
use Rattle.steps_once.specs.declared.places.OncePlace.TheVariants as once
use Rattle.steps_semaphore.specs.declared.places.SemaphorePlace.TheVariants as semaphore
use Rattle.steps_condvar.specs.declared.places.CondvarPlace.TheVariants as condvar
use Rattle.lot_laws.proofs.rwlock.RwLockRows.{parks_wait}
use Rattle.lot_laws.proofs.calls.Tries.{locks_told, stands_there, told}
use Rattle.lot_laws.proofs.calls.TriesPass.{place}

-- a call tries to own the lock k alone
abbrev TriesAlone : ℕ → Option Purpose → Type 0
TriesAlone k o = o ≡ Some (Enters k Exclusive Try)

abbrev HasEnded : Outcome → Type 0
HasEnded o = (o ≡ outcome.End answer.Yes) ⊎ (o ≡ outcome.End answer.No)

module _ (w : State) (t k : ℕ) (inductive : IsInductive w) where
  abbrev Ends : Type 0
  Ends = HasEnded (step_outcome w (go_of t))

  by_tried : (b : Bool) → step_outcome w (go_of t) ≡ tried b → Ends
  by_tried true e = inl e
  by_tried false e = inr e

  -- -------------------------------------------------------------- a reader-writer lock

  module _ (l : ℕ) (a : Admission) where
    abbrev writes : Bool → RwLockAt → Place
    writes again to = RwLock l a (place (purpose.Enter access.Exclusive Try) again to)

    first : (again : Bool) → place_at w t ≡ writes again at.First → Ends
    first again is = by_tried (word_at w l == 0) (told w t (writes again at.First) is tt
        (stands_there w.places t (λ idle. busy (sym is ∙ idle))) refl ∙ by_word (word_at w l == 0) refl)
      where
        busy : writes again at.First ≡ Idle → ⊥
        busy e = cc

        by_word : (b : Bool) → (word_at w l == 0) ≡ b
            → outcome_of (next_act (writes again at.First) (reply_to w t (act_of (writes again at.First))))
            ≡ tried (word_at w l == 0)
        by_word true e = rw e refl
        by_word false e = rw e refl

    writer : (again : Bool) (to : RwLockAt) → StandsAt (purpose.Enter access.Exclusive Try) again to
        → place_at w t ≡ writes again to → Ends
    writer again at.First stands is = first again is
    writer again (at.Park to) stands is = absurd (parks_wait Try to stands refl)
    writer again (at.Aside to) stands is = absurd (parks_wait Try to stands refl)
    writer again (at.Wake Main to) stands is = absurd stands
    writer again (at.Wake Second to) stands is = absurd stands
    writer again to stands is = absurd stands

    plain : (q : RwLockPurpose) (again : Bool) (to : RwLockAt) → StandsAt q again to
        → place_at w t ≡ RwLock l a (place q again to) → TriesAlone k (Some (purpose_by q l)) → Ends
    plain (purpose.Enter access.Exclusive Try) again to stands is h = writer again to stands is
    plain (purpose.Enter access.Exclusive Patient) again to stands is h = absurd cc
    plain (purpose.Enter access.Exclusive Timed) again to stands is h = absurd cc
    plain (purpose.Enter access.Upgradable how) again to stands is h = absurd cc
    plain (purpose.Enter access.Shared how) again to stands is h = absurd cc
    plain (purpose.Release x) again to stands is h = absurd cc
    plain (purpose.Downgrade d) again to stands is h = absurd cc
    plain (purpose.Upgrade how) again to stands is h = absurd cc

    by_call : (c : RwLockCallPlace) → CallStands a c → place_at w t ≡ RwLock l a c
        → TriesAlone k (Some ((call_profile a c).purpose l)) → Ends
    by_call (fair.Plain p) stands is h = plain p.purpose p.retries p.at stands.place is h
    by_call (fair.Bump p) stands is h = absurd cc
    by_call (fair.PeekQueue x) stands is h = absurd cc
    by_call (fair.HandOver x true to) stands is h = absurd cc
    by_call (fair.HandOver x false to) stands is h = absurd cc
    by_call (fair.Handed x how true to) stands is h = absurd cc
    by_call (fair.Handed x Patient false to) stands is h = absurd cc
    by_call (fair.Handed x Timed false to) stands is h = absurd cc
    by_call (fair.Handed x Try false to) stands is h = absurd stands

  -- -------------------------------------------------------------- the other sorts

  by_mutex : (l : ℕ) (p : MutexPlace) → place_at w t ≡ Mutex l p
      → TriesAlone k (Some ((mutex_profile p).purpose l)) → Ends
  by_mutex l mutex.TryLock is h = by_tried (is_none (lock_state w l).exclusive)
      (locks_told w t l inductive is)
  by_mutex l (mutex.Lock entry.Lock retries to) is h = absurd cc
  by_mutex l (mutex.Lock entry.LockTimed retries to) is h = absurd cc
  by_mutex l (mutex.Lock entry.Bump retries to) is h = absurd cc
  by_mutex l (mutex.Unlock to) is h = absurd cc
  by_mutex l mutex.UnlockFair is h = absurd cc
  by_mutex l mutex.Bump is h = absurd cc
  by_mutex l (mutex.HandOff true to) is h = absurd cc
  by_mutex l (mutex.HandOff false to) is h = absurd cc

  by_once : (l : ℕ) (p : OncePlace) → TriesAlone k (Some ((once_profile p).purpose l)) → ⊥
  by_once l (once.Look (once_call.CallOnce forced) retries to) h = cc
  by_once l (once.Look (once_call.Wait forced) retries to) h = cc
  by_once l (once.Look once_call.WaitTimed retries to) h = cc
  by_once l (once.Run forced to) h = cc
  by_once l (once.GiveUp retries to) h = cc

  by_semaphore : (l : ℕ) (p : SemaphorePlace) → TriesAlone k (Some ((semaphore_profile p).purpose l)) → ⊥
  by_semaphore l (semaphore.Acquire timed retries to) h = cc
  by_semaphore l (semaphore.Try to) h = cc
  by_semaphore l (semaphore.Release to) h = cc

  by_place : (p : Place) → FitsItsLock w p → place_at w t ≡ p → (rights : ℕ → Rights)
      → TriesAlone k (call_state p rights).purpose → Ends
  by_place Idle fits is rights h = absurd cc
  by_place (Mutex l at) fits is rights h = by_mutex l at is h
  by_place (RwLock l a c) fits is rights h = by_call l a c fits.1 is h
  by_place (Once l at) fits is rights h = absurd (by_once l at h)
  by_place (Semaphore l at) fits is rights h = absurd (by_semaphore l at h)
  by_place (Condvar l (condvar.Wait m timed to)) fits is rights h = absurd cc
  by_place (Condvar l (condvar.Look all)) fits is rights h = absurd cc
  by_place (Condvar l (condvar.Notify all m to)) fits is rights h = absurd cc

pub tries_end : (w : State) (s : Step) → IsInductive w → TriesEnd (locks_of w) s (step_outcome w s)
tries_end w s inductive k h goes =
    subst (λ x. HasEnded (step_outcome w (record { thread = s.thread; turn = x }))) (sym goes)
    (by_place w s.thread k inductive (place_at w s.thread) (inductive.stands.calls s.thread) refl _ h)
