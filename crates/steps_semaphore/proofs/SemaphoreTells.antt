-- A thread in a call of a semaphore is told of its step. For each reply, the step makes of the call
-- what the next row says.
use Rattle.std.proofs.Common.{ℕ, true, false, Option, ◌==◌, ◌≡◌, ◌≢◌, ◌<◌, [], ◌∷◌, refl, sym, ◌∙◌, ap, subst}
use Rattle.std.proofs.Common.{arith, length}
use Rattle.core_base.specs.declared.wants.Want.TheVariants.{Shared}
use Rattle.steps_base.specs.declared.acts.Reply.{Reply}
use Rattle.steps_base.specs.declared.acts.Reply.TheVariants.{Done, Value, Parked, Took, Removed, Late}
use Rattle.steps_base.specs.Calls.{CallFollows}
use Rattle.spec_locks.specs.Codes.{code, has_parked}
use Rattle.spec_locks.specs.Locks.{IsBlocked, Owns, Rules, Semaphore}
use Rattle.spec_locks.specs.Sites.{Clear as Clears, Role, Has, In, IsSite, Main, Site}
use Rattle.steps_semaphore.specs.declared.acquire.AcquireAt.TheVariants as acquire
use Rattle.steps_semaphore.specs.declared.tries.TryAt.TheVariants as tries
use Rattle.steps_semaphore.specs.declared.release.ReleaseAt.TheVariants as release
use Rattle.steps_semaphore.specs.declared.places.SemaphorePlace.{SemaphorePlace}
use Rattle.steps_semaphore.specs.declared.places.SemaphorePlace.TheVariants.{Acquire, Try, Release}
use Rattle.steps_semaphore.specs.SemaphoreDeeds.{semaphore_deeds}
use Rattle.steps_semaphore.specs.SemaphoreLaws.{MayReply, SemaphoreStepsTell, next_row, semaphore_role}
use Rattle.steps_semaphore.specs.SemaphoreProfiles.{semaphore_profile}
use Rattle.steps_semaphore.specs.SemaphoreSteps.{is_free, semaphore_next}
use Rattle.steps_semaphore.proofs.SemaphoreCalls.{Tells, attempts, checks, exchanges, gives, gives_up}
use Rattle.steps_semaphore.proofs.SemaphoreCalls.{leaves_line, looks, quiet, removes, takes_one, wakes_taken}
use Rattle.steps_semaphore.proofs.SemaphoreWords.{free_in, none_free}

module _ (limit : ℕ) (s : Site) (t l : ℕ) (h : IsSite (record {
  sort = Semaphore;
  limit = limit;
}) s) (here : t < length s.lock.shared) where
  abbrev r : Rules
  r = record { sort = Semaphore; limit = limit }

  holds : s.role t ≡ semaphore_role (Release release.Add) → Owns s.lock t Shared
  holds is = h.held t (Has Shared) (ap (λ (d : Role). d.claims) is)

  -- no permit was free by what it saw
  blocked : (seen : ℕ) → seen ≡ code r s → is_free seen ≡ false → IsBlocked r s.lock Shared
  blocked seen f e = let none = none_free (free_in limit s) s.parked (ap is_free (sym f) ∙ e)
      in (tt, λ room. omega arith)

  each_tells : (p : SemaphorePlace) (whom : Option ℕ) (told : Reply) → s.role t ≡ semaphore_role p
      → MayReply r s t p whom told → told ≢ Late
      → Tells limit l t s.lock p (semaphore_deeds p whom told) (semaphore_next p told)
  each_tells (Acquire timed again acquire.Load) whom (Value v) is f now = quiet limit l t s.lock
      (Acquire timed again acquire.Load) (Acquire timed again (acquire.Decide v)) [] tt refl (λ rights. refl)
  each_tells (Acquire timed again (acquire.Decide was)) whom (Value v) is f now =
      exchanges limit l t s.lock timed again was v (v == was) (is_free v) here
  each_tells (Acquire timed again (acquire.Decide was)) whom Done is f now =
      quiet limit l t s.lock (Acquire timed again (acquire.Decide was)) (Acquire timed again acquire.Check)
      (In Main ∷ []) tt refl (λ rights. refl)
  each_tells (Acquire timed again acquire.Check) whom (Parked true) is f now =
      checks limit l t s.lock timed again true
  each_tells (Acquire timed again acquire.Check) whom (Parked false) is f now =
      checks limit l t s.lock timed again false
  each_tells (Acquire timed again (acquire.Leave b)) whom Done is f now = leaves_line limit l t s.lock timed
      again b
  each_tells (Acquire timed again acquire.Asleep) whom Late is f now = absurd (now refl)
  each_tells (Acquire timed again acquire.Remove) whom (Removed b) is f now =
      removes limit l t s.lock timed again b f.0
  each_tells (Acquire timed again acquire.Clear) whom (Value v) is f now =
      quiet limit l t s.lock (Acquire timed again acquire.Clear) (Acquire timed again acquire.GiveUp)
      (Clears Main ∷ []) tt refl (λ rights. refl)
  each_tells (Acquire timed again acquire.GiveUp) whom Done is f now = gives_up limit l t s.lock timed again
      f.0
  each_tells (Try tries.Load) whom (Value v) is f now = looks limit l t s.lock tries.Load v (is_free v)
      (blocked v f)
  each_tells (Try (tries.Decide was)) whom (Value v) is f now = attempts limit l t s.lock was v (v == was)
      (is_free v) here (blocked v f)
  each_tells (Release release.Add) whom (Value v) is f now = gives limit l t s.lock (has_parked v) (holds is)
  each_tells (Release release.Enter) whom Done is f now = quiet limit l t s.lock (Release release.Enter)
      (Release release.Take) (In Main ∷ []) tt refl (λ rights. refl)
  each_tells (Release release.Take) whom (Took any b) is f now = takes_one limit l t s.lock whom any b
  each_tells (Release (release.Clear any)) whom (Value v) is f now =
      quiet limit l t s.lock (Release (release.Clear any)) (Release (release.Leave any)) (Clears Main ∷ []) tt
      refl (λ rights. refl)
  each_tells (Release (release.Leave any)) whom Done is f now = wakes_taken limit l t s.lock any
  each_tells p whom told is f now = absurd f

pub semaphore_steps_tell : SemaphoreStepsTell
semaphore_steps_tell r s t l p whom told a f now =
    subst (λ x. IsSite x s → MayReply x s t p whom told → CallFollows x s.lock t l (semaphore_profile p)
    (semaphore_deeds p whom told) (next_row (semaphore_next p told)))
    (λ i. record {
      sort = sym a.sort i;
      limit = r.limit;
    }) (λ h f. each_tells r.limit s t l h a.here p whom told a.role f now) a.site f
