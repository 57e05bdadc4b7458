-- A thread in a call of a semaphore owes a wake from the step that gave its permit back on, where that saw
-- waiters, or from entering the section, until it leaves it.
use Rattle.lot_laws.proofs.Imports
use Imports.{ℕ, Bool, true, false, Some, if◌then◌else◌, ◌≡◌, inl, inr, refl, sym, ◌∙◌, ap, subst, Next, Reply}
use Imports.{outcome_of, LetsIn, Line, Main, has_parked, AcquireAt, TryAt, ReleaseAt, SemaphorePlace, Acquire}
use Imports.{Release, semaphore_profile, acquire_act, in_acquire, in_release, in_try, next_acquire}
use Imports.{next_release, next_try, release_act, semaphore_act, semaphore_next, try_act, act_of, profile}
use Imports.{semaphore_does, semaphore_goes, State, reply_to, word_at, tells_by, tells_of}
use Rattle.steps_base.specs.declared.acts.Next.TheVariants as next
use Rattle.spec_locks.specs.declared.outcomes.Answer.TheVariants as answer
use Rattle.spec_locks.specs.Locks as locks
use Rattle.steps_semaphore.specs.declared.acquire.AcquireAt.TheVariants as acquire
use Rattle.steps_semaphore.specs.declared.release.ReleaseAt.TheVariants as release
use Rattle.steps_semaphore.specs.declared.places.SemaphorePlace.TheVariants.{Try}
use Rattle.steps_semaphore.specs.SemaphoreSteps.{still_retries}
use Rattle.lot_laws.proofs.promises.RowPromises.{RowOwesNext, RowOwesThen, owes_then}

-- a call of a semaphore looks nowhere first
tells_so : (l : ℕ) (at : SemaphorePlace) (m : Line) (v : ℕ)
    → tells_by locks.Semaphore (Some ((semaphore_profile at).purpose l)) m v ≡ tells_of locks.Semaphore m v
tells_so l (Acquire timed retries at) m v = refl
tells_so l (Try at) m v = refl
tells_so l (Release at) m v = refl

-- a thread that waits for a permit, or tries to take one, lets nobody in
acquires_quietly : (l : ℕ) (timed retries : Bool) (at : AcquireAt) → LetsIn locks.Semaphore l
    (semaphore_profile (Acquire timed retries at)) → ⊥
acquires_quietly l timed retries at (inr h) = let f : false ≡ true = h.0 in cc
acquires_quietly l timed retries at (inl h) = h

tries_quietly : (l : ℕ) (at : TryAt) → LetsIn locks.Semaphore l (semaphore_profile (Try at)) → ⊥
tries_quietly l at (inr h) = let f : false ≡ true = h.0 in cc
tries_quietly l at (inl h) = h

-- ---------------------------------------------------------------- a thread that waits, or tries

acquire_since : (l : ℕ) (timed retries : Bool) (n : Next AcquireAt) (m : Line)
    → (profile (semaphore_goes l (in_acquire timed retries n))).owes ≡ Some m
    → (profile (semaphore_goes l (in_acquire timed retries n))).role.inside ≡ Some m
acquire_since l timed retries (next.At acquire.Check) m h = h
acquire_since l timed retries (next.At (acquire.Leave parked)) m h = h
acquire_since l timed retries (next.At acquire.Remove) m h = h
acquire_since l timed retries (next.At acquire.Clear) m h = h
acquire_since l timed retries (next.At acquire.GiveUp) m h = h
acquire_since l timed retries (next.At at) m h = absurd cc
acquire_since l timed retries (next.End answer) m h = absurd cc

try_since : (l : ℕ) (n : Next TryAt) (m : Line) → (profile (semaphore_goes l (in_try n))).owes ≡ Some m
    → (profile (semaphore_goes l (in_try n))).role.inside ≡ Some m
try_since l (next.At at) m h = absurd cc
try_since l (next.End answer) m h = absurd cc

-- ---------------------------------------------------------------- a thread that gives a permit back

abbrev ReleaseOwes : ℕ → ℕ → ReleaseAt → Next ReleaseAt → Type 0
ReleaseOwes l word at n =
    RowOwesNext locks.Semaphore l word (semaphore_profile (Release at))
    (outcome_of (semaphore_does l (in_release n))) (profile (semaphore_goes l (in_release n)))

-- the thread saw whether somebody may wait
adds_owing : (l word : ℕ) (b : Bool) → has_parked word ≡ b
    → ReleaseOwes l word release.Add (if b then next.At release.Enter else next.End answer.Ok)
adds_owing l word true parked = record {
  since = λ m h. let e : Main ≡ m = cc
      in inr ((inl refl, e, subst (λ n. tells_of locks.Semaphore n word ≡ true) e parked), refl);
  sees = λ m s step. ap Some s.1;
}
adds_owing l word false parked = record { since = λ m h. absurd cc; sees = λ m s step. absurd cc }

-- inside the section it owes
inside_owing : (l word : ℕ) (at to : ReleaseAt) → (semaphore_profile (Release to)).owes ≡ Some Main
    → (semaphore_profile (Release to)).role.inside ≡ Some Main → ReleaseOwes l word at (next.At to)
inside_owing l word at to owes within = record {
  since = λ m h. inl (within ∙ sym owes ∙ h);
  sees = λ m s step. owes ∙ ap Some s.1;
}

takes_owing : (l word : ℕ) (any none_left : Bool)
    → ReleaseOwes l word release.Take (if none_left then next.At (release.Clear any) else next.At
    (release.Leave any))
takes_owing l word any true = inside_owing l word release.Take (release.Clear any) refl refl
takes_owing l word any false = inside_owing l word release.Take (release.Leave any) refl refl

release_owing : (w : State) (t l : ℕ) (at : ReleaseAt)
    → ReleaseOwes l (word_at w l) at (next_release at (reply_to w t (release_act l at)))
release_owing w t l release.Add = adds_owing l (word_at w l) (has_parked (word_at w l)) refl
release_owing w t l release.Enter = inside_owing l (word_at w l) release.Enter release.Take refl refl
release_owing w t l release.Take = takes_owing l (word_at w l) _ _
release_owing w t l (release.Clear any) = inside_owing l (word_at w l) (release.Clear any) (release.Leave any)
    refl refl
release_owing w t l (release.Leave any) = record { since = λ m h. absurd cc; sees = λ m s step. absurd cc }

-- ---------------------------------------------------------------- every place

-- the reply to its act leads a thread on
pub semaphore_owes_next : (w : State) (t l : ℕ) (at : SemaphorePlace) →
    RowOwesThen locks.Semaphore l (word_at w l) (semaphore_profile at)
    (outcome_of (semaphore_does l (semaphore_next at (reply_to w t (semaphore_act l at)))))
    (profile (semaphore_goes l (semaphore_next at (reply_to w t (semaphore_act l at)))))
    (act_of (semaphore_goes l (semaphore_next at (reply_to w t (semaphore_act l at)))))
semaphore_owes_next w t l (Release at) = owes_then (λ m. tells_so l (Release at) m (word_at w l))
    (release_owing w t l at)
semaphore_owes_next w t l (Try at) = owes_then (λ m. tells_so l (Try at) m (word_at w l)) (record {
  since = λ m h. inl (try_since l (next_try at (reply_to w t (try_act l at))) m h);
  sees = λ m s step. absurd (tries_quietly l at s.0);
})
semaphore_owes_next w t l (Acquire timed retries at) =
    owes_then (λ m. tells_so l (Acquire timed retries at) m (word_at w l)) (record {
      since = λ m h. inl (acquire_since l timed (still_retries retries r) (next_acquire timed at r) m h);
      sees = λ m s step. absurd (acquires_quietly l timed retries at s.0);
    })
  where
    r : Reply
    r = reply_to w t (acquire_act l at)
