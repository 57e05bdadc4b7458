-- The places of a semaphore owe the same, whatever befalls their thread, and as its time is up.
use Rattle.lot_laws.proofs.Imports
use Imports.{ℕ, Bool, true, false, ◌≡◌, Some, refl, sym, ap, subst, Normal, Reply, TakenBy, MovedTo, HandedBy}
use Imports.{Late, Woken, SemaphorePlace, Acquire, Release, semaphore_profile, Semaphore, line_owed, next_place}
use Rattle.core_base.specs.declared.keys.Line.{Line}
use Rattle.core_base.specs.declared.keys.Line.TheVariants.{Main}
use Rattle.steps_semaphore.specs.declared.acquire.AcquireAt.TheVariants as acquire
use Rattle.steps_semaphore.specs.declared.tries.TryAt.TheVariants as tries
use Rattle.steps_semaphore.specs.declared.release.ReleaseAt.TheVariants as release
use Rattle.steps_semaphore.specs.declared.places.SemaphorePlace.TheVariants.{Try}
use Rattle.lot_laws.proofs.promises.RowPromises.{Befalls, IsLateNext}

-- a thread owes what it owed, with all that befalls it
pub semaphore_befallen : (l : ℕ) (at : SemaphorePlace) (r : Reply) → Befalls r → (k : ℕ)
    → line_owed (next_place (Semaphore l at) r) k ≡ line_owed (Semaphore l at) k
semaphore_befallen l (Acquire timed retries acquire.Asleep) (TakenBy t) b k = refl
semaphore_befallen l (Acquire timed retries acquire.Asleep) (Woken Normal) b k = refl
semaphore_befallen l (Acquire timed retries (acquire.Taken by)) (Woken Normal) b k = refl
semaphore_befallen l (Acquire timed retries at) (TakenBy t) b k = refl
semaphore_befallen l (Acquire timed retries at) (MovedTo key) b k = refl
semaphore_befallen l (Acquire timed retries at) (HandedBy t alone) b k = refl
semaphore_befallen l (Acquire timed retries at) (Woken note) b k = refl
semaphore_befallen l (Try tries.Load) (TakenBy t) b k = refl
semaphore_befallen l (Try at) (TakenBy t) b k = refl
semaphore_befallen l (Try at) (MovedTo key) b k = refl
semaphore_befallen l (Try at) (HandedBy t alone) b k = refl
semaphore_befallen l (Try at) (Woken note) b k = refl
semaphore_befallen l (Release release.Add) (TakenBy t) b k = refl
semaphore_befallen l (Release at) (TakenBy t) b k = refl
semaphore_befallen l (Release at) (MovedTo key) b k = refl
semaphore_befallen l (Release at) (HandedBy t alone) b k = refl
semaphore_befallen l (Release at) (Woken note) b k = refl
semaphore_befallen l at r b k = absurd b

-- a thread that may give up sleeps in its line
pub late_place : (at : SemaphorePlace) (m : Line) → (semaphore_profile at).late_line ≡ Some m
    → (retries : Bool) × (at ≡ Acquire true retries acquire.Asleep) × (Main ≡ m)
late_place (Acquire true retries acquire.Asleep) m h = (retries, refl, cc)
late_place (Acquire false retries acquire.Asleep) m h = absurd cc
late_place (Acquire timed retries at) m h = absurd cc
late_place (Try at) m h = absurd cc
late_place (Release release.Add) m h = absurd cc
late_place (Release at) m h = absurd cc

pub semaphore_late : (l : ℕ) (at : SemaphorePlace) (m : Line) → (semaphore_profile at).late_line ≡ Some m
    → IsLateNext (next_place (Semaphore l at) Late) m
semaphore_late l at m h =
    let z = late_place at m h in
    subst (λ p. IsLateNext (next_place (Semaphore l p) Late) m) (sym z.1) (record {
      inside = ap Some z.2;
      owes = ap Some z.2;
      awake = λ e. cc;
    })
