-- Each place of a semaphore says of its thread what is promised of it, by the test of its row.
use Rattle.std.proofs.Common.{ℕ, Bool, true, false, if◌then◌else◌, ◌==◌, ◌&&◌, ◌≡◌, ◌*◌, ◌-◌, refl}
use Rattle.core_base.specs.declared.keys.Keys.TheVariants.{One}
use Rattle.core_base.specs.declared.keys.Line.TheVariants.{Main}
use Rattle.core_base.specs.declared.ops.Op.TheVariants as op
use Rattle.steps_base.specs.declared.acts.Act.TheVariants as act
use Rattle.spec_locks.specs.Locks.{Semaphore}
use Rattle.spec_locks.specs.Purposes.{lock_for}
use Rattle.steps_semaphore.specs.declared.acquire.AcquireAt.{AcquireAt}
use Rattle.steps_semaphore.specs.declared.acquire.AcquireAt.TheVariants as acquire
use Rattle.steps_semaphore.specs.declared.tries.TryAt.{TryAt}
use Rattle.steps_semaphore.specs.declared.tries.TryAt.TheVariants as tries
use Rattle.steps_semaphore.specs.declared.release.ReleaseAt.{ReleaseAt}
use Rattle.steps_semaphore.specs.declared.release.ReleaseAt.TheVariants as release
use Rattle.steps_semaphore.specs.declared.places.SemaphorePlace.{SemaphorePlace}
use Rattle.steps_semaphore.specs.declared.places.SemaphorePlace.TheVariants.{Acquire, Try, Release}
use Rattle.steps_semaphore.specs.SemaphoreLaws.{SemaphoreRowsKeep}
use Rattle.steps_semaphore.specs.SemaphoreProfiles.{semaphore_profile}
use Rattle.steps_semaphore.specs.SemaphoreSteps.{acquire_act, is_free, release_act, semaphore_act, try_act}
use Rattle.steps_base.proofs.RowCheck.{Going, Into, Asleep, Other, GoesAs, keeps_row, by_test, both}

-- ---------------------------------------------------------------- the next act of a thread

abbrev decided_going : Bool → Bool → Going
decided_going a b = if a then Other else if b then Other else Into Main

abbrev acquire_going : AcquireAt → Going
acquire_going (acquire.Decide seen) = decided_going (is_free seen) (seen == 0)
acquire_going acquire.Asleep = Asleep
acquire_going (acquire.Taken by) = Asleep
acquire_going at = Other

abbrev release_going : ReleaseAt → Going
release_going release.Enter = Into Main
release_going at = Other

abbrev going : SemaphorePlace → Going
going (Acquire timed r at) = acquire_going at
going (Try at) = Other
going (Release at) = release_going at

decided_goes : (l s : ℕ) (a b : Bool) → GoesAs l
    (if a then act.Word l (op.Exchange s (s - 2)) else if b then act.Word l (op.Exchange 0 1)
    else act.Enter (One (2 * l))) (decided_going a b)
decided_goes l s true b = record { acts = refl; awake = λ e. cc; elsewhere = λ m e. cc }
decided_goes l s false true = record { acts = refl; awake = λ e. cc; elsewhere = λ m e. cc }
decided_goes l s false false = refl

acquire_goes : (l : ℕ) (at : AcquireAt) → GoesAs l (acquire_act l at) (acquire_going at)
acquire_goes l (acquire.Decide seen) = decided_goes l seen (is_free seen) (seen == 0)
acquire_goes l acquire.Asleep = refl
acquire_goes l (acquire.Taken by) = refl
acquire_goes l at = record { acts = refl; awake = λ e. cc; elsewhere = λ m e. cc }

try_goes : (l : ℕ) (at : TryAt) → GoesAs l (try_act l at) Other
try_goes l tries.Load = record { acts = refl; awake = λ e. cc; elsewhere = λ m e. cc }
try_goes l (tries.Decide seen) = tried (is_free seen)
  where
    tried : (a : Bool) → GoesAs l (if a then act.Word l (op.Exchange seen (seen - 2)) else act.Word l op.Load)
        Other
    tried true = record { acts = refl; awake = λ e. cc; elsewhere = λ m e. cc }
    tried false = record { acts = refl; awake = λ e. cc; elsewhere = λ m e. cc }

release_goes : (l : ℕ) (at : ReleaseAt) → GoesAs l (release_act l at) (release_going at)
release_goes l release.Enter = refl
release_goes l at = record { acts = refl; awake = λ e. cc; elsewhere = λ m e. cc }

goes : (l : ℕ) (at : SemaphorePlace) → GoesAs l (semaphore_act l at) (going at)
goes l (Acquire timed r at) = acquire_goes l at
goes l (Try at) = try_goes l at
goes l (Release at) = release_goes l at

-- ---------------------------------------------------------------- the test passes

abbrev Passes : ℕ → SemaphorePlace → Going → Bool
Passes l at g = keeps_row Semaphore (semaphore_profile at) ((semaphore_profile at).purpose l) g

-- for every deadline, woken or not
each : (f : Bool → Bool → Bool) → (f true true && (f true false && (f false true && f false false))) ≡ true
    → (timed r : Bool) → f timed r ≡ true
each f h timed r =
    let a = both (f true true) _ h in
    let b = both (f true false) _ a.1 in
    let c = both (f false true) _ b.1 in
    picks a.0 b.0 c.0 c.1 timed r
  where
    picks : f true true ≡ true → f true false ≡ true → f false true ≡ true → f false false ≡ true
        → (timed r : Bool) → f timed r ≡ true
    picks a b c d true true = a
    picks a b c d true false = b
    picks a b c d false true = c
    picks a b c d false false = d

acquire_passes : (l : ℕ) (timed r : Bool) (at : AcquireAt) → Passes l (Acquire timed r at) (acquire_going at)
    ≡ true
acquire_passes l timed r acquire.Load = each (λ timed r. Passes l (Acquire timed r acquire.Load) Other) refl
    timed r
acquire_passes l timed r (acquire.Decide seen) = decide (is_free seen) (seen == 0)
  where
    decide : (a b : Bool) → Passes l (Acquire timed r (acquire.Decide seen)) (decided_going a b) ≡ true
    decide true b = each (λ timed r. Passes l (Acquire timed r (acquire.Decide seen)) Other) refl timed r
    decide false true = each (λ timed r. Passes l (Acquire timed r (acquire.Decide seen)) Other) refl timed r
    decide false false = each (λ timed r. Passes l (Acquire timed r (acquire.Decide seen)) (Into Main)) refl
        timed r
acquire_passes l timed r acquire.Check = each (λ timed r. Passes l (Acquire timed r acquire.Check) Other) refl
    timed r
acquire_passes l timed r (acquire.Leave true) =
    each (λ timed r. Passes l (Acquire timed r (acquire.Leave true)) Other) refl timed r
acquire_passes l timed r (acquire.Leave false) =
    each (λ timed r. Passes l (Acquire timed r (acquire.Leave false)) Other) refl timed r
acquire_passes l timed r acquire.Asleep = each (λ timed r. Passes l (Acquire timed r acquire.Asleep) Asleep)
    refl timed r
acquire_passes l timed r (acquire.Taken by) =
    each (λ timed r. Passes l (Acquire timed r (acquire.Taken by)) Asleep) refl timed r
acquire_passes l timed r acquire.Remove = each (λ timed r. Passes l (Acquire timed r acquire.Remove) Other)
    refl timed r
acquire_passes l timed r acquire.Clear = each (λ timed r. Passes l (Acquire timed r acquire.Clear) Other) refl
    timed r
acquire_passes l timed r acquire.GiveUp = each (λ timed r. Passes l (Acquire timed r acquire.GiveUp) Other)
    refl timed r

release_passes : (l : ℕ) (at : ReleaseAt) → Passes l (Release at) (release_going at) ≡ true
release_passes l (release.Clear true) = refl
release_passes l (release.Clear false) = refl
release_passes l (release.Leave true) = refl
release_passes l (release.Leave false) = refl
release_passes l at = refl

passes : (l : ℕ) (at : SemaphorePlace) → Passes l at (going at) ≡ true
passes l (Acquire timed r at) = acquire_passes l timed r at
passes l (Try at) = refl
passes l (Release at) = release_passes l at

own : (l : ℕ) (at : SemaphorePlace) → lock_for ((semaphore_profile at).purpose l) ≡ l
own l (Acquire timed r at) = refl
own l (Try at) = refl
own l (Release at) = refl

pub semaphore_promises : SemaphoreRowsKeep
semaphore_promises l at = by_test Semaphore l (semaphore_profile at) (semaphore_act l at) (going at)
    (own l at) (goes l at) (passes l at)
