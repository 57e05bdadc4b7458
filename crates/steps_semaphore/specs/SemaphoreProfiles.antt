-- The rows of the places of a semaphore. A row says all that is asked of a place's thread.
use Rattle.std.specs.Prelude.{ℕ, Bool, true, false, Option, Some, None, if◌then◌else◌}
use Rattle.core_base.specs.declared.wants.Want.{Want}
use Rattle.core_base.specs.declared.wants.Want.TheVariants.{Shared}
use Rattle.steps_base.specs.Profiles.{hand, hand_owner, in_hand, in_line, Profile, blank_row}
use Rattle.spec_locks.specs.Locks.{Rights}
use Rattle.spec_locks.specs.Purposes.{Enters, Releases}
use Rattle.spec_locks.specs.declared.calls.Patience.{Patience}
use Rattle.spec_locks.specs.declared.calls.Patience.TheVariants.{Patient, Timed, Try as OnlyTry}
use Rattle.spec_locks.specs.Runs.{one_more_at}
use Rattle.spec_locks.specs.Sites.{Role, Line, Has, Main, idle}
use Rattle.steps_semaphore.specs.declared.acquire.AcquireAt.{AcquireAt}
use Rattle.steps_semaphore.specs.declared.acquire.AcquireAt.TheVariants as acquire
use Rattle.steps_semaphore.specs.declared.release.ReleaseAt.{ReleaseAt}
use Rattle.steps_semaphore.specs.declared.release.ReleaseAt.TheVariants as release
use Rattle.steps_semaphore.specs.declared.places.SemaphorePlace.{SemaphorePlace}
use Rattle.steps_semaphore.specs.declared.places.SemaphorePlace.TheVariants.{Acquire, Try, Release}

-- ---------------------------------------------------------------- the role of a thread at the lock

abbrev pub permit_holder : Role
permit_holder = record idle { claims = Some (Has Shared) }

abbrev pub inside : Role
inside = record idle { inside = Some Main }

abbrev pub carrying : Role
carrying = record inside { has_taken = true; owes_taken = true }

abbrev pub with_retry : Bool → Role → Role
with_retry retries d = record d { retries = if retries then Some Shared else None }

-- ---------------------------------------------------------------- waiters for a permit

abbrev pub patience : Bool → Patience
patience timed = if timed then Timed else Patient

-- the thread's time was up, and it owes as anybody inside does
abbrev pub late_row : Profile → Profile
late_row row = record row { owes = Some Main; late = true }

abbrev pub acquire_row : Bool → Bool → AcquireAt → Profile
acquire_row timed retries acquire.Load = record blank_row { role = with_retry retries idle }
acquire_row timed retries (acquire.Decide seen) = record blank_row { role = with_retry retries idle }
acquire_row timed retries acquire.Check =
    record blank_row { role = with_retry retries inside; owes = Some Main }
acquire_row timed retries (acquire.Leave parked) =
    record blank_row {
      role = with_retry (if parked then false else retries) inside;
      stands = in_line parked Main;
      owes = Some Main;
    }
acquire_row timed retries acquire.Asleep =
    record blank_row { stands = Some Main; late_line = in_line timed Main }
acquire_row timed retries (acquire.Taken by) = record blank_row { hand = hand by false }
acquire_row timed retries acquire.Remove =
    late_row (record blank_row { role = inside; stands = Some Main })
acquire_row timed retries acquire.Clear =
    late_row (record blank_row { role = record inside { empty = Some Main }; gave_up = true })
acquire_row timed retries acquire.GiveUp = late_row (record blank_row { role = inside; gave_up = true })

abbrev pub acquiring : Bool → Bool → Profile → Profile
acquiring timed retries row = record row {
  wants = Some Shared;
  retries = retries;
  timed = timed;
  purpose = λ l. Enters l Shared (patience timed);
}

-- ---------------------------------------------------------------- a thread that gives one back

-- the thread's permits before its release, by what it holds now
abbrev pub before_release : ℕ → Bool → (ℕ → Rights) → ℕ → Rights
before_release l released rights = if released then one_more_at l Shared rights else rights

abbrev pub release_row : ReleaseAt → Profile
release_row release.Add = record blank_row { role = permit_holder }
release_row release.Enter =
    record blank_row { role = record idle { wakes = Some Main }; owes = Some Main; released = true }
release_row release.Take =
    record blank_row { role = record inside { wakes = Some Main }; owes = Some Main; released = true }
release_row (release.Clear any) =
    record blank_row {
      role = record carrying { empty = Some Main };
      has_taken = in_hand any false;
      owes = Some Main;
      released = true;
    }
release_row (release.Leave any) =
    record blank_row {
      role = carrying;
      has_taken = in_hand any false;
      owes = Some Main;
      released = true;
    }

abbrev pub releasing : Profile → Profile
releasing row = record row {
  purpose = λ l. Releases l Shared false;
  former = λ l. before_release l row.released;
}

-- ---------------------------------------------------------------- every place

abbrev pub semaphore_profile : SemaphorePlace → Profile
semaphore_profile (Acquire timed retries at) =
    acquiring timed retries (acquire_row timed retries at)
semaphore_profile (Try at) = record blank_row { purpose = λ l. Enters l Shared OnlyTry }
semaphore_profile (Release at) = releasing (release_row at)

-- the thread that took this one and has not left its section yet
abbrev pub semaphore_taker : SemaphorePlace → Option ℕ
semaphore_taker at = hand_owner (semaphore_profile at).hand

-- the want of the thread, where it waits
abbrev pub semaphore_wants : SemaphorePlace → Option Want
semaphore_wants at = (semaphore_profile at).wants

-- the line in which the thread sleeps in a call that may give up
abbrev pub semaphore_late_line : SemaphorePlace → Option Line
semaphore_late_line at = (semaphore_profile at).late_line

-- from the step that saw waiters, or from entering the section, until the section is left
abbrev pub semaphore_owes : SemaphorePlace → Option Line
semaphore_owes at = (semaphore_profile at).owes

abbrev pub semaphore_retries : SemaphorePlace → Bool
semaphore_retries at = (semaphore_profile at).retries
