-- The deeds of each place of a semaphore: the effects of a step on it.
use Rattle.std.specs.Prelude.{ℕ, true, Option, Some, None, if◌then◌else◌, ◌==◌, not, ◌&&◌, List, [], ◌∷◌}
use Rattle.core_base.specs.declared.wants.Want.TheVariants.{Shared}
use Rattle.steps_base.specs.declared.acts.Reply.{Reply}
use Rattle.steps_base.specs.declared.acts.Reply.TheVariants.{Done, Value, Parked, Took, Removed, Late}
use Rattle.spec_locks.specs.Codes.{has_parked}
use Rattle.spec_locks.specs.Locks.{Queued, Enter, Leave, Park, TakeFirst, Late as GivesUp}
use Rattle.spec_locks.specs.Sites.{Main, Deed, End, In, Out, Mark, Clear, FindNobody, Case}
use Rattle.steps_semaphore.specs.declared.acquire.AcquireAt.{AcquireAt}
use Rattle.steps_semaphore.specs.declared.acquire.AcquireAt.TheVariants as acquire
use Rattle.steps_semaphore.specs.declared.tries.TryAt.{TryAt}
use Rattle.steps_semaphore.specs.declared.tries.TryAt.TheVariants as tries
use Rattle.steps_semaphore.specs.declared.release.ReleaseAt.{ReleaseAt}
use Rattle.steps_semaphore.specs.declared.release.ReleaseAt.TheVariants as release
use Rattle.steps_semaphore.specs.declared.places.SemaphorePlace.{SemaphorePlace}
use Rattle.steps_semaphore.specs.declared.places.SemaphorePlace.TheVariants.{Acquire, Try, Release}
use Rattle.steps_semaphore.specs.SemaphoreSteps.{is_free}

abbrev pub enter_deeds : List Deed
enter_deeds = Case (Enter Shared) ∷ End ∷ []

abbrev pub acquire_deeds : AcquireAt → Reply → List Deed
acquire_deeds (acquire.Decide expected) (Value seen) =
    if not (seen == expected) then [] else if is_free seen then enter_deeds else Mark Main ∷ []
acquire_deeds (acquire.Decide expected) Done = In Main ∷ []
acquire_deeds acquire.Check (Parked true) = Case (Park Shared) ∷ []
acquire_deeds (acquire.Leave parked) Done = Out ∷ []
acquire_deeds acquire.Asleep Late = In Main ∷ []
acquire_deeds acquire.Remove (Removed none_left) = Case GivesUp ∷ []
acquire_deeds acquire.Clear (Value seen) = Clear Main ∷ []
acquire_deeds acquire.GiveUp Done = Out ∷ []
acquire_deeds at reply = []

-- a try ends where no permit is free
abbrev pub looked_deeds : ℕ → List Deed
looked_deeds seen = if is_free seen then [] else End ∷ []

abbrev pub try_deeds : TryAt → Reply → List Deed
try_deeds tries.Load (Value seen) = looked_deeds seen
try_deeds (tries.Decide expected) (Value seen) =
    if (seen == expected) && is_free seen then enter_deeds else looked_deeds seen
try_deeds at reply = []

abbrev pub queued : ℕ → Queued
queued u = record { thread = u; want = Shared }

abbrev pub take_deeds : Option ℕ → List Deed
take_deeds None = FindNobody Main ∷ []
take_deeds (Some u) = Case (TakeFirst (queued u)) ∷ []

-- the thread that is taken, if any, is no part of a place: `whom`
abbrev pub release_deeds : ReleaseAt → Option ℕ → Reply → List Deed
release_deeds release.Add whom (Value seen) =
    Case (Leave Shared) ∷ (if has_parked seen then [] else End ∷ [])
release_deeds release.Enter whom Done = In Main ∷ []
release_deeds release.Take whom (Took any none_left) = take_deeds whom
release_deeds (release.Clear any) whom (Value seen) = Clear Main ∷ []
release_deeds (release.Leave any) whom Done = Out ∷ []
release_deeds at whom reply = []

abbrev pub semaphore_deeds : SemaphorePlace → Option ℕ → Reply → List Deed
semaphore_deeds (Acquire timed retries at) whom reply = acquire_deeds at reply
semaphore_deeds (Try at) whom reply = try_deeds at reply
semaphore_deeds (Release at) whom reply = release_deeds at whom reply
