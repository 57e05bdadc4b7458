-- The steps of a semaphore: what a thread does at each place, and where each reply leads it.
use Rattle.std.specs.Prelude.{ℕ, Bool, true, false, Option, Some, None, if◌then◌else◌, ◌==◌, not, ◌&&◌, ◌-◌}
use Rattle.std.specs.Prelude.{◌*◌, ◌/◌}
use Rattle.core_base.specs.declared.keys.Keys.TheVariants.{One}
use Rattle.core_base.specs.declared.notes.Note.TheVariants.{Normal}
use Rattle.core_base.specs.declared.wants.Want.TheVariants.{Shared}
use Rattle.core_base.specs.declared.ops.Op.TheVariants as op
use Rattle.core_base.specs.Words.{apply}
use Rattle.spec_locks.specs.declared.calls.Patience.TheVariants.{Patient, Timed, Try as OnlyTry}
use Rattle.spec_locks.specs.declared.calls.SemaphoreCall.{SemaphoreCall}
use Rattle.spec_locks.specs.declared.calls.SemaphoreCall.TheVariants as call
use Rattle.spec_locks.specs.declared.outcomes.Answer.{Answer}
use Rattle.spec_locks.specs.declared.outcomes.Answer.TheVariants as answer
use Rattle.steps_base.specs.declared.acts.Act.{Act}
use Rattle.steps_base.specs.declared.acts.Act.TheVariants as act
use Rattle.steps_base.specs.declared.acts.Check.TheVariants.{WordIs}
use Rattle.steps_base.specs.declared.acts.Wakes.TheVariants.{Nobody}
use Rattle.steps_base.specs.declared.acts.TakeWhich.TheVariants.{First}
use Rattle.steps_base.specs.declared.acts.Reply.{Reply}
use Rattle.steps_base.specs.declared.acts.Reply.TheVariants.{Done, Value, Parked, Took, Removed, TakenBy}
use Rattle.steps_base.specs.declared.acts.Reply.TheVariants.{Late, Woken}
use Rattle.steps_base.specs.declared.acts.Next.{Next}
use Rattle.steps_base.specs.declared.acts.Next.TheVariants.{At, End}
use Rattle.steps_base.specs.Acts.{wakes_taken}
use Rattle.spec_locks.specs.Codes.{has_parked}
use Rattle.steps_semaphore.specs.declared.acquire.AcquireAt.{AcquireAt}
use Rattle.steps_semaphore.specs.declared.acquire.AcquireAt.TheVariants as acquire
use Rattle.steps_semaphore.specs.declared.tries.TryAt.{TryAt}
use Rattle.steps_semaphore.specs.declared.tries.TryAt.TheVariants as tries
use Rattle.steps_semaphore.specs.declared.release.ReleaseAt.{ReleaseAt}
use Rattle.steps_semaphore.specs.declared.release.ReleaseAt.TheVariants as release
use Rattle.steps_semaphore.specs.declared.places.TheConstants.{NOT_PARKED}
use Rattle.steps_semaphore.specs.declared.places.SemaphorePlace.{SemaphorePlace}
use Rattle.steps_semaphore.specs.declared.places.SemaphorePlace.TheVariants.{Acquire, Try, Release}

-- the word: 1 where a thread may be parked, and 2 for each permit that is free
abbrev pub free_permits : ℕ → ℕ
free_permits word = word / 2

abbrev pub is_free : ℕ → Bool
is_free word = not (free_permits word == 0)

-- where a call begins
abbrev pub semaphore_first : SemaphoreCall → SemaphorePlace
semaphore_first (call.Acquire Patient) = Acquire false false acquire.Load
semaphore_first (call.Acquire Timed) = Acquire true false acquire.Load
semaphore_first (call.Acquire OnlyTry) = Try tries.Load
semaphore_first call.Release = Release release.Add

-- whether a thread that holds so many permits has what the call needs
abbrev pub semaphore_right : SemaphoreCall → ℕ → Bool
semaphore_right (call.Acquire how) shares = true
semaphore_right call.Release shares = not (shares == 0)

-- ---------------------------------------------------------------- the acts of a thread

-- a free permit is taken; where none is free the bit is set, and where that was done the thread
-- parks
abbrev pub decided : ℕ → ℕ → Act
decided l seen =
    if is_free seen then act.Word l (op.Exchange seen (seen - 2))
    else if seen == 0 then act.Word l (op.Exchange 0 1)
    else act.Enter (One (2 * l))

abbrev pub acquire_act : ℕ → AcquireAt → Act
acquire_act l acquire.Load = act.Word l op.Load
acquire_act l (acquire.Decide seen) = decided l seen
acquire_act l acquire.Check = act.Park l (2 * l) (WordIs 1) Shared
acquire_act l (acquire.Leave parked) = act.Leave (One (2 * l)) Nobody
acquire_act l acquire.Asleep = act.Sleep
acquire_act l (acquire.Taken by) = act.Sleep
acquire_act l acquire.Remove = act.Remove (2 * l)
acquire_act l acquire.Clear = act.Word l (op.And NOT_PARKED)
acquire_act l acquire.GiveUp = act.Leave (One (2 * l)) Nobody

abbrev pub try_act : ℕ → TryAt → Act
try_act l tries.Load = act.Word l op.Load
try_act l (tries.Decide seen) =
    if is_free seen then act.Word l (op.Exchange seen (seen - 2)) else act.Word l op.Load

abbrev pub release_act : ℕ → ReleaseAt → Act
release_act l release.Add = act.Word l (op.Add 2)
release_act l release.Enter = act.Enter (One (2 * l))
release_act l release.Take = act.Take (2 * l) First
release_act l (release.Clear any) = act.Word l (op.And NOT_PARKED)
release_act l (release.Leave any) = act.Leave (One (2 * l)) (wakes_taken any Normal)

abbrev pub semaphore_act : ℕ → SemaphorePlace → Act
semaphore_act l (Acquire timed retries at) = acquire_act l at
semaphore_act l (Try at) = try_act l at
semaphore_act l (Release at) = release_act l at

-- ---------------------------------------------------------------- where a reply leads

-- a timed call tells by yes that it holds its permit
abbrev pub acquired : Bool → Answer
acquired timed = if timed then answer.Yes else answer.Ok

abbrev pub next_acquire : Bool → AcquireAt → Reply → Next AcquireAt
next_acquire timed acquire.Load (Value seen) = At (acquire.Decide seen)
next_acquire timed (acquire.Decide expected) (Value seen) =
    if not (seen == expected) then At (acquire.Decide seen)
    else if is_free seen then End (acquired timed)
    else At (acquire.Decide 1)
next_acquire timed (acquire.Decide expected) Done = At acquire.Check
next_acquire timed acquire.Check (Parked parked) = At (acquire.Leave parked)
next_acquire timed (acquire.Leave parked) Done =
    if parked then At acquire.Asleep else At acquire.Load
next_acquire timed acquire.Asleep (TakenBy by) = At (acquire.Taken by)
next_acquire timed acquire.Asleep (Woken Normal) = At acquire.Load
next_acquire timed (acquire.Taken by) (Woken Normal) = At acquire.Load
next_acquire timed acquire.Asleep Late = At acquire.Remove
next_acquire timed acquire.Remove (Removed none_left) =
    if none_left then At acquire.Clear else At acquire.GiveUp
next_acquire timed acquire.Clear (Value seen) = At acquire.GiveUp
next_acquire timed acquire.GiveUp Done = End answer.No
next_acquire timed at reply = At at

-- from a wake note until it stands in the queue again or holds a permit
abbrev pub still_retries : Bool → Reply → Bool
still_retries retries (Woken Normal) = true
still_retries retries (Parked parked) = retries && not parked
still_retries retries reply = retries

abbrev pub looked : ℕ → Next TryAt
looked seen = if is_free seen then At (tries.Decide seen) else End answer.No

abbrev pub next_try : TryAt → Reply → Next TryAt
next_try tries.Load (Value seen) = looked seen
next_try (tries.Decide expected) (Value seen) =
    if (seen == expected) && is_free seen then End answer.Yes else looked seen
next_try at reply = At at

abbrev pub next_release : ReleaseAt → Reply → Next ReleaseAt
next_release release.Add (Value seen) =
    if has_parked seen then At release.Enter else End answer.Ok
next_release release.Enter Done = At release.Take
next_release release.Take (Took any none_left) =
    if none_left then At (release.Clear any) else At (release.Leave any)
next_release (release.Clear any) (Value seen) = At (release.Leave any)
next_release (release.Leave any) Done = End answer.Ok
next_release at reply = At at

abbrev pub in_acquire : Bool → Bool → Next AcquireAt → Next SemaphorePlace
in_acquire timed retries (At at) = At (Acquire timed retries at)
in_acquire timed retries (End answer) = End answer

abbrev pub in_try : Next TryAt → Next SemaphorePlace
in_try (At at) = At (Try at)
in_try (End answer) = End answer

abbrev pub in_release : Next ReleaseAt → Next SemaphorePlace
in_release (At at) = At (Release at)
in_release (End answer) = End answer

abbrev pub semaphore_next : SemaphorePlace → Reply → Next SemaphorePlace
semaphore_next (Acquire timed retries at) reply =
    in_acquire timed (still_retries retries reply) (next_acquire timed at reply)
semaphore_next (Try at) reply = in_try (next_try at reply)
semaphore_next (Release at) reply = in_release (next_release at reply)

-- from where a thread looks at the word once more, in place of the act that would set the bit
abbrev pub semaphore_respin : SemaphorePlace → Option SemaphorePlace
semaphore_respin (Acquire timed retries (acquire.Decide seen)) =
    if seen == 0 then Some (Acquire timed retries acquire.Load) else None
semaphore_respin at = None

-- ---------------------------------------------------------------- holders of permits

-- an exchange that found a free permit, as it expected, took it
abbrev pub permits_taken : ℕ → ℕ → ℕ → Option ℕ
permits_taken expected seen shares =
    if (seen == expected) && is_free seen then Some (apply (op.Add 1) shares) else None

abbrev pub acquire_shares : AcquireAt → ℕ → ℕ → Option ℕ
acquire_shares (acquire.Decide expected) seen shares = permits_taken expected seen shares
acquire_shares at seen shares = None

abbrev pub try_shares : TryAt → ℕ → ℕ → Option ℕ
try_shares (tries.Decide expected) seen shares = permits_taken expected seen shares
try_shares at seen shares = None

abbrev pub release_shares : ReleaseAt → ℕ → Option ℕ
release_shares release.Add shares = Some (shares - 1)
release_shares at shares = None

-- how many permits the thread holds after an operation on the word that saw this value, where their
-- number changes
abbrev pub semaphore_shares : SemaphorePlace → ℕ → ℕ → Option ℕ
semaphore_shares (Acquire timed retries at) seen shares = acquire_shares at seen shares
semaphore_shares (Try at) seen shares = try_shares at seen shares
semaphore_shares (Release at) seen shares = release_shares at shares
