-- The laws of each step of a semaphore, at one lock and in no machine: it may do what its deeds say,
-- its next place says what the thread does then, and it leaves the word and the permits after them.
use Rattle.std.specs.Prelude.{ℕ, Bool, true, Option, None, ◌==◌, not, ◌≡◌, ◌≢◌, ◌<◌, ◌≤◌, ◌^◌, drop, is_none}
use Rattle.std.specs.Prelude.{length, slice_index}
use Rattle.core_base.specs.declared.ops.Op.{Op}
use Rattle.core_base.specs.Words.{apply}
use Rattle.steps_base.specs.declared.acts.Act.TheVariants as act
use Rattle.steps_base.specs.declared.acts.Next.{Next}
use Rattle.steps_base.specs.declared.acts.Next.TheVariants as next
use Rattle.steps_base.specs.declared.acts.Reply.{Reply}
use Rattle.steps_base.specs.declared.acts.Reply.TheVariants.{Done, Value, Parked, Took, Removed, Late}
use Rattle.steps_base.specs.Calls.{CallFollows}
use Rattle.steps_base.specs.Moves.{IsSectionFree, StandsAlone}
use Rattle.steps_base.specs.Owners.{shares_then}
use Rattle.steps_base.specs.Profiles.{Profile}
use Rattle.steps_base.specs.Rows.{RowPromises}
use Rattle.spec_locks.specs.Codes.{code}
use Rattle.spec_locks.specs.Deeds.{AllNeeded, after_all}
use Rattle.spec_locks.specs.Locks.{HasTakenNobody, Rules, Semaphore, first_thread, readers, standing}
use Rattle.spec_locks.specs.Sites.{Role, IsSite, Main, Site, idle, is_empty}
use Rattle.steps_semaphore.specs.declared.acquire.AcquireAt.{AcquireAt}
use Rattle.steps_semaphore.specs.declared.acquire.AcquireAt.TheVariants as acquire
use Rattle.steps_semaphore.specs.declared.tries.TryAt.{TryAt}
use Rattle.steps_semaphore.specs.declared.tries.TryAt.TheVariants as tries
use Rattle.steps_semaphore.specs.declared.release.ReleaseAt.{ReleaseAt}
use Rattle.steps_semaphore.specs.declared.release.ReleaseAt.TheVariants as release
use Rattle.steps_semaphore.specs.declared.places.SemaphorePlace.{SemaphorePlace}
use Rattle.steps_semaphore.specs.declared.places.SemaphorePlace.TheVariants.{Acquire, Try, Release}
use Rattle.steps_semaphore.specs.SemaphoreDeeds.{semaphore_deeds}
use Rattle.steps_semaphore.specs.SemaphoreProfiles.{semaphore_profile}
use Rattle.steps_semaphore.specs.SemaphoreSteps.{semaphore_act, semaphore_next, semaphore_shares}

-- ---------------------------------------------------------------- a thread at a place

abbrev pub semaphore_role : SemaphorePlace → Role
semaphore_role p = (semaphore_profile p).role

-- the state after a step, at its next place or in no call
abbrev pub role_next : Next SemaphorePlace → Role
role_next (next.At p) = semaphore_role p
role_next (next.End answer) = idle

-- a thread of the lot, at a semaphore of 2 ^ 62 permits at most, of which no more are held
pub record IsAt (r : Rules) (s : Site) (t : ℕ) (p : SemaphorePlace) : Type 0 where
  pub sort : r.sort ≡ Semaphore
  pub small : r.limit ≤ 2 ^ 62
  pub site : IsSite r s
  pub few : readers s.lock ≤ r.limit
  pub here : t < length s.lock.shared
  pub role : s.role t ≡ semaphore_role p

-- ---------------------------------------------------------------- the notes that it may be told

-- the thread takes the first waiter, if there is one
pub record TakesFirst (s : Site) (whom : Option ℕ) (any none_left : Bool) : Type 0 where
  pub first : whom ≡ first_thread s.lock.queue
  pub some : any ≡ not (is_none whom)
  pub left : none_left ≡ is_empty (drop 1 s.lock.queue)

abbrev pub MayHearAcquiring : Rules → Site → ℕ → Bool → AcquireAt → Reply → Type 0
MayHearAcquiring r s t timed acquire.Load (Value seen) = seen ≡ code r s
MayHearAcquiring r s t timed (acquire.Decide expected) (Value seen) = seen ≡ code r s
MayHearAcquiring r s t timed (acquire.Decide expected) Done = IsSectionFree s Main
MayHearAcquiring r s t timed acquire.Check (Parked parked) =
    (parked ≡ (code r s == 1)) × (standing t s.lock ≡ 0)
MayHearAcquiring r s t timed (acquire.Leave parked) Done = s.lock.taken t ≡ None
MayHearAcquiring r s t timed acquire.Asleep Late = (timed ≡ true) × IsSectionFree s Main
MayHearAcquiring r s t timed acquire.Remove (Removed none_left) =
    (timed ≡ true) × StandsAlone s t Main none_left
MayHearAcquiring r s t timed acquire.Clear (Value seen) = seen ≡ code r s
MayHearAcquiring r s t timed acquire.GiveUp Done = (timed ≡ true) × (s.lock.taken t ≡ None)
MayHearAcquiring r s t timed at told = ⊥

abbrev pub MayHearTrying : Rules → Site → TryAt → Reply → Type 0
MayHearTrying r s tries.Load (Value seen) = seen ≡ code r s
MayHearTrying r s (tries.Decide expected) (Value seen) = seen ≡ code r s
MayHearTrying r s at told = ⊥

abbrev pub MayHearReleasing : Rules → Site → ℕ → ReleaseAt → Option ℕ → Reply → Type 0
MayHearReleasing r s t release.Add whom (Value seen) = seen ≡ code r s
MayHearReleasing r s t release.Enter whom Done = IsSectionFree s Main
MayHearReleasing r s t release.Take whom (Took any none_left) =
    TakesFirst s whom any none_left × HasTakenNobody s.lock t
MayHearReleasing r s t (release.Clear any) whom (Value seen) = seen ≡ code r s
MayHearReleasing r s t (release.Leave any) whom Done = s.lock.taken t ≡ None
MayHearReleasing r s t at whom told = ⊥

abbrev pub MayReply : Rules → Site → ℕ → SemaphorePlace → Option ℕ → Reply → Type 0
MayReply r s t (Acquire timed retries at) whom told = MayHearAcquiring r s t timed at told
MayReply r s t (Try at) whom told = MayHearTrying r s at told
MayReply r s t (Release at) whom told = MayHearReleasing r s t at whom told

-- ---------------------------------------------------------------- the laws

-- the deeds of a reply may be done, and the next place says what the thread does then
pub record Follows (r : Rules) (s : Site) (t : ℕ) (p : SemaphorePlace) (whom : Option ℕ)
    (told : Reply) : Type 0 where
  pub needed : AllNeeded r (semaphore_deeds p whom told) s t
  pub role : (after_all r (semaphore_deeds p whom told) s t).role t
      ≡ role_next (semaphore_next p told)

abbrev pub SemaphoreStepsFollow : Type 0
SemaphoreStepsFollow =
    (r : Rules) (s : Site) (t : ℕ) (p : SemaphorePlace) (whom : Option ℕ) (told : Reply)
    → IsAt r s t p → MayReply r s t p whom told
    → Follows r s t p whom told

-- the word that an operation leaves is the semaphore's after the deeds, and so are the permits that
-- each thread holds
pub record LeavesWord (r : Rules) (s : Site) (t : ℕ) (p : SemaphorePlace) (whom : Option ℕ)
    (op : Op) : Type 0 where
  pub word : apply op (code r s)
      ≡ code r (after_all r (semaphore_deeds p whom (Value (code r s))) s t)
  pub permits : shares_then s.lock.shared t
      (semaphore_shares p (code r s) (slice_index s.lock.shared t))
      ≡ (after_all r (semaphore_deeds p whom (Value (code r s))) s t).lock.shared

abbrev pub SemaphoreStepsCode : Type 0
SemaphoreStepsCode =
    (r : Rules) (s : Site) (t l : ℕ) (p : SemaphorePlace) (whom : Option ℕ) (op : Op)
    → IsAt r s t p → MayReply r s t p whom (Value (code r s)) → semaphore_act l p ≡ act.Word l op
    → LeavesWord r s t p whom op

-- ---------------------------------------------------------------- a step's effect on its call

abbrev pub next_row : Next SemaphorePlace → Next Profile
next_row (next.At p) = next.At (semaphore_profile p)
next_row (next.End answer) = next.End answer

-- the row of the next place says it, the step is the case that the call is made of, and its answer
-- is true; that its time is up is no step of its own
abbrev pub SemaphoreStepsTell : Type 0
SemaphoreStepsTell =
    (r : Rules) (s : Site) (t l : ℕ) (p : SemaphorePlace) (whom : Option ℕ) (told : Reply)
    → IsAt r s t p → MayReply r s t p whom told → told ≢ Late
    → CallFollows r s.lock t l (semaphore_profile p) (semaphore_deeds p whom told)
    (next_row (semaphore_next p told))

-- ---------------------------------------------------------------- the conditions that the promises set a row

abbrev pub SemaphoreRowsKeep : Type 0
SemaphoreRowsKeep =
    (l : ℕ) (at : SemaphorePlace) → RowPromises Semaphore l (semaphore_profile at)
    (semaphore_act l at)
