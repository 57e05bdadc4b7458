-- The laws of each step of a mutex, at one lock and in no machine: it may do what its deeds say, its
-- next place says what the thread does then, and it leaves the word and the owner after them.
use Rattle.std.specs.Prelude.{ℕ, Bool, true, Option, Some, None, ◌==◌, not, ◌≡◌, ◌≢◌, drop, is_none}
use Rattle.core_base.specs.declared.ops.Op.{Op}
use Rattle.core_base.specs.Words.{apply}
use Rattle.steps_base.specs.declared.acts.Act.TheVariants as act
use Rattle.steps_base.specs.declared.acts.Next.{Next}
use Rattle.steps_base.specs.declared.acts.Next.TheVariants as next
use Rattle.steps_base.specs.declared.acts.Reply.{Reply}
use Rattle.steps_base.specs.declared.acts.Reply.TheVariants.{Done, Value, Parked, Took, Removed, Late}
use Rattle.steps_base.specs.declared.owners.Owners.{Owners}
use Rattle.steps_base.specs.Calls.{CallFollows}
use Rattle.steps_base.specs.Moves.{IsSectionFree, StandsAlone}
use Rattle.steps_base.specs.Profiles.{Profile, bringing_nobody}
use Rattle.steps_base.specs.Rows.{RowPromises}
use Rattle.spec_locks.specs.Codes.{code}
use Rattle.spec_locks.specs.Deeds.{AllNeeded, after_all}
use Rattle.spec_locks.specs.Locks.{HasTakenNobody, IsSuccessor, Mutex, Queued, Rules, first_thread, standing}
use Rattle.spec_locks.specs.Sites.{Role, IsSite, Main, Site, idle, is_empty}
use Rattle.steps_mutex.specs.declared.places.MutexPlace.{MutexPlace}
use Rattle.steps_mutex.specs.declared.places.MutexPlace.TheVariants.{Lock, TryLock, Unlock, UnlockFair, Bump}
use Rattle.steps_mutex.specs.declared.places.MutexPlace.TheVariants.{HandOff}
use Rattle.steps_mutex.specs.declared.lock.Entry.{Entry}
use Rattle.steps_mutex.specs.declared.lock.LockAt.{LockAt}
use Rattle.steps_mutex.specs.declared.lock.LockAt.TheVariants as lock
use Rattle.steps_mutex.specs.declared.unlock.UnlockAt.{UnlockAt}
use Rattle.steps_mutex.specs.declared.unlock.UnlockAt.TheVariants as unlock
use Rattle.steps_mutex.specs.declared.hand_off.HandOffAt.{HandOffAt}
use Rattle.steps_mutex.specs.declared.hand_off.HandOffAt.TheVariants as hand_off
use Rattle.steps_mutex.specs.MutexDeeds.{mutex_deeds, queued}
use Rattle.steps_mutex.specs.MutexProfiles.{mutex_profile}
use Rattle.steps_mutex.specs.MutexSteps.{is_timed, mutex_act, mutex_next, mutex_owners}

-- ---------------------------------------------------------------- a thread at a place

-- the row of a place: no call of a mutex brings waiters of a condition variable
abbrev pub mutex_row : MutexPlace → Profile
mutex_row p = bringing_nobody (mutex_profile p)

abbrev pub mutex_role : MutexPlace → Role
mutex_role p = (mutex_row p).role

-- the state after a step, at its next place or in no call
abbrev pub role_next : Next MutexPlace → Role
role_next (next.At p) = mutex_role p
role_next (next.End answer) = idle

pub record IsAt (r : Rules) (s : Site) (t : ℕ) (p : MutexPlace) : Type 0 where
  pub sort : r.sort ≡ Mutex
  pub site : IsSite r s
  pub role : s.role t ≡ mutex_role p

-- ---------------------------------------------------------------- the notes that it may be told

-- the thread takes the first waiter, if there is one
pub record TakesFirst (s : Site) (whom : Option ℕ) (any none_left : Bool) : Type 0 where
  pub first : whom ≡ first_thread s.lock.queue
  pub some : any ≡ not (is_none whom)
  pub left : none_left ≡ is_empty (drop 1 s.lock.queue)

-- the thread to which a hand-off gives the mutex, if any
abbrev pub heir : Option ℕ → Option Queued
heir None = None
heir (Some u) = Some (queued u)

abbrev pub MayHearLocking : Rules → Site → ℕ → Entry → LockAt → Reply → Type 0
MayHearLocking r s t e lock.First (Value seen) = seen ≡ code r s
MayHearLocking r s t e lock.Load (Value seen) = seen ≡ code r s
MayHearLocking r s t e (lock.Decide expected) (Value seen) = seen ≡ code r s
MayHearLocking r s t e (lock.Decide expected) Done = IsSectionFree s Main
MayHearLocking r s t e lock.Check (Parked parked) =
    (parked ≡ (code r s == 3)) × (standing t s.lock ≡ 0)
MayHearLocking r s t e (lock.Leave parked) Done = s.lock.taken t ≡ None
MayHearLocking r s t e lock.Asleep Late = (is_timed e ≡ true) × IsSectionFree s Main
MayHearLocking r s t e lock.Accept Done = Unit {0}
MayHearLocking r s t e lock.Remove (Removed none_left) =
    (is_timed e ≡ true) × StandsAlone s t Main none_left
MayHearLocking r s t e lock.Clear (Value seen) = seen ≡ code r s
MayHearLocking r s t e lock.GiveUp Done = (is_timed e ≡ true) × (s.lock.taken t ≡ None)
MayHearLocking r s t e at told = ⊥

abbrev pub MayHearUnlocking : Rules → Site → ℕ → UnlockAt → Option ℕ → Reply → Type 0
MayHearUnlocking r s t unlock.Subtract whom (Value seen) = seen ≡ code r s
MayHearUnlocking r s t unlock.Enter whom Done = IsSectionFree s Main
MayHearUnlocking r s t unlock.Take whom (Took any none_left) =
    TakesFirst s whom any none_left × HasTakenNobody s.lock t
MayHearUnlocking r s t (unlock.Clear any) whom (Value seen) = seen ≡ code r s
MayHearUnlocking r s t (unlock.Leave any) whom Done = s.lock.taken t ≡ None
MayHearUnlocking r s t at whom told = ⊥

-- the waiter that it has in hand is the heir
abbrev pub MayHearHandingOff : Rules → Site → ℕ → HandOffAt → Option ℕ → Reply → Type 0
MayHearHandingOff r s t hand_off.Enter whom Done = IsSectionFree s Main
MayHearHandingOff r s t hand_off.Take whom (Took any none_left) =
    TakesFirst s whom any none_left × HasTakenNobody s.lock t
MayHearHandingOff r s t (hand_off.Store any none_left) whom (Value seen) =
    (seen ≡ code r s) × (any ≡ not (is_none whom)) × IsSuccessor s.lock t (heir whom)
    × (s.lock.taken t ≡ None)
MayHearHandingOff r s t (hand_off.Leave any) whom Done = s.lock.taken t ≡ None
MayHearHandingOff r s t at whom told = ⊥

abbrev pub MayReply : Rules → Site → ℕ → MutexPlace → Option ℕ → Reply → Type 0
MayReply r s t (Lock e retries at) whom told = MayHearLocking r s t e at told
MayReply r s t TryLock whom (Value seen) = seen ≡ code r s
MayReply r s t (Unlock at) whom told = MayHearUnlocking r s t at whom told
MayReply r s t UnlockFair whom (Value seen) = seen ≡ code r s
MayReply r s t Bump whom (Value seen) = seen ≡ code r s
MayReply r s t (HandOff bumps at) whom told = MayHearHandingOff r s t at whom told
MayReply r s t p whom told = ⊥

-- ---------------------------------------------------------------- the laws

-- the deeds of a reply may be done, and the next place says what the thread does then
pub record Follows (r : Rules) (s : Site) (t : ℕ) (p : MutexPlace) (whom : Option ℕ) (told : Reply)
    : Type 0 where
  pub needed : AllNeeded r (mutex_deeds p whom told) s t
  pub role : (after_all r (mutex_deeds p whom told) s t).role t ≡ role_next (mutex_next p told)

abbrev pub MutexStepsFollow : Type 0
MutexStepsFollow =
    (r : Rules) (s : Site) (t : ℕ) (p : MutexPlace) (whom : Option ℕ) (told : Reply) → IsAt r s t p
    → MayReply r s t p whom told
    → Follows r s t p whom told

-- the word that an operation leaves is the mutex's after the deeds
abbrev pub LeavesWord : Rules → Site → ℕ → MutexPlace → Option ℕ → Op → Type 0
LeavesWord r s t p whom op =
    apply op (code r s) ≡ code r (after_all r (mutex_deeds p whom (Value (code r s))) s t)

-- a step that hands nothing over does so, and leaves the owner of the mutex too
pub record LeavesMutex (r : Rules) (s : Site) (t : ℕ) (p : MutexPlace) (whom : Option ℕ) (op : Op)
    (o : Owners) : Type 0 where
  pub word : LeavesWord r s t p whom op
  pub owner : (mutex_owners p t (code r s) o).exclusive
      ≡ (after_all r (mutex_deeds p whom (Value (code r s))) s t).lock.exclusive

abbrev pub MutexStepsCode : Type 0
MutexStepsCode =
    (r : Rules) (s : Site) (t l : ℕ) (p : MutexPlace) (whom : Option ℕ) (op : Op) (o : Owners)
    → IsAt r s t p → MayReply r s t p whom (Value (code r s)) → mutex_act l p ≡ act.Word l op
    → o.exclusive ≡ s.lock.exclusive
    → LeavesMutex r s t p whom op o

-- A step that hands the mutex over makes the heir its owner.
pub record HandsOverToHeir (r : Rules) (s : Site) (t : ℕ) (p : MutexPlace) (whom : Option ℕ) (op : Op)
    : Type 0 where
  pub word : LeavesWord r s t p whom op
  pub owner : (after_all r (mutex_deeds p whom (Value (code r s))) s t).lock.exclusive ≡ whom
  pub some : not (is_none whom) ≡ true

abbrev pub MutexHandOversCode : Type 0
MutexHandOversCode =
    (r : Rules) (s : Site) (t l : ℕ) (p : MutexPlace) (whom : Option ℕ) (op : Op)
    → IsAt r s t p → MayReply r s t p whom (Value (code r s)) → mutex_act l p ≡ act.HandOver l op
    → HandsOverToHeir r s t p whom op

-- ---------------------------------------------------------------- a step's effect on its call

abbrev pub next_row : Next MutexPlace → Next Profile
next_row (next.At p) = next.At (mutex_row p)
next_row (next.End answer) = next.End answer

-- the row of the next place says it, the step is the case that the call is made of, and its answer
-- is true; that its time is up is no step of its own
abbrev pub MutexStepsTell : Type 0
MutexStepsTell =
    (r : Rules) (s : Site) (t l : ℕ) (p : MutexPlace) (whom : Option ℕ) (told : Reply)
    → IsAt r s t p → MayReply r s t p whom told → told ≢ Late
    → CallFollows r s.lock t l (mutex_row p) (mutex_deeds p whom told)
    (next_row (mutex_next p told))

-- ---------------------------------------------------------------- the conditions that the promises set a row

abbrev pub MutexRowsKeep : Type 0
MutexRowsKeep = (l : ℕ) (at : MutexPlace) → RowPromises Mutex l (mutex_row at) (mutex_act l at)
