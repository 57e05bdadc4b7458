-- The deeds of each place of a mutex: the effects of a step on it.
use Rattle.std.specs.Prelude.{ℕ, Bool, true, Option, Some, None, if◌then◌else◌, ◌==◌, not, List, [], ◌∷◌}
use Rattle.core_base.specs.declared.wants.Want.TheVariants.{Exclusive}
use Rattle.steps_mutex.specs.declared.places.MutexPlace.{MutexPlace}
use Rattle.steps_mutex.specs.declared.places.MutexPlace.TheVariants.{Lock, TryLock, Unlock, UnlockFair, Bump}
use Rattle.steps_mutex.specs.declared.places.MutexPlace.TheVariants.{HandOff}
use Rattle.steps_mutex.specs.declared.lock.LockAt.{LockAt}
use Rattle.steps_mutex.specs.declared.lock.LockAt.TheVariants as lock
use Rattle.steps_mutex.specs.declared.unlock.UnlockAt.{UnlockAt}
use Rattle.steps_mutex.specs.declared.unlock.UnlockAt.TheVariants as unlock
use Rattle.steps_mutex.specs.declared.hand_off.HandOffAt.{HandOffAt}
use Rattle.steps_mutex.specs.declared.hand_off.HandOffAt.TheVariants as hand_off
use Rattle.steps_base.specs.declared.acts.Reply.{Reply}
use Rattle.steps_base.specs.declared.acts.Reply.TheVariants.{Done, Value, Parked, Took, Removed, Late}
use Rattle.steps_mutex.specs.MutexSteps.{is_locked, is_parked}
use Rattle.spec_locks.specs.Locks.{Queued, Enter, Leave, Park, TakeFirst, HandOff as HandsOff}
use Rattle.spec_locks.specs.Locks.{Late as GivesUp}
use Rattle.spec_locks.specs.Sites.{Main, Deed, End, In, Out, Mark, Clear, FindNobody, Case}

abbrev pub enter_deeds : List Deed
enter_deeds = Case (Enter Exclusive) ∷ End ∷ []

abbrev pub lock_deeds : LockAt → Reply → List Deed
lock_deeds lock.First (Value seen) = if seen == 0 then enter_deeds else []
lock_deeds (lock.Decide expected) (Value seen) =
    if not (seen == expected) then [] else if is_locked seen then Mark Main ∷ [] else enter_deeds
lock_deeds (lock.Decide expected) Done = In Main ∷ []
lock_deeds lock.Check (Parked true) = Case (Park Exclusive) ∷ []
lock_deeds (lock.Leave parked) Done = Out ∷ []
lock_deeds lock.Asleep Late = In Main ∷ []
lock_deeds lock.Accept Done = End ∷ []
lock_deeds lock.Remove (Removed none_left) = Case GivesUp ∷ []
lock_deeds lock.Clear (Value seen) = Clear Main ∷ []
lock_deeds lock.GiveUp Done = Out ∷ []
lock_deeds at reply = []

abbrev pub queued : ℕ → Queued
queued u = record { thread = u; want = Exclusive }

abbrev pub take_deeds : Option ℕ → List Deed
take_deeds None = FindNobody Main ∷ []
take_deeds (Some u) = Case (TakeFirst (queued u)) ∷ []

-- The thread that is taken or handed the lock, if any, is no part of a place: `whom`.
abbrev pub unlock_deeds : UnlockAt → Option ℕ → Reply → List Deed
unlock_deeds unlock.Subtract whom (Value seen) =
    Case (Leave Exclusive) ∷ (if is_parked seen then [] else End ∷ [])
unlock_deeds unlock.Enter whom Done = In Main ∷ []
unlock_deeds unlock.Take whom (Took any none_left) = take_deeds whom
unlock_deeds (unlock.Clear any) whom (Value seen) = Clear Main ∷ []
unlock_deeds (unlock.Leave any) whom Done = Out ∷ []
unlock_deeds at whom reply = []

-- the store writes the bit anew
abbrev pub handing_deeds : Option ℕ → Bool → List Deed
handing_deeds None none_left = Case (HandsOff Exclusive None) ∷ Clear Main ∷ []
handing_deeds (Some u) none_left =
    Case (HandsOff Exclusive (Some (queued u))) ∷ (if none_left then Clear Main else Mark Main) ∷ []

abbrev pub hand_off_deeds : Bool → HandOffAt → Option ℕ → Reply → List Deed
hand_off_deeds bumps hand_off.Enter whom Done = In Main ∷ []
hand_off_deeds bumps hand_off.Take whom (Took any none_left) = take_deeds whom
hand_off_deeds bumps (hand_off.Store any none_left) whom (Value seen) = handing_deeds whom none_left
hand_off_deeds bumps (hand_off.Leave any) whom Done = Out ∷ []
hand_off_deeds bumps at whom reply = []

abbrev pub mutex_deeds : MutexPlace → Option ℕ → Reply → List Deed
mutex_deeds (Lock e retries at) whom reply = lock_deeds at reply
mutex_deeds TryLock whom (Value seen) = if is_locked seen then End ∷ [] else enter_deeds
mutex_deeds (Unlock at) whom reply = unlock_deeds at whom reply
mutex_deeds UnlockFair whom (Value seen) =
    if seen == 1 then Case (Leave Exclusive) ∷ End ∷ [] else []
mutex_deeds Bump whom (Value seen) = if is_parked seen then [] else End ∷ []
mutex_deeds (HandOff bumps at) whom reply = hand_off_deeds bumps at whom reply
mutex_deeds at whom reply = []
