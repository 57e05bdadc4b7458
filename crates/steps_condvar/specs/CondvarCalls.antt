-- The effect of each step in a call of a condition variable on that call. The call is made of what
-- the step does to the two locks. The rows of the next place are what that makes of it, and its
-- answer is true. An event that befalls a waiter makes of its call what its next row says.
use Rattle.std.specs.Prelude.{ℕ, Bool, true, false, Option, Some, None, if◌then◌else◌, ◌==◌, ◌≡◌, ◌≢◌, ◌≤◌}
use Rattle.std.specs.Prelude.{List, ◌∷◌}
use Rattle.core_base.specs.declared.notes.Note.TheVariants.{Normal}
use Rattle.core_base.specs.declared.wants.Want.TheVariants.{Exclusive, Wait as WaitHere}
use Rattle.steps_base.specs.declared.acts.Next.{Next}
use Rattle.steps_base.specs.declared.acts.Next.TheVariants.{At, End as Over}
use Rattle.steps_base.specs.declared.acts.Reply.{Reply}
use Rattle.steps_base.specs.declared.acts.Reply.TheVariants.{Done, Value, Took, Requeued, HandedBy, Late}
use Rattle.steps_base.specs.declared.acts.Reply.TheVariants.{Woken}
use Rattle.steps_base.specs.Calls.{MayCome, call_of_two, rights_where}
use Rattle.steps_base.specs.Profiles.{Profile}
use Rattle.spec_locks.specs.Condvars as condvars
use Rattle.spec_locks.specs.Condvars.{CondvarDeed, CondvarSite, IsCondvar, LeaveList, Show, StandLast}
use Rattle.spec_locks.specs.Deeds.{after_all, event_by, event_of}
use Rattle.spec_locks.specs.Locks as locks
use Rattle.spec_locks.specs.Locks.{LockCase, LockState, Mutex, OfCondvar, Park, Rights, Rules, SeeOwner, Wake}
use Rattle.spec_locks.specs.Locks.{rights_of}
use Rattle.spec_locks.specs.Purposes.{Notifies, SawOwner, WasMoved}
use Rattle.spec_locks.specs.Runs.{AnswerHolds, AtLock, CallState, Event, LocksState, Moves, Nothing}
use Rattle.spec_locks.specs.Runs.{after_wake, going_on, one_more_at, rights_in}
use Rattle.spec_locks.specs.Sites.{IsSite, Site}
use Rattle.steps_mutex.specs.declared.lock.Entry.TheVariants as entry
use Rattle.steps_mutex.specs.declared.lock.LockAt.{LockAt}
use Rattle.steps_mutex.specs.declared.lock.LockAt.TheVariants as lock
use Rattle.steps_mutex.specs.declared.places.MutexPlace.{MutexPlace}
use Rattle.steps_mutex.specs.declared.places.MutexPlace.TheVariants as mutex
use Rattle.steps_mutex.specs.MutexProfiles.{mutex_profile}
use Rattle.steps_mutex.specs.MutexSteps.{is_locked}
use Rattle.steps_condvar.specs.declared.notify.NotifyAt.{NotifyAt}
use Rattle.steps_condvar.specs.declared.notify.NotifyAt.TheVariants as notify
use Rattle.steps_condvar.specs.declared.places.CondvarPlace.{CondvarPlace}
use Rattle.steps_condvar.specs.declared.places.CondvarPlace.TheVariants.{Wait, Look, Notify}
use Rattle.steps_condvar.specs.declared.wait.WaiterFate.{WaiterFate}
use Rattle.steps_condvar.specs.declared.wait.WaiterFate.TheVariants as stands
use Rattle.steps_condvar.specs.declared.wait.WaitAt.{WaitAt}
use Rattle.steps_condvar.specs.declared.wait.WaitAt.TheVariants as wait
use Rattle.steps_condvar.specs.CondvarSteps.{condvar_next, mutex_shown, next_wait}
use Rattle.steps_condvar.specs.CondvarProfiles.{condvar_profile, has_mutex, may_give_up, mutex_side}
use Rattle.steps_condvar.specs.CondvarProfiles.{notify_row, wait_carries, wait_row}
use Rattle.steps_condvar.specs.CondvarDeeds as deeds
use Rattle.steps_condvar.specs.CondvarDeeds.{IsAt, MayReply, condvar_deeds, wait_deeds}
use Rattle.steps_condvar.specs.CondvarMutex.{MayGetReplyAtMutex, beside_deeds}
use Rattle.steps_condvar.specs.CondvarWaits.{MayBefall, MayHearWaiter, waiter_deeds}

-- ---------------------------------------------------------------- the effects on the two locks

-- at the condition variable: a mutex is shown, or none, and a thread stands after the last, or
-- leaves
abbrev pub case_at_condvar : List CondvarDeed → Option LockCase
case_at_condvar (Show m ∷ ds) = Some (OfCondvar (locks.Show m))
case_at_condvar (condvars.HideAndTakeAll ∷ ds) = Some (OfCondvar locks.Hide)
case_at_condvar (condvars.ShowNone ∷ ds) = Some (OfCondvar locks.Hide)
case_at_condvar (StandLast ∷ ds) = Some (Park WaitHere)
case_at_condvar (LeaveList ∷ ds) = Some locks.Late
case_at_condvar ds = None

abbrev pub or_else : Event → Event → Event
or_else Nothing other = other
or_else event other = event

-- a wait does one thing at one of them
abbrev pub wait_event : ℕ → ℕ → WaitAt → Option ℕ → Reply → Event
wait_event c m at whom told =
    or_else (event_of m (wait_carries at) (waiter_deeds at whom told))
    (event_by c (case_at_condvar (wait_deeds m at told)))

-- a notification sees whether the mutex is owned once it has marked it, or need not
abbrev pub marked_event : ℕ → ℕ → Event
marked_event m seen = if is_locked seen then Nothing else AtLock m (SeeOwner false)

abbrev pub notify_event : ℕ → Bool → ℕ → NotifyAt → Reply → Event
notify_event c all m notify.Hide (Value seen) = AtLock c (OfCondvar locks.Hide)
notify_event c all m notify.Mark (Value seen) = marked_event m seen
notify_event c all m (notify.Set expected) (Value seen) =
    if seen == expected then AtLock m (SeeOwner true) else marked_event m seen
notify_event c all m (notify.Move locked) (Took any none_left) = Moves c m all locked 1
notify_event c all m (notify.Move locked) (Requeued number none_left) =
    Moves c m all locked (if all then number else 1)
notify_event c all m (notify.Clear any) (Value seen) = AtLock c (OfCondvar locks.Hide)
notify_event c all m (notify.Leave any number) Done = if any then AtLock m Wake else Nothing
notify_event c all m at told = Nothing

abbrev pub look_event : ℕ → ℕ → Event
look_event c seen = if seen == 0 then Nothing
    else AtLock c (OfCondvar (locks.Look (Some (mutex_shown seen))))

-- ---------------------------------------------------------------- the effect on the call

-- the state of a call at a place, by what its thread owns
abbrev pub condvar_call_by : ℕ → ℕ → CondvarPlace → (ℕ → Rights) → CallState
condvar_call_by c m p rights = call_of_two c m (condvar_profile p) (mutex_side p) rights

-- the call is made of the event; a notification moves waiters to the mutex at which it has looked
abbrev pub MayComeOfTwo : ℕ → Profile → Event → Type 0
MayComeOfTwo c row (Moves k m all owned number) =
    (k ≡ c) × (row.purpose c ≡ Notifies c all) × (row.recalls ≡ SawOwner m owned) × (number ≢ 0)
MayComeOfTwo c row event = MayCome c row event

-- the thread's time is up
abbrev pub heard : Reply → CallState → CallState
heard Late call = record call { late = true }
heard told call = call

-- the call at the next place is what the event made of it; or it is over, and its answer is true
-- wherever this mutex is shown, and the thread has of the other locks what it had
abbrev pub BecomesOfTwo : ℕ → ℕ → CondvarPlace → Reply → Event → Option ℕ → LockState → LockState
    → ℕ → Next CondvarPlace → Type 0
BecomesOfTwo c m p told event shown s s2 t (At next) =
    (rights : ℕ → Rights) → rights m ≡ rights_of s t
    → condvar_call_by c m next (rights_where m s2 t rights)
    ≡ going_on event (heard told (condvar_call_by c m p rights))
BecomesOfTwo c m p told event shown s s2 t (Over answer) =
    (v : LocksState) (rights : ℕ → Rights) → (v.locks c).shown ≡ shown → rights m ≡ rights_of s t
    → ((k : ℕ) → rights_in v t k ≡ rights_where m s2 t rights k)
    → AnswerHolds (Some ((condvar_profile p).purpose c)) v t
    (going_on event (heard told (condvar_call_by c m p rights))) answer

pub record CallOfTwoFollows (c m : ℕ) (p : CondvarPlace) (told : Reply) (event : Event)
    (shown : Option ℕ) (s s2 : LockState) (t : ℕ) (next : Next CondvarPlace) : Type 0 where
  pub may : MayComeOfTwo c (condvar_profile p) event
  pub becomes : BecomesOfTwo c m p told event shown s s2 t next

-- ---------------------------------------------------------------- the places that calls come to

-- a wait releases its mutex as `unlock` does, and locks it again as `lock` does
abbrev pub IsUnlockPlace : MutexPlace → Type 0
IsUnlockPlace (mutex.Unlock at) = Unit {0}
IsUnlockPlace at = ⊥

abbrev pub IsLockOf : LockAt → Type 0
IsLockOf lock.Remove = ⊥
IsLockOf lock.Clear = ⊥
IsLockOf lock.GiveUp = ⊥
IsLockOf at = Unit {0}

abbrev pub IsRelock : MutexPlace → Type 0
IsRelock (mutex.Lock entry.Lock retries at) = IsLockOf at
IsRelock at = ⊥

-- a thread that has its note is awake
abbrev pub IsUnnoted : WaiterFate → Type 0
IsUnnoted (stands.Noted by) = ⊥
IsUnnoted s = Unit {0}

-- only a timed wait is ever late, and a thread that was handed its mutex has released it; a notification
-- hides what it shows only to move all, and sets the bit of a mutex that it saw locked; a thread that is to
-- wake somebody has moved some: the first alone where it isn't to move all
abbrev pub IsReached : CondvarPlace → Type 0
IsReached (Wait m timed (wait.Release s at)) =
    IsUnlockPlace at × (has_mutex s ≡ true → (mutex_profile at).role.claims ≡ None)
IsReached (Wait m timed (wait.Asleep s)) = IsUnnoted s
IsReached (Wait m timed wait.Remove) = timed ≡ true
IsReached (Wait m timed wait.Hide) = timed ≡ true
IsReached (Wait m timed wait.GiveUp) = timed ≡ true
IsReached (Wait m timed wait.RemoveMoved) = timed ≡ true
IsReached (Wait m timed (wait.Lock timed_out at)) = (timed_out ≡ true → timed ≡ true) × IsRelock at
IsReached (Notify all m notify.Hide) = all ≡ true
IsReached (Notify all m (notify.Set expected)) = is_locked expected ≡ true
IsReached (Notify all m (notify.MarkMoved number)) = (all ≡ true) × (number ≢ 0)
IsReached (Notify all m (notify.Leave any number)) =
    (any ≡ true → number ≢ 0) × (all ≡ false → number ≤ 1)
IsReached p = Unit {0}

abbrev pub IsReachedNext : Next CondvarPlace → Type 0
IsReachedNext (At p) = IsReached p
IsReachedNext (Over answer) = Unit {0}

abbrev pub CondvarPlacesReached : Type 0
CondvarPlacesReached =
    (c : CondvarSite) (t : ℕ) (p : CondvarPlace) (told : Reply) → IsReached p → MayReply c t p told
    → IsCondvar c
    → IsAt c t p → (told ≡ Late → may_give_up p ≡ true) → IsReachedNext (condvar_next p told)

-- ---------------------------------------------------------------- the laws

-- each step of a wait
abbrev pub WaitsTell : Type 0
WaitsTell =
    (v : CondvarSite) (r : Rules) (s : Site) (t c m : ℕ) (timed : Bool) (at : WaitAt)
    (whom : Option ℕ) (told : Reply)
    → r.sort ≡ Mutex → IsCondvar v → IsAt v t (Wait m timed at) → IsSite r s
    → s.role t ≡ (wait_row m at).role
    → MayReply v t (Wait m timed at) told → MayHearWaiter r s t at whom told
    → IsReached (Wait m timed at)
    → CallOfTwoFollows c m (Wait m timed at) told (wait_event c m at whom told)
    (deeds.after_condvar_deeds (condvar_deeds (Wait m timed at) told) v t).shown
    s.lock (after_all r (waiter_deeds at whom told) s t).lock t
    (condvar_next (Wait m timed at) told)

-- A notification that has seen a mutex answers truly.
abbrev pub NotifiesTell : Type 0
NotifiesTell =
    (v : CondvarSite) (r : Rules) (s : Site) (t c m : ℕ) (all : Bool) (at : NotifyAt) (told : Reply)
    → r.sort ≡ Mutex → IsCondvar v → IsAt v t (Notify all m at)
    → s.role t ≡ (notify_row all m at).role
    → MayReply v t (Notify all m at) told → MayGetReplyAtMutex r s v t m all at told
    → IsReached (Notify all m at)
    → CallOfTwoFollows c m (Notify all m at) told (notify_event c all m at told)
    (deeds.after_condvar_deeds (condvar_deeds (Notify all m at) told) v t).shown
    s.lock (after_all r (beside_deeds all v.waiters at told) s t).lock t
    (condvar_next (Notify all m at) told)

-- A notification's first look, before which it knows no mutex, answers truly: any serves.
abbrev pub LooksTell : Type 0
LooksTell =
    (v : CondvarSite) (s : LockState) (t c : ℕ) (all : Bool)
    → CallOfTwoFollows c (mutex_shown (deeds.word_showing v.shown)) (Look all)
    (Value (deeds.word_showing v.shown))
    (look_event c (deeds.word_showing v.shown)) v.shown s s t
    (condvar_next (Look all) (Value (deeds.word_showing v.shown)))

-- ---------------------------------------------------------------- effects on a waiter

-- a notification moves it to its mutex, or takes it; it is handed the mutex, or woken to lock it
-- again
abbrev pub told_call : ℕ → WaitAt → Reply → CallState → CallState
told_call m (wait.Release stands.Listed at) told call = record call { recalls = WasMoved }
told_call m (wait.Asleep stands.Listed) told call = record call { recalls = WasMoved }
told_call m at (HandedBy u alone) call =
    record call { retries = None; recalls = after_wake call.recalls }
told_call m at (Woken Normal) call =
    record call { retries = Some m; recalls = after_wake call.recalls }
told_call m at told call = call

abbrev pub told_rights : ℕ → Reply → (ℕ → Rights) → ℕ → Rights
told_rights m (HandedBy u alone) rights = one_more_at m Exclusive rights
told_rights m told rights = rights

-- a waiter is handed the mutex only where it has released it
abbrev pub BecomesTold : ℕ → ℕ → Bool → WaitAt → Reply → Next WaitAt → Type 0
BecomesTold c m timed at told (At next) =
    (rights : ℕ → Rights)
    → condvar_call_by c m (Wait m timed next) (told_rights m told rights)
    ≡ told_call m at told (condvar_call_by c m (Wait m timed at) rights)
BecomesTold c m timed at told (Over answer) = ⊥

abbrev pub HandedAfterRelease : WaitAt → Reply → Type 0
HandedAfterRelease at (HandedBy u alone) = (wait_row 0 at).role.claims ≡ None
HandedAfterRelease at told = Unit {0}

abbrev pub WaitersAreTold : Type 0
WaitersAreTold =
    (c m : ℕ) (timed : Bool) (at : WaitAt) (told : Reply) → MayBefall at told → HandedAfterRelease at told
    → BecomesTold c m timed at told (next_wait m timed at told)
