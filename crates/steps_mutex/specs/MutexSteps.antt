-- The steps of a mutex: what a thread does at each place, and where each reply leads it.
use Rattle.std.specs.Prelude.{ℕ, Bool, true, false, Option, Some, None, if◌then◌else◌, ◌==◌, not, ◌&&◌, ◌+◌}
use Rattle.std.specs.Prelude.{◌*◌, ◌/◌, ◌%◌}
use Rattle.core_base.specs.declared.keys.Keys.TheVariants.{One}
use Rattle.core_base.specs.declared.notes.Note.TheVariants as note
use Rattle.core_base.specs.declared.wants.Want.TheVariants.{Exclusive}
use Rattle.core_base.specs.declared.ops.Op.TheVariants as op
use Rattle.spec_locks.specs.declared.calls.MutexCall.{MutexCall}
use Rattle.spec_locks.specs.declared.calls.MutexCall.TheVariants as call
use Rattle.steps_mutex.specs.declared.places.MutexPlace.{MutexPlace}
use Rattle.steps_mutex.specs.declared.lock.Entry.{Entry}
use Rattle.steps_mutex.specs.declared.lock.Entry.TheVariants as entry
use Rattle.steps_mutex.specs.declared.places.MutexPlace.TheVariants.{Lock, TryLock, Unlock, UnlockFair, Bump}
use Rattle.steps_mutex.specs.declared.places.MutexPlace.TheVariants.{HandOff}
use Rattle.steps_mutex.specs.declared.lock.LockAt.{LockAt}
use Rattle.steps_mutex.specs.declared.lock.LockAt.TheVariants as lock
use Rattle.steps_mutex.specs.declared.unlock.UnlockAt.{UnlockAt}
use Rattle.steps_mutex.specs.declared.unlock.UnlockAt.TheVariants as unlock
use Rattle.steps_mutex.specs.declared.hand_off.HandOffAt.{HandOffAt}
use Rattle.steps_mutex.specs.declared.hand_off.HandOffAt.TheVariants as hand_off
use Rattle.steps_mutex.specs.declared.places.TheConstants.{NOT_PARKED}
use Rattle.steps_base.specs.declared.acts.Act.{Act}
use Rattle.steps_base.specs.declared.acts.Act.TheVariants as act
use Rattle.steps_base.specs.declared.acts.Check.TheVariants.{WordIs}
use Rattle.steps_base.specs.declared.acts.Wakes.TheVariants as wakes
use Rattle.steps_base.specs.declared.acts.TakeWhich.TheVariants as whom
use Rattle.steps_base.specs.declared.acts.Reply.{Reply}
use Rattle.steps_base.specs.declared.acts.Reply.TheVariants.{Done, Value, Parked, Took, Removed, TakenBy}
use Rattle.steps_base.specs.declared.acts.Reply.TheVariants.{HandedBy, Late, Woken}
use Rattle.steps_base.specs.declared.acts.Next.{Next}
use Rattle.steps_base.specs.declared.acts.Next.TheVariants.{At, End}
use Rattle.spec_locks.specs.declared.outcomes.Answer.{Answer}
use Rattle.spec_locks.specs.declared.outcomes.Answer.TheVariants as answer
use Rattle.steps_base.specs.declared.owners.Owners.{Owners}
use Rattle.steps_base.specs.Owners.{is_thread, with_exclusive}
use Rattle.steps_base.specs.Acts.{wakes_taken}

-- the word: 1 where it is locked, and 2 where a thread may be parked
abbrev pub is_locked : ℕ → Bool
is_locked word = word % 2 == 1

abbrev pub is_parked : ℕ → Bool
is_parked word = word / 2 % 2 == 1

-- a timed call may give up
abbrev pub is_timed : Entry → Bool
is_timed entry.LockTimed = true
is_timed e = false

abbrev pub entry_place : Entry → MutexPlace
entry_place e = Lock e false lock.First

-- where a call begins; a fair mutex hands over by unlock too
abbrev pub mutex_first : Bool → MutexCall → MutexPlace
mutex_first fair call.Lock = entry_place entry.Lock
mutex_first fair call.LockTimed = entry_place entry.LockTimed
mutex_first fair call.TryLock = TryLock
mutex_first fair call.Unlock =
    if fair then UnlockFair else Unlock unlock.Subtract
mutex_first fair call.UnlockFair = UnlockFair
mutex_first fair call.Bump = Bump

-- whether a thread has the right that the call needs
abbrev pub mutex_right : MutexCall → ℕ → Owners → Bool
mutex_right call.Lock t owners = true
mutex_right call.LockTimed t owners = true
mutex_right call.TryLock t owners = true
mutex_right c t owners = is_thread t owners.exclusive

-- ---------------------------------------------------------------- the acts of a thread

-- an unlocked mutex is taken, an owner is told of the waiter, and where that was done the thread
-- parks
abbrev pub decided : ℕ → ℕ → Act
decided l seen =
    if not (is_locked seen) then act.Word l (op.Exchange seen (seen + 1))
    else if seen == 1 then act.Word l (op.Exchange 1 3)
    else act.Enter (One (2 * l))

abbrev pub lock_act : ℕ → LockAt → Act
lock_act l lock.First = act.Word l (op.Exchange 0 1)
lock_act l lock.Load = act.Word l op.Load
lock_act l (lock.Decide seen) = decided l seen
lock_act l lock.Check = act.Park l (2 * l) (WordIs 3) Exclusive
lock_act l (lock.Leave parked) =
    act.Leave (One (2 * l)) wakes.Nobody
lock_act l lock.Asleep = act.Sleep
lock_act l (lock.Taken by) = act.Sleep
lock_act l (lock.Handed by) = act.Sleep
lock_act l lock.Accept = act.Accept
lock_act l lock.Remove = act.Remove (2 * l)
lock_act l lock.Clear = act.Word l (op.And NOT_PARKED)
lock_act l lock.GiveUp = act.Leave (One (2 * l)) wakes.Nobody

abbrev pub unlock_act : ℕ → UnlockAt → Act
unlock_act l unlock.Subtract = act.Word l (op.Sub 1)
unlock_act l unlock.Enter = act.Enter (One (2 * l))
unlock_act l unlock.Take = act.Take (2 * l) whom.First
unlock_act l (unlock.Clear any) = act.Word l (op.And NOT_PARKED)
unlock_act l (unlock.Leave any) =
    act.Leave (One (2 * l)) (wakes_taken any note.Normal)

-- the word that a hand-off leaves: unlocked where nobody was taken, else locked, with the parked
-- bit where waiters are left
abbrev pub hand_off_word : Bool → Bool → ℕ
hand_off_word false none_left = 0
hand_off_word true none_left = if none_left then 1 else 3

-- a waiter that was taken owns the lock from that store on
abbrev pub hand_off_store : ℕ → Bool → Bool → Act
hand_off_store l false none_left =
    act.Word l (op.Store (hand_off_word false none_left))
hand_off_store l true none_left =
    act.HandOver l (op.Store (hand_off_word true none_left))

abbrev pub hand_off_act : ℕ → HandOffAt → Act
hand_off_act l hand_off.Enter = act.Enter (One (2 * l))
hand_off_act l hand_off.Take = act.Take (2 * l) whom.First
hand_off_act l (hand_off.Store any none_left) = hand_off_store l any none_left
hand_off_act l (hand_off.Leave any) =
    act.Leave (One (2 * l)) (wakes_taken any note.HandOff)

abbrev pub mutex_act : ℕ → MutexPlace → Act
mutex_act l (Lock e retries at) = lock_act l at
mutex_act l TryLock = act.Word l (op.Or 1)
mutex_act l (Unlock at) = unlock_act l at
mutex_act l UnlockFair = act.Word l (op.Exchange 1 0)
mutex_act l Bump = act.Word l op.Load
mutex_act l (HandOff bumps at) = hand_off_act l at

-- ---------------------------------------------------------------- where a reply leads

-- a timed call tells that it has the lock by yes
abbrev pub entered : Entry → Answer
entered entry.LockTimed = answer.Yes
entered e = answer.Ok

abbrev pub next_lock : Entry → LockAt → Reply → Next LockAt
next_lock e lock.First (Value seen) =
    if seen == 0 then End (entered e) else At lock.Load
next_lock e lock.Load (Value seen) = At (lock.Decide seen)
next_lock e (lock.Decide expected) (Value seen) =
    if not (seen == expected) then At (lock.Decide seen)
    else if is_locked seen then At (lock.Decide 3)
    else End (entered e)
next_lock e (lock.Decide expected) Done = At lock.Check
next_lock e lock.Check (Parked parked) = At (lock.Leave parked)
next_lock e (lock.Leave parked) Done =
    if parked then At lock.Asleep else At lock.Load
next_lock e lock.Asleep (TakenBy by) = At (lock.Taken by)
next_lock e lock.Asleep (Woken note.Normal) = At lock.Load
next_lock e lock.Asleep (Woken note.HandOff) = At lock.Accept
next_lock e (lock.Taken by) (Woken note.Normal) = At lock.Load
next_lock e (lock.Taken by) (HandedBy t alone) = At (lock.Handed t)
next_lock e (lock.Handed by) (Woken note.HandOff) =
    At lock.Accept
next_lock e lock.Accept Done = End (entered e)
next_lock e lock.Asleep Late = At lock.Remove
next_lock e lock.Remove (Removed none_left) =
    if none_left then At lock.Clear else At lock.GiveUp
next_lock e lock.Clear (Value seen) = At lock.GiveUp
next_lock e lock.GiveUp Done = End answer.No
next_lock e at _ = At at

-- from a wake note until it stands in the queue again or owns the mutex
abbrev pub still_retries : Bool → Reply → Bool
still_retries retries (Woken note.Normal) = true
still_retries retries (Parked parked) = retries && not parked
still_retries retries (HandedBy t alone) = false
still_retries retries _ = retries

abbrev pub next_unlock : UnlockAt → Reply → Next UnlockAt
next_unlock unlock.Subtract (Value seen) =
    if is_parked seen then At unlock.Enter else End answer.Ok
next_unlock unlock.Enter Done = At unlock.Take
next_unlock unlock.Take (Took any none_left) =
    if none_left then At (unlock.Clear any) else At (unlock.Leave any)
next_unlock (unlock.Clear any) (Value seen) = At (unlock.Leave any)
next_unlock (unlock.Leave any) Done = End answer.Ok
next_unlock at _ = At at

abbrev pub next_hand_off : HandOffAt → Reply → Next HandOffAt
next_hand_off hand_off.Enter Done = At hand_off.Take
next_hand_off hand_off.Take (Took any none_left) =
    At (hand_off.Store any none_left)
next_hand_off (hand_off.Store any none_left) (Value seen) =
    At (hand_off.Leave any)
next_hand_off (hand_off.Leave any) Done = End answer.Ok
next_hand_off at _ = At at

-- an owner that saw waiters hands the mutex over
abbrev pub looked : Bool → Bool → Next MutexPlace
looked bumps saw_waiters =
    if saw_waiters then At (HandOff bumps hand_off.Enter) else End answer.Ok

abbrev pub try_next : Reply → Next MutexPlace
try_next (Value seen) = if is_locked seen then End answer.No
    else End answer.Yes
try_next _ = At TryLock

abbrev pub unlock_fair_next : Reply → Next MutexPlace
unlock_fair_next (Value seen) = looked false (not (seen == 1))
unlock_fair_next _ = At UnlockFair

abbrev pub bump_next : Reply → Next MutexPlace
bump_next (Value seen) = looked true (is_parked seen)
bump_next _ = At Bump

abbrev pub in_lock : Entry → Bool → Next LockAt → Next MutexPlace
in_lock e retries (At at) = At (Lock e retries at)
in_lock e retries (End answer) = End answer

abbrev pub in_unlock : Next UnlockAt → Next MutexPlace
in_unlock (At at) = At (Unlock at)
in_unlock (End answer) = End answer

-- after its hand-off a bump enters again
abbrev pub in_hand_off : Bool → Next HandOffAt → Next MutexPlace
in_hand_off bumps (At at) = At (HandOff bumps at)
in_hand_off bumps (End answer) = if bumps then At (entry_place entry.Bump) else End answer

abbrev pub mutex_next : MutexPlace → Reply → Next MutexPlace
mutex_next (Lock e retries at) reply =
    in_lock e (still_retries retries reply) (next_lock e at reply)
mutex_next TryLock reply = try_next reply
mutex_next (Unlock at) reply = in_unlock (next_unlock at reply)
mutex_next UnlockFair reply = unlock_fair_next reply
mutex_next Bump reply = bump_next reply
mutex_next (HandOff bumps at) reply = in_hand_off bumps (next_hand_off at reply)

-- from where a thread looks at the word once more, in place of the act that would set the parked
-- bit
abbrev pub mutex_respin : MutexPlace → Option MutexPlace
mutex_respin (Lock e retries (lock.Decide seen)) =
    if seen == 1 then Some (Lock e retries lock.Load) else None
mutex_respin at = None

-- ---------------------------------------------------------------- owners

abbrev pub lock_owners : LockAt → ℕ → ℕ → Owners → Owners
lock_owners lock.First t seen owners =
    if seen == 0 then with_exclusive owners (Some t) else owners
lock_owners (lock.Decide expected) t seen owners =
    if (seen == expected) && not (is_locked seen) then with_exclusive owners (Some t) else owners
lock_owners _ t seen owners = owners

abbrev pub unlock_owners : UnlockAt → Owners → Owners
unlock_owners unlock.Subtract owners = with_exclusive owners None
unlock_owners _ owners = owners

-- the owner of the mutex after an operation on its word that saw this value, but for those to which it hands
-- the lock
abbrev pub mutex_owners : MutexPlace → ℕ → ℕ → Owners → Owners
mutex_owners (Lock e retries at) t seen owners = lock_owners at t seen owners
mutex_owners TryLock t seen owners =
    if is_locked seen then owners else with_exclusive owners (Some t)
mutex_owners (Unlock at) t seen owners = unlock_owners at owners
mutex_owners UnlockFair t seen owners = if seen == 1 then with_exclusive owners None else owners
mutex_owners Bump t seen owners = owners
mutex_owners (HandOff bumps (hand_off.Store any none_left)) t seen owners =
    with_exclusive owners None
mutex_owners (HandOff bumps at) t seen owners = owners
