-- The steps of a condition variable: what a thread does at each place, and where each reply leads
-- it.
use Rattle.std.specs.Prelude.{ℕ, Bool, true, false, Option, Some, None, if◌then◌else◌, ◌==◌, not, ◌&&◌, ◌||◌}
use Rattle.std.specs.Prelude.{nat_lt, ◌<◌, ◌+◌, ◌-◌, ◌*◌, ◌^◌}
use Rattle.core_base.specs.declared.keys.Keys.TheVariants.{One, Two}
use Rattle.core_base.specs.declared.notes.Note.TheVariants as note
use Rattle.core_base.specs.declared.ops.Op.TheVariants as op
use Rattle.core_base.specs.declared.requeues.Requeue.TheVariants as requeue
use Rattle.core_base.specs.declared.wants.Want.TheVariants as wants
use Rattle.spec_locks.specs.declared.outcomes.Answer.{Answer}
use Rattle.spec_locks.specs.declared.outcomes.Answer.TheVariants as answer
use Rattle.steps_base.specs.declared.acts.Act.{Act}
use Rattle.steps_base.specs.declared.acts.Act.TheVariants as act
use Rattle.steps_base.specs.declared.acts.Wakes.TheVariants.{Nobody}
use Rattle.steps_base.specs.declared.acts.TakeWhich.TheVariants.{First}
use Rattle.steps_base.specs.declared.acts.Reply.{Reply}
use Rattle.steps_base.specs.declared.acts.Reply.TheVariants.{Done, Value, Took, Requeued, Removed, TakenBy}
use Rattle.steps_base.specs.declared.acts.Reply.TheVariants.{MovedTo, HandedBy, Late, Woken}
use Rattle.steps_base.specs.declared.acts.Next.{Next}
use Rattle.steps_base.specs.declared.acts.Next.TheVariants.{At, End}
use Rattle.steps_base.specs.declared.owners.Owners.{Owners}
use Rattle.steps_base.specs.Acts.{wakes_taken}
use Rattle.steps_base.specs.Owners.{is_thread}
use Rattle.steps_mutex.specs.declared.lock.Entry.TheVariants as entry
use Rattle.steps_mutex.specs.declared.lock.LockAt.TheVariants as lock
use Rattle.steps_mutex.specs.declared.places.MutexPlace.{MutexPlace}
use Rattle.steps_mutex.specs.declared.places.MutexPlace.TheVariants as mutex
use Rattle.steps_mutex.specs.declared.unlock.UnlockAt.TheVariants as unlock
use Rattle.steps_mutex.specs.MutexSteps.{is_locked, mutex_act, mutex_respin, mutex_next, mutex_owners}
use Rattle.steps_condvar.specs.declared.notify.NotifyAt.{NotifyAt}
use Rattle.steps_condvar.specs.declared.notify.NotifyAt.TheVariants as notify
use Rattle.spec_locks.specs.declared.calls.CondvarCall.{CondvarCall}
use Rattle.spec_locks.specs.declared.calls.CondvarCall.TheVariants as call
use Rattle.steps_condvar.specs.declared.places.CondvarPlace.{CondvarPlace}
use Rattle.steps_condvar.specs.declared.places.CondvarPlace.TheVariants.{Wait, Look, Notify}
use Rattle.steps_condvar.specs.declared.wait.WaiterFate.{WaiterFate}
use Rattle.steps_condvar.specs.declared.wait.WaiterFate.TheVariants as stands
use Rattle.steps_condvar.specs.declared.wait.WaitAt.{WaitAt}
use Rattle.steps_condvar.specs.declared.wait.WaitAt.TheVariants as wait

-- ---------------------------------------------------------------- the word

-- a condition variable shows a mutex by one more than its number, and 0 where none is shown
abbrev pub shown_as : ℕ → ℕ
shown_as m = m + 1

abbrev pub is_shown : ℕ → ℕ → Bool
is_shown v m = not (v == 0) && (v - 1 == m)

-- ---------------------------------------------------------------- calls

abbrev pub condvar_first : CondvarCall → CondvarPlace
condvar_first (call.Wait m timed) = Wait m timed wait.Enter
condvar_first (call.Notify all) = Look all

-- a waiting thread owns the mutex
abbrev pub condvar_right : CondvarCall → ℕ → Owners → Bool
condvar_right (call.Wait m timed) t owners = is_thread t owners.exclusive
condvar_right (call.Notify all) t owners = true

-- the mutex that a wait names, or that a notification has seen
abbrev pub mutex_beside : CondvarPlace → Option ℕ
mutex_beside (Wait m timed at) = Some m
mutex_beside (Look all) = None
mutex_beside (Notify all m at) = Some m

abbrev pub IsKeyed : Option ℕ → Type 0
IsKeyed None = Unit {0}
IsKeyed (Some m) = m < 2 ^ 63

-- the keys of that mutex are numbers
abbrev pub HasMutexKey : CondvarPlace → Type 0
HasMutexKey p = IsKeyed (mutex_beside p)

-- ---------------------------------------------------------------- the acts of a thread

abbrev pub wait_act : ℕ → ℕ → WaitAt → Act
wait_act c m wait.Enter = act.Enter (One (2 * c))
wait_act c m wait.Show = act.Word c (op.Exchange 0 (shown_as m))
wait_act c m wait.Stand = act.Stand (2 * c) wants.Wait
wait_act c m wait.Leave = act.Leave (One (2 * c)) Nobody
wait_act c m wait.Refuse = act.Leave (One (2 * c)) Nobody
wait_act c m (wait.Release by at) = mutex_act m at
wait_act c m (wait.Asleep by) = act.Sleep
wait_act c m wait.Remove = act.Remove (2 * c)
wait_act c m wait.Hide = act.Word c (op.Store 0)
wait_act c m wait.GiveUp = act.Leave (One (2 * c)) Nobody
wait_act c m wait.RemoveMoved = act.Remove (2 * m)
wait_act c m (wait.GiveUpMoved none_left) = act.Leave (One (2 * m)) Nobody
wait_act c m (wait.Lock timed_out at) = mutex_act m at

-- the waiters that it moves to a mutex that was owned, or else takes
abbrev pub move_act : Bool → Bool → ℕ → ℕ → Act
move_act true locked c m =
    act.Requeue (2 * c) (2 * m) (if locked then requeue.All else requeue.TakeOneMoveRest)
move_act false true c m = act.Requeue (2 * c) (2 * m) requeue.One
move_act false false c m = act.Take (2 * c) First

abbrev pub notify_act : Bool → ℕ → ℕ → NotifyAt → Act
notify_act all c m notify.Enter = act.Enter (Two (2 * c) (2 * m))
notify_act all c m notify.Again = act.Word c op.Load
notify_act all c m notify.Hide = act.Word c (op.Store 0)
notify_act all c m notify.Mark = act.Word m op.Load
notify_act all c m (notify.Set seen) = act.Word m (op.Exchange seen 3)
notify_act all c m (notify.Move locked) = move_act all locked c m
notify_act all c m (notify.Clear any) = act.Word c (op.Store 0)
notify_act all c m (notify.MarkMoved number) = act.Word m (op.Or 2)
notify_act all c m (notify.Leave any number) =
    act.Leave (Two (2 * c) (2 * m)) (wakes_taken any note.Normal)

abbrev pub condvar_act : ℕ → CondvarPlace → Act
condvar_act c (Wait m timed at) = wait_act c m at
condvar_act c (Look all) = act.Word c op.Load
condvar_act c (Notify all m at) = notify_act all c m at

-- ---------------------------------------------------------------- effects on waiters

-- a reply tells what another thread has done to this one
abbrev pub comes_from_another : Reply → Bool
comes_from_another (TakenBy by) = true
comes_from_another (MovedTo key) = true
comes_from_another (HandedBy by alone) = true
comes_from_another (Woken by) = true
comes_from_another reply = false

abbrev pub stands_after : WaiterFate → Reply → WaiterFate
stands_after s (TakenBy by) = stands.InHand by
stands_after s (MovedTo key) = stands.Moved
stands_after s (HandedBy by alone) = stands.Handed by
stands_after s (Woken by) = stands.Noted by
stands_after s reply = s

-- where a thread begins to lock its mutex again
abbrev pub first_lock : Bool → MutexPlace
first_lock retries = mutex.Lock entry.Lock retries lock.First

-- after its release: with a normal note it locks the mutex again, with that of a hand-off it has it
abbrev pub past_release : WaiterFate → WaitAt
past_release (stands.Noted note.Normal) = wait.Lock false (first_lock true)
past_release (stands.Noted note.HandOff) = wait.Lock false (mutex.Lock entry.Lock false lock.Accept)
past_release s = wait.Asleep s

-- the thread's time is up: it leaves the queue in which it stands
abbrev pub late_place : WaiterFate → WaitAt
late_place stands.Listed = wait.Remove
late_place stands.Moved = wait.RemoveMoved
late_place s = wait.Asleep s

-- ---------------------------------------------------------------- where a reply leads

-- the answer of a wait that has the mutex
abbrev pub waited : Bool → Bool → Answer
waited timed timed_out =
    if not timed then answer.Ok else if timed_out then answer.TimedOut else answer.Notified

abbrev pub released : WaiterFate → Next MutexPlace → WaitAt
released s (At at) = wait.Release s at
released s (End answer) = past_release s

abbrev pub relocked : Bool → Bool → Next MutexPlace → Next WaitAt
relocked timed timed_out (At at) = At (wait.Lock timed_out at)
relocked timed timed_out (End answer) = End (waited timed timed_out)

abbrev pub asleep_next : WaiterFate → Reply → WaitAt
asleep_next s Late = late_place s
asleep_next s reply = past_release (stands_after s reply)

abbrev pub release_next : WaiterFate → MutexPlace → Reply → WaitAt
release_next s at reply =
    if comes_from_another reply then wait.Release (stands_after s reply) at
    else released s (mutex_next at reply)

abbrev pub next_wait : ℕ → Bool → WaitAt → Reply → Next WaitAt
next_wait m timed wait.Enter Done = At wait.Show
next_wait m timed wait.Show (Value seen) =
    if (seen == 0) || is_shown seen m then At wait.Stand else At wait.Refuse
next_wait m timed wait.Stand Done = At wait.Leave
next_wait m timed wait.Leave Done = At (wait.Release stands.Listed (mutex.Unlock unlock.Subtract))
next_wait m timed wait.Refuse Done = End answer.TwoMutexes
next_wait m timed (wait.Release s at) reply = At (release_next s at reply)
next_wait m timed (wait.Asleep s) reply = At (asleep_next s reply)
next_wait m timed wait.Remove (Removed none_left) =
    if none_left then At wait.Hide else At wait.GiveUp
next_wait m timed wait.Hide (Value seen) = At wait.GiveUp
next_wait m timed wait.GiveUp Done = At (wait.Lock true (first_lock false))
next_wait m timed wait.RemoveMoved (Removed none_left) = At (wait.GiveUpMoved none_left)
next_wait m timed (wait.GiveUpMoved none_left) Done = At (wait.Lock false (first_lock false))
next_wait m timed (wait.Lock timed_out at) reply = relocked timed timed_out (mutex_next at reply)
next_wait m timed at reply = At at

-- the answer of a notification that has taken and moved so many
abbrev pub notified : Bool → ℕ → Answer
notified all number = if all then answer.Number number else if number == 0 then answer.No
    else answer.Yes

-- by the word of the mutex that it saw
abbrev pub marks : ℕ → NotifyAt
marks seen = if is_locked seen then notify.Set seen else notify.Move false

abbrev pub again_next : Bool → ℕ → ℕ → NotifyAt
again_next all m seen =
    if not (is_shown seen m) then notify.Leave false 0 else if all then notify.Hide else notify.Mark

-- the first was moved or taken, or all were
abbrev pub moved_one : Bool → Bool → NotifyAt
moved_one any none_left = if none_left then notify.Clear any else notify.Leave any 1

abbrev pub moved_all : Bool → ℕ → NotifyAt
moved_all locked number =
    if not locked && nat_lt 1 number then notify.MarkMoved number
    else notify.Leave (not locked) number

abbrev pub next_notify : Bool → ℕ → NotifyAt → Reply → Next NotifyAt
next_notify all m notify.Enter Done = At notify.Again
next_notify all m notify.Again (Value seen) = At (again_next all m seen)
next_notify all m notify.Hide (Value seen) = At notify.Mark
next_notify all m notify.Mark (Value seen) = At (marks seen)
next_notify all m (notify.Set expected) (Value seen) =
    if seen == expected then At (notify.Move true) else At (marks seen)
next_notify all m (notify.Move locked) (Took any none_left) = At (moved_one any none_left)
next_notify all m (notify.Move locked) (Requeued number none_left) =
    if all then At (moved_all locked number) else At (moved_one false none_left)
next_notify all m (notify.Clear any) (Value seen) = At (notify.Leave any 1)
next_notify all m (notify.MarkMoved number) (Value seen) = At (notify.Leave true number)
next_notify all m (notify.Leave any number) Done = End (notified all number)
next_notify all m at reply = At at

abbrev pub in_wait : ℕ → Bool → Next WaitAt → Next CondvarPlace
in_wait m timed (At at) = At (Wait m timed at)
in_wait m timed (End answer) = End answer

abbrev pub in_notify : Bool → ℕ → Next NotifyAt → Next CondvarPlace
in_notify all m (At at) = At (Notify all m at)
in_notify all m (End answer) = End answer

-- the mutex that a word shows
abbrev pub mutex_shown : ℕ → ℕ
mutex_shown seen = seen - 1

abbrev pub look_next : Bool → ℕ → Next CondvarPlace
look_next all seen = if seen == 0 then End (notified all 0)
    else At (Notify all (mutex_shown seen) notify.Enter)

abbrev pub condvar_next : CondvarPlace → Reply → Next CondvarPlace
condvar_next (Wait m timed at) reply = in_wait m timed (next_wait m timed at reply)
condvar_next (Look all) (Value seen) = look_next all seen
condvar_next (Look all) reply = At (Look all)
condvar_next (Notify all m at) reply = in_notify all m (next_notify all m at reply)

-- from where a thread looks at its mutex once more, in place of an act that leads to sleep
abbrev pub in_lock : ℕ → Bool → Bool → Option MutexPlace → Option CondvarPlace
in_lock m timed timed_out None = None
in_lock m timed timed_out (Some at) = Some (Wait m timed (wait.Lock timed_out at))

abbrev pub condvar_respin : CondvarPlace → Option CondvarPlace
condvar_respin (Wait m timed (wait.Lock timed_out at)) =
    in_lock m timed timed_out (mutex_respin at)
condvar_respin p = None

-- ---------------------------------------------------------------- owners

-- the owner of the mutex, or the one shown, after an operation on a word that saw this value
abbrev pub condvar_owners : CondvarPlace → ℕ → ℕ → Owners → Owners
condvar_owners (Wait m timed wait.Show) t seen owners =
    if seen == 0 then record owners { shown = Some m } else owners
condvar_owners (Wait m timed wait.Hide) t seen owners = record owners { shown = None }
condvar_owners (Notify all m notify.Hide) t seen owners = record owners { shown = None }
condvar_owners (Notify all m (notify.Clear any)) t seen owners = record owners { shown = None }
condvar_owners (Wait m timed (wait.Release s at)) t seen owners = mutex_owners at t seen owners
condvar_owners (Wait m timed (wait.Lock timed_out at)) t seen owners = mutex_owners at t seen owners
condvar_owners p t seen owners = owners
