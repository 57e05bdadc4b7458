-- The steps of a reader-writer lock: what a thread does at each place, and where each reply leads
-- it.
use Rattle.std.specs.Prelude.{ℕ, Bool, true, false, Option, Some, None, if◌then◌else◌, ◌==◌, ◌&&◌, not, ◌+◌}
use Rattle.std.specs.Prelude.{◌-◌, ◌*◌, nat_le, ◌≡◌}
use Rattle.core_base.specs.declared.keys.Keys.TheVariants.{One}
use Rattle.core_base.specs.declared.keys.Line.{Line}
use Rattle.core_base.specs.declared.keys.Line.TheVariants.{Main, Second}
use Rattle.core_base.specs.declared.notes.Note.TheVariants as note
use Rattle.core_base.specs.declared.ops.Op.{Op}
use Rattle.core_base.specs.declared.ops.Op.TheVariants as op
use Rattle.core_base.specs.declared.wants.Want.{Want}
use Rattle.core_base.specs.declared.wants.Want.TheVariants as want
use Rattle.core_base.specs.Keys.{key_of}
use Rattle.core_base.specs.Words.{apply}
use Rattle.spec_locks.specs.declared.calls.Access.{Access}
use Rattle.spec_locks.specs.declared.calls.Access.TheVariants as access
use Rattle.spec_locks.specs.declared.calls.Downgrade.TheVariants as downgrade
use Rattle.spec_locks.specs.declared.calls.Patience.{Patience}
use Rattle.spec_locks.specs.declared.calls.Patience.TheVariants.{Patient, Try}
use Rattle.spec_locks.specs.declared.outcomes.Answer.{Answer}
use Rattle.spec_locks.specs.declared.outcomes.Answer.TheVariants as answer
use Rattle.spec_locks.specs.declared.outcomes.Outcome.{Outcome}
pub use Rattle.spec_locks.specs.Purposes.{wanted, from_of, to_of}
use Rattle.spec_locks.specs.Codes.{count_in, has_aside, has_parked, is_blocked}
use Rattle.steps_base.specs.Acts.{wakes_taken, any_picked, outcome_of}
use Rattle.steps_base.specs.declared.acts.Act.{Act}
use Rattle.steps_base.specs.declared.acts.Act.TheVariants as act
use Rattle.steps_base.specs.declared.acts.Check.{Check}
use Rattle.steps_base.specs.declared.acts.Check.TheVariants as check
use Rattle.steps_base.specs.declared.acts.Next.{Next}
use Rattle.steps_base.specs.declared.acts.Next.TheVariants.{At, End}
use Rattle.steps_base.specs.declared.acts.Reply.{Reply}
use Rattle.steps_base.specs.declared.acts.Reply.TheVariants.{Done, Value, Parked, Took, Picked, Removed}
use Rattle.steps_base.specs.declared.acts.Reply.TheVariants.{TakenBy, Late, Woken}
use Rattle.steps_base.specs.declared.acts.Wakes.TheVariants as wake_notes
use Rattle.steps_base.specs.declared.acts.TakeWhich.{TakeWhich}
use Rattle.steps_base.specs.declared.acts.TakeWhich.TheVariants as whom_taken
use Rattle.steps_rwlock.specs.declared.places.Admission.{Admission}
use Rattle.steps_base.specs.declared.owners.Fallback.{Fallback}
use Rattle.steps_base.specs.declared.owners.Fallback.TheVariants as fallbacks
use Rattle.steps_base.specs.declared.owners.Owners.{Owners}
use Rattle.steps_base.specs.declared.owners.Pending as owners
use Rattle.steps_rwlock.specs.declared.changes.Change.{Change}
use Rattle.steps_rwlock.specs.declared.changes.Change.TheVariants as changes
use Rattle.steps_rwlock.specs.declared.places.RwLockPlace.{RwLockPlace}
use Rattle.steps_rwlock.specs.declared.purposes.RwLockPurpose.{RwLockPurpose}
use Rattle.steps_rwlock.specs.declared.purposes.RwLockPurpose.TheVariants as purpose
use Rattle.steps_rwlock.specs.declared.places.RwLockAt.{RwLockAt}
use Rattle.steps_rwlock.specs.declared.places.RwLockAt.TheVariants as at
use Rattle.steps_rwlock.specs.declared.enter.Decision.{Decision}
use Rattle.steps_rwlock.specs.declared.enter.Decision.TheVariants as decisions
use Rattle.steps_rwlock.specs.declared.park.ParkAt.{ParkAt}
use Rattle.steps_rwlock.specs.declared.park.ParkAt.TheVariants as parking
use Rattle.steps_rwlock.specs.declared.release.WakeAt.{WakeAt}
use Rattle.steps_rwlock.specs.declared.release.WakeAt.TheVariants as waking
use Rattle.steps_rwlock.specs.declared.places.TheConstants.{NOT_PARKED, NOT_WRITER_PARKED}

-- ---------------------------------------------------------------- rights

-- a right adds this to the word
abbrev pub token : Want → ℕ
token want.Shared = 16
token want.Upgradable = 20
token x = 8

-- whether a thread that has the right is counted with the readers
abbrev pub is_counted : Want → Bool
is_counted want.Exclusive = false
is_counted x = true

-- ---------------------------------------------------------------- calls

-- the right that a call waits for, or gives up
abbrev pub access_of : RwLockPurpose → Access
access_of (purpose.Enter x how) = x
access_of (purpose.Release x) = x
access_of (purpose.Downgrade d) = from_of d
access_of (purpose.Upgrade how) = access.Exclusive

abbrev pub patience_of : RwLockPurpose → Patience
patience_of (purpose.Enter x how) = how
patience_of (purpose.Upgrade how) = how
patience_of q = Patient

-- the right that a thread keeps while it wakes others
abbrev pub start_of : RwLockPurpose → Option Want
start_of (purpose.Downgrade d) = Some (wanted (to_of d))
start_of (purpose.Upgrade how) = Some want.Upgradable
start_of q = None

-- after a wake a release has done its part, and a call that entered or upgraded has given up
abbrev pub ends_with : RwLockPurpose → Answer
ends_with (purpose.Enter x how) = answer.No
ends_with (purpose.Upgrade how) = answer.No
ends_with q = answer.Ok

-- a call that waits for ever answers ok
abbrev pub entered : Patience → Answer
entered Patient = answer.Ok
entered how = answer.Yes

abbrev pub want_at : RwLockPlace → Want
want_at p = wanted (access_of p.purpose)

abbrev pub patience_at : RwLockPlace → Patience
patience_at p = patience_of p.purpose

-- goes on in the same call
abbrev pub goes : RwLockPlace → RwLockAt → Bool → Next RwLockPlace
goes p to retries = At (record { purpose = p.purpose; retries = retries; at = to })

abbrev pub stays : RwLockPlace → RwLockAt → Next RwLockPlace
stays p to = goes p to p.retries

-- ---------------------------------------------------------------- a thread's decision

abbrev pub park_or_mark : Bool → Decision
park_or_mark parked = if parked then decisions.Park else decisions.Mark

abbrev pub decision_blocked : Patience → ℕ → Decision
decision_blocked Try word = decisions.Refuse answer.No
decision_blocked how word = park_or_mark (has_parked word)

-- a thread that is blocked waits, one that counts needs room, and any other takes what it wants
abbrev pub decision : Admission → Want → Patience → ℕ → Decision
decision a x how word =
    if is_blocked a.recursive x word then decision_blocked how word
    else if is_counted x && nat_le a.limit (count_in word)
    then decisions.Refuse answer.ReadersFull
    else decisions.Take

-- an upgrade tries where nobody else shares
abbrev pub decided_for : Admission → RwLockPurpose → ℕ → Decision
decided_for a (purpose.Upgrade how) seen =
    if count_in seen == 1 then decisions.Take else decisions.Refuse answer.No
decided_for a q seen = decision a (wanted (access_of q)) (patience_of q) seen

-- by the value that it saw
abbrev pub decided : Admission → RwLockPlace → ℕ → Decision
decided a p seen = decided_for a p.purpose seen

-- ---------------------------------------------------------------- the acts of a thread

abbrev pub exchange : ℕ → ℕ → ℕ → Act
exchange l from to = act.Word l (op.Exchange from to)

-- sums of words wrap
abbrev pub plus : ℕ → ℕ → ℕ
plus word n = apply (op.Add n) word

-- the word with the right that a thread takes: an upgrade is a reader with the upgradable right
-- less, and a writer more
abbrev pub word_taken : RwLockPurpose → ℕ → ℕ
word_taken (purpose.Upgrade how) seen = apply (op.Sub 12) seen
word_taken q seen = plus seen (token (wanted (access_of q)))

abbrev pub decided_act : ℕ → RwLockPurpose → ℕ → Decision → Act
decided_act l q seen decisions.Take = exchange l seen (word_taken q seen)
decided_act l q seen decisions.Mark = exchange l seen (plus seen 1)
decided_act l q seen decisions.Park = act.Enter (One (2 * l))
decided_act l q seen (decisions.Refuse answer) = act.End answer

-- how a thread gives its right up, or turns it into another
abbrev pub give_op : RwLockPurpose → Op
give_op (purpose.Enter x how) = op.Sub (token (wanted x))
give_op (purpose.Release x) = op.Sub (token (wanted x))
give_op (purpose.Downgrade downgrade.ToShared) = op.Add 8
give_op (purpose.Downgrade downgrade.ToUpgradable) = op.Add 12
give_op (purpose.Downgrade downgrade.UpgradableToShared) = op.Sub 4
give_op (purpose.Upgrade how) = op.Sub 12

-- How a pending writer falls back: an upgrade has the upgradable right again.
abbrev pub rollback_op : RwLockPurpose → Op
rollback_op (purpose.Upgrade how) = op.Add 12
rollback_op q = op.Sub 8

-- a pending writer sets its parked bit, and goes aside where it is set
abbrev pub count_act : ℕ → ℕ → Act
count_act l seen =
    if has_aside seen then act.Enter (One (2 * l + 1))
    else exchange l seen (plus seen 2)

-- clears the parked bit of a queue
abbrev pub unparked : Line → Op
unparked Main = op.And NOT_PARKED
unparked Second = op.And NOT_WRITER_PARKED

-- the test of the word inside the section
abbrev pub park_check : Admission → Want → Line → Check
park_check a x Main = check.Blocked x a.recursive
park_check a x Second = check.ReadersLeft

abbrev pub leave_act : ℕ → Line → Act
leave_act l m = act.Leave (One (key_of l m)) wake_notes.Nobody

abbrev pub park_act : ℕ → Admission → Want → Line → ParkAt → Act
park_act l a x m parking.Check = act.Park l (key_of l m) (park_check a x m) x
park_act l a x m (parking.Leave parked) = leave_act l m
park_act l a x m parking.Asleep = act.Sleep
park_act l a x m (parking.Taken by) = act.Sleep
park_act l a x m parking.Remove = act.Remove (key_of l m)
park_act l a x m parking.Clear = act.Word l (unparked m)
park_act l a x m parking.GiveUp = leave_act l m

-- the outcome told to a thread that comes to a place of a parking
abbrev pub IsTold : Outcome → ParkAt → Type 0
IsTold told at = (l : ℕ) (a : Admission) (x : Want) (m : Line)
    → told ≡ outcome_of (park_act l a x m at)

-- the waiters that a thread takes of a queue: those that the lock lets in, or the writer aside
abbrev pub whom : Admission → Option Want → Line → TakeWhich
whom a start Main = whom_taken.Picked start a.recursive
whom a start Second = whom_taken.First

abbrev pub wake_act : ℕ → Admission → RwLockPurpose → Line → WakeAt → Act
wake_act l a q m waking.Enter = act.Enter (One (key_of l m))
wake_act l a q m waking.Take = act.Take (key_of l m) (whom a (start_of q) m)
wake_act l a q m (waking.Clear any) = act.Word l (unparked m)
wake_act l a q m (waking.Leave any) =
    act.Leave (One (key_of l m)) (wakes_taken any note.Normal)

abbrev pub act_at : ℕ → Admission → RwLockPlace → RwLockAt → Act
act_at l a p at.First = exchange l 0 8
act_at l a p at.Load = act.Word l op.Load
act_at l a p (at.Decide seen) = decided_act l p.purpose seen (decided a p seen)
act_at l a p (at.Park to) = park_act l a (want_at p) Main to
act_at l a p at.Look = act.Word l op.Load
act_at l a p (at.Count seen) = count_act l seen
act_at l a p at.Marked = act.Enter (One (key_of l Second))
act_at l a p (at.Aside to) = park_act l a (want_at p) Second to
act_at l a p at.RollBack = act.Word l (rollback_op p.purpose)
act_at l a p at.GiveWay = act.Word l (give_op p.purpose)
act_at l a p (at.Wake m to) = wake_act l a p.purpose m to

abbrev pub rwlock_act : ℕ → Admission → RwLockPlace → Act
rwlock_act l a p = act_at l a p p.at

-- ---------------------------------------------------------------- where a reply leads

abbrev pub wakes : Line → RwLockAt
wakes m = at.Wake m waking.Enter

abbrev pub missed : RwLockPlace → Patience → Next RwLockPlace
missed p Try = End answer.No
missed p how = stays p at.Load

abbrev pub first_next : RwLockPlace → ℕ → Next RwLockPlace
first_next p seen = if seen == 0 then End (entered (patience_at p)) else missed p (patience_at p)

abbrev pub looked_by : RwLockPlace → ℕ → Decision → Next RwLockPlace
looked_by p seen (decisions.Refuse answer) = End answer
looked_by p seen decision = stays p (at.Decide seen)

-- by a value that it saw
abbrev pub looked : Admission → RwLockPlace → ℕ → Next RwLockPlace
looked a p seen = looked_by p seen (decided a p seen)

-- the exchange of the thread succeeded: a writer that enters is pending until it has looked for readers
abbrev pub came_in_for : RwLockPlace → RwLockPurpose → Next RwLockPlace
came_in_for p (purpose.Enter access.Exclusive how) = goes p at.Look false
came_in_for p q = End (entered (patience_of q))

abbrev pub came_in : RwLockPlace → Next RwLockPlace
came_in p = came_in_for p p.purpose

abbrev pub exchanged_next : Admission → RwLockPlace → ℕ → ℕ → Decision → Next RwLockPlace
exchanged_next a p expected seen decisions.Take =
    if seen == expected then came_in p else looked a p seen
exchanged_next a p expected seen decisions.Mark =
    if seen == expected then stays p (at.Decide (plus expected 1)) else looked a p seen
exchanged_next a p expected seen decision = looked a p seen

abbrev pub decided_next : Admission → RwLockPlace → ℕ → Reply → Next RwLockPlace
decided_next a p expected (Value seen) = exchanged_next a p expected seen (decided a p expected)
decided_next a p expected Done = stays p (at.Park parking.Check)
decided_next a p expected reply = stays p (at.Decide expected)

-- a pending writer owns where nobody shares
abbrev pub after_count : RwLockPlace → ℕ → Next RwLockPlace
after_count p seen =
    if count_in seen == 0 then End (entered (patience_at p)) else stays p (at.Count seen)

abbrev pub count_next : RwLockPlace → ℕ → Reply → Next RwLockPlace
count_next p expected (Value seen) =
    if seen == expected then stays p at.Marked else after_count p seen
count_next p expected Done = stays p (at.Aside parking.Check)
count_next p expected reply = stays p (at.Count expected)

abbrev pub rolled_back : RwLockPlace → ℕ → Next RwLockPlace
rolled_back p seen = if has_parked seen then stays p (wakes Main) else End answer.No

abbrev pub wakes_or_ends : RwLockPlace → Line → Bool → Next RwLockPlace
wakes_or_ends p m is_there = if is_there then stays p (wakes m) else End answer.Ok

-- the last reader wakes the writer aside, and every other release those in the main queue
abbrev pub released : RwLockPlace → ℕ → Access → Next RwLockPlace
released p seen access.Shared =
    wakes_or_ends p Second (has_aside seen && (count_in seen == 1))
released p seen x = wakes_or_ends p Main (has_parked seen)

-- as a downgrade does; an upgrade owns where it was the only reader, and else it is pending
abbrev pub gave_way_by : RwLockPlace → ℕ → RwLockPurpose → Next RwLockPlace
gave_way_by p seen (purpose.Enter x how) = released p seen x
gave_way_by p seen (purpose.Release x) = released p seen x
gave_way_by p seen (purpose.Downgrade d) = wakes_or_ends p Main (has_parked seen)
gave_way_by p seen (purpose.Upgrade how) =
    if count_in seen == 1 then End (entered how) else goes p at.Look false

abbrev pub gave_way : RwLockPlace → ℕ → Next RwLockPlace
gave_way p seen = gave_way_by p seen p.purpose

-- ---------------------------------------------------------------- in and out of queues

abbrev pub parks_at : Line → ParkAt → RwLockAt
parks_at Main to = at.Park to
parks_at Second to = at.Aside to

-- where a thread looks again that does not stand in the queue, or was woken
abbrev pub looks_again : Line → RwLockAt
looks_again Main = at.Load
looks_again Second = at.Look

-- the bit of the second queue is cleared always
abbrev pub clears : Line → Bool → Bool
clears Main none_left = none_left
clears Second none_left = true

abbrev pub gave_up : RwLockPlace → Line → Next RwLockPlace
gave_up p Main = End answer.No
gave_up p Second = stays p at.RollBack

abbrev pub park_next : RwLockPlace → Line → ParkAt → Reply → Next RwLockPlace
park_next p m parking.Check (Parked parked) =
    goes p (parks_at m (parking.Leave parked)) (p.retries && not parked)
park_next p m (parking.Leave parked) Done =
    if parked then stays p (parks_at m parking.Asleep) else stays p (looks_again m)
park_next p m parking.Asleep (TakenBy by) = stays p (parks_at m (parking.Taken by))
park_next p m parking.Asleep (Woken note.Normal) = goes p (looks_again m) true
park_next p m (parking.Taken by) (Woken note.Normal) = goes p (looks_again m) true
park_next p m parking.Asleep Late = stays p (parks_at m parking.Remove)
park_next p m parking.Remove (Removed none_left) =
    stays p (parks_at m (if clears m none_left then parking.Clear else parking.GiveUp))
park_next p m parking.Clear (Value seen) = stays p (parks_at m parking.GiveUp)
park_next p m parking.GiveUp Done = gave_up p m
park_next p m to reply = stays p (parks_at m to)

abbrev pub took : Line → Bool → Bool → WakeAt
took m any none_left = if clears m none_left then waking.Clear any else waking.Leave any

abbrev pub wake_next : RwLockPlace → Line → WakeAt → Reply → Next RwLockPlace
wake_next p m waking.Enter Done = stays p (at.Wake m waking.Take)
wake_next p m waking.Take (Took any none_left) = stays p (at.Wake m (took m any none_left))
wake_next p m waking.Take (Picked sharers successor none_left) =
    stays p (at.Wake m (took m (any_picked sharers successor) none_left))
wake_next p m (waking.Clear any) (Value seen) = stays p (at.Wake m (waking.Leave any))
wake_next p m (waking.Leave any) Done = End (ends_with p.purpose)
wake_next p m to reply = stays p (at.Wake m to)

abbrev pub next_at : Admission → RwLockPlace → RwLockAt → Reply → Next RwLockPlace
next_at a p at.First (Value seen) = first_next p seen
next_at a p at.Load (Value seen) = looked a p seen
next_at a p (at.Decide expected) reply = decided_next a p expected reply
next_at a p (at.Park to) reply = park_next p Main to reply
next_at a p at.Look (Value seen) = after_count p seen
next_at a p (at.Count expected) reply = count_next p expected reply
next_at a p at.Marked Done = stays p (at.Aside parking.Check)
next_at a p (at.Aside to) reply = park_next p Second to reply
next_at a p at.RollBack (Value seen) = rolled_back p seen
next_at a p at.GiveWay (Value seen) = gave_way p seen
next_at a p (at.Wake m to) reply = wake_next p m to reply
next_at a p to reply = stays p to

abbrev pub rwlock_next : Admission → RwLockPlace → Reply → Next RwLockPlace
rwlock_next a p reply = next_at a p p.at reply

-- ---------------------------------------------------------------- owners

abbrev pub enters_by : Access → Change
enters_by access.Exclusive = changes.Pend
enters_by x = changes.Enter x

abbrev pub taken_change : RwLockPurpose → Change
taken_change (purpose.Upgrade how) = changes.Upgrade true
taken_change q = enters_by (access_of q)

-- the state after an exchange that succeeded
abbrev pub came_change : RwLockPurpose → Decision → Change
came_change q decisions.Take = taken_change q
came_change q decision = changes.Nothing

-- the state of a thread that gave way, and saw this
abbrev pub gives_change : RwLockPurpose → ℕ → Change
gives_change (purpose.Enter x how) seen = changes.Leave x
gives_change (purpose.Release x) seen = changes.Leave x
gives_change (purpose.Downgrade d) seen = changes.Downgrade d
gives_change (purpose.Upgrade how) seen = changes.Upgrade (count_in seen == 1)

abbrev pub rollback_change : RwLockPurpose → Change
rollback_change (purpose.Upgrade how) = changes.RollBack true
rollback_change q = changes.RollBack false

-- the state of a pending writer that saw this
abbrev pub settle_change : ℕ → Change
settle_change seen = if count_in seen == 0 then changes.Settle else changes.Nothing

abbrev pub change_at : Admission → RwLockPlace → ℕ → RwLockAt → Change
change_at a p seen at.First =
    if seen == 0 then changes.Enter access.Exclusive else changes.Nothing
change_at a p seen (at.Decide expected) =
    if seen == expected then came_change p.purpose (decided a p expected) else changes.Nothing
change_at a p seen at.Look = settle_change seen
change_at a p seen (at.Count expected) = if seen == expected then changes.Nothing else settle_change seen
change_at a p seen at.RollBack = rollback_change p.purpose
change_at a p seen at.GiveWay = gives_change p.purpose seen
change_at a p seen to = changes.Nothing

-- the owners after an operation on the word which saw this value
abbrev pub change : Admission → RwLockPlace → ℕ → Change
change a p seen = change_at a p seen p.at

abbrev pub pending_with : ℕ → Fallback → Option owners.Pending
pending_with t fallback = Some (record { thread = t; fallback = fallback })

abbrev pub owners_by : Change → ℕ → Owners → Owners
owners_by (changes.Enter access.Upgradable) t o = record o { upgradable = Some t }
owners_by (changes.Enter access.Exclusive) t o = record o { exclusive = Some t }
owners_by changes.Pend t o = record o { pending = pending_with t fallbacks.Nothing }
owners_by changes.Settle t o = record o { exclusive = Some t; pending = None }
owners_by (changes.Leave access.Upgradable) t o = record o { upgradable = None }
owners_by (changes.Leave access.Exclusive) t o = record o { exclusive = None }
owners_by (changes.Downgrade downgrade.ToShared) t o = record o { exclusive = None }
owners_by (changes.Downgrade downgrade.ToUpgradable) t o =
    record o { exclusive = None; upgradable = Some t }
owners_by (changes.Downgrade downgrade.UpgradableToShared) t o = record o { upgradable = None }
owners_by (changes.Upgrade true) t o = record o { exclusive = Some t; upgradable = None }
owners_by (changes.Upgrade false) t o =
    record o { pending = pending_with t fallbacks.Upgradable; upgradable = None }
owners_by (changes.RollBack false) t o = record o { pending = None }
owners_by (changes.RollBack true) t o = record o { pending = None; upgradable = Some t }
owners_by change t o = o

abbrev pub rwlock_owners : Admission → RwLockPlace → ℕ → ℕ → Owners → Owners
rwlock_owners a p t seen o = owners_by (change a p seen) t o

abbrev pub shares_by : Change → ℕ → Option ℕ
shares_by (changes.Enter access.Shared) n = Some (plus n 1)
shares_by (changes.Leave access.Shared) n = Some (n - 1)
shares_by (changes.Downgrade downgrade.ToShared) n = Some (plus n 1)
shares_by (changes.Downgrade downgrade.UpgradableToShared) n = Some (plus n 1)
shares_by change n = None

-- how many shared rights the thread has then, where their number changes
abbrev pub rwlock_shares : Admission → RwLockPlace → ℕ → ℕ → Option ℕ
rwlock_shares a p seen n = shares_by (change a p seen) n
