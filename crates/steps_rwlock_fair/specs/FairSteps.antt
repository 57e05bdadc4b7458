-- The steps of fair releases and bumps, and of those to which they hand the lock: what a thread does
-- at each place, and where each reply leads it.
use Rattle.std.specs.Prelude.{ℕ, Bool, true, false, Option, Some, None, if◌then◌else◌, ◌==◌, ◌&&◌, ◌||◌, not}
use Rattle.std.specs.Prelude.{◌+◌, ◌-◌, ◌*◌, ◌%◌, ◌^◌, nat_le}
use Rattle.core_base.specs.declared.keys.Keys.TheVariants.{One}
use Rattle.core_base.specs.declared.notes.Note as note
use Rattle.core_base.specs.declared.ops.Op.TheVariants as op
use Rattle.core_base.specs.declared.wants.Want.{Want}
use Rattle.core_base.specs.declared.wants.Want.TheVariants.{Upgradable}
use Rattle.core_base.specs.Words.{apply}
use Rattle.spec_locks.specs.declared.calls.Access.{Access}
use Rattle.spec_locks.specs.declared.calls.Access.TheVariants as access
use Rattle.spec_locks.specs.declared.calls.Patience.{Patience}
use Rattle.spec_locks.specs.declared.calls.Patience.TheVariants.{Patient}
use Rattle.spec_locks.specs.declared.outcomes.Answer.{Answer}
use Rattle.spec_locks.specs.declared.outcomes.Answer.TheVariants.{Ok}
use Rattle.spec_locks.specs.Codes.{count_in, has_parked, has_writer}
use Rattle.steps_base.specs.Acts.{wakes_taken, any_picked}
use Rattle.steps_base.specs.declared.acts.Act.{Act}
use Rattle.steps_base.specs.declared.acts.Act.TheVariants as act
use Rattle.steps_base.specs.declared.acts.Next.{Next}
use Rattle.steps_base.specs.declared.acts.Next.TheVariants.{At, End}
use Rattle.steps_base.specs.declared.acts.Reply.{Reply}
use Rattle.steps_base.specs.declared.acts.Reply.TheVariants.{Done, Value, Picked, HandedBy, Woken}
use Rattle.steps_base.specs.declared.acts.TakeWhich.TheVariants as whom
use Rattle.steps_base.specs.declared.owners.Owners.{Owners}
use Rattle.steps_rwlock.specs.declared.places.Admission.{Admission}
use Rattle.steps_rwlock.specs.declared.places.RwLockPlace.{RwLockPlace}
use Rattle.steps_rwlock.specs.declared.places.RwLockAt.{RwLockAt}
use Rattle.steps_rwlock.specs.declared.places.RwLockAt.TheVariants as at
use Rattle.steps_rwlock.specs.declared.park.ParkAt.TheVariants as parking
use Rattle.steps_rwlock.specs.declared.purposes.RwLockPurpose.{RwLockPurpose}
use Rattle.steps_rwlock.specs.declared.purposes.RwLockPurpose.TheVariants as purpose
use Rattle.steps_rwlock.specs.RwLockBegins.{rwlock_first}
use Rattle.steps_rwlock.specs.RwLockSteps.{wanted, token, plus, entered, exchange, rwlock_act, rwlock_next}
use Rattle.steps_rwlock.specs.RwLockSteps.{rwlock_owners, rwlock_shares}
use Rattle.steps_rwlock_fair.specs.declared.places.RwLockCallPlace.{RwLockCallPlace}
use Rattle.steps_rwlock_fair.specs.declared.places.RwLockCallPlace.TheVariants.{Plain, PeekQueue, HandOver}
use Rattle.steps_rwlock_fair.specs.declared.places.RwLockCallPlace.TheVariants.{Bump}
use Rattle.steps_rwlock_fair.specs.declared.places.RwLockCallPlace.TheVariants.{Handed}
use Rattle.steps_rwlock_fair.specs.declared.hand_over.Taken.{Taken}
use Rattle.steps_rwlock_fair.specs.declared.hand_over.HandOverAt.{HandOverAt}
use Rattle.steps_rwlock_fair.specs.declared.hand_over.HandOverAt.TheVariants as handing
use Rattle.steps_rwlock_fair.specs.declared.handed.HandedAt.{HandedAt}
use Rattle.steps_rwlock_fair.specs.declared.handed.HandedAt.TheVariants as handed

-- ---------------------------------------------------------------- words

-- a successor's right adds this to the word
abbrev pub token_of : Option Want → ℕ
token_of None = 0
token_of (Some x) = token x

abbrev pub is_upgradable : Option Want → Bool
is_upgradable (Some Upgradable) = true
is_upgradable successor = false

abbrev pub any_taken : Taken → Bool
any_taken k = any_picked k.sharers k.successor

-- the rights of those that were taken add this to the word: sums and products of words wrap
abbrev pub tokens : Taken → ℕ
tokens k = plus ((k.sharers * 16) % 2 ^ 64) (token_of k.successor)

-- how many of them count
abbrev pub count_of_taken : Taken → ℕ
count_of_taken k = k.sharers + (if is_upgradable k.successor then 1 else 0)

-- whether there is room for them once an upgradable owner has gone
abbrev pub has_room : ℕ → Taken → ℕ → Bool
has_room limit k seen = nat_le ((count_in seen - 1) + count_of_taken k) limit

-- a word with its parked bit where somebody is left in the queue
abbrev pub parked_as : Bool → ℕ → ℕ
parked_as none_left word = (word - word % 2) + (if none_left then 0 else 1)

abbrev pub word_without : Access → ℕ → ℕ
word_without x seen = apply (op.Sub (token (wanted x))) seen

abbrev pub with_taken : Access → Taken → ℕ → ℕ
with_taken x k seen = parked_as k.none_left (plus (word_without x seen) (tokens k))

-- ---------------------------------------------------------------- a thread that enters

abbrev pub entering : Bool → RwLockPlace → RwLockCallPlace
entering bumps p = if bumps then Bump p else Plain p

abbrev pub enters_again : Access → RwLockCallPlace
enters_again x = Bump (rwlock_first (purpose.Enter x Patient))

-- after its release a bump enters again
abbrev pub released : Access → Bool → Next RwLockCallPlace
released x bumps = if bumps then At (enters_again x) else End Ok

-- ---------------------------------------------------------------- a thread that hands over

abbrev pub looked : ℕ → HandOverAt
looked seen = if has_parked seen then handing.Enter else handing.Free seen

-- where there is room the lock is handed over, and else the right is only given up
abbrev pub exchange_act : ℕ → ℕ → Access → Taken → ℕ → Act
exchange_act l limit x k seen =
    if has_room limit k seen
    then act.HandOver l (op.Exchange seen (with_taken x k seen))
    else act.Word l (op.Exchange seen (parked_as k.none_left (word_without x seen)))

abbrev pub note_by : Bool → note.Note
note_by handed = if handed then note.TheVariants.HandOff else note.TheVariants.Normal

abbrev pub hand_over_act : ℕ → Admission → Access → HandOverAt → Act
hand_over_act l a x handing.Load = act.Word l op.Load
hand_over_act l a x (handing.Free seen) = exchange l seen (word_without x seen)
hand_over_act l a x handing.Enter = act.Enter (One (2 * l))
hand_over_act l a x handing.Take = act.Take (2 * l) (whom.Picked None a.recursive)
hand_over_act l a x (handing.Store k) =
    act.HandOver l (op.Store (parked_as k.none_left (tokens k)))
hand_over_act l a x (handing.Look k) = act.Word l op.Load
hand_over_act l a x (handing.Exchange k seen) = exchange_act l a.limit x k seen
hand_over_act l a x (handing.Leave any handed) =
    act.Leave (One (2 * l)) (wakes_taken any (note_by handed))

-- the exchange of the thread found another value
abbrev pub freed_next : Access → ℕ → HandOverAt
freed_next access.Upgradable seen = looked seen
freed_next x seen = handing.Enter

abbrev pub took : Access → Taken → HandOverAt
took access.Upgradable k = handing.Look k
took x k = handing.Store k

abbrev pub hand_over_next : Admission → Access → Bool → HandOverAt → Reply → Next RwLockCallPlace
hand_over_next a x b handing.Load (Value seen) = At (HandOver x b (looked seen))
hand_over_next a x b (handing.Free expected) (Value seen) =
    if seen == expected then released x b else At (HandOver x b (freed_next x seen))
hand_over_next a x b handing.Enter Done = At (HandOver x b handing.Take)
hand_over_next a x b handing.Take (Picked n y none_left) =
    At (HandOver x b (took x (record { sharers = n; successor = y; none_left = none_left })))
hand_over_next a x b (handing.Store k) (Value seen) =
    At (HandOver x b (handing.Leave (any_taken k) true))
hand_over_next a x b (handing.Look k) (Value seen) = At (HandOver x b (handing.Exchange k seen))
hand_over_next a x b (handing.Exchange k expected) (Value seen) =
    if seen == expected then At
    (HandOver x b (handing.Leave (any_taken k) (has_room a.limit k seen)))
    else At (HandOver x b (handing.Exchange k seen))
hand_over_next a x b (handing.Leave any handed) Done = released x b
hand_over_next a x b to reply = At (HandOver x b to)

-- whether an operation on the word, which saw this value, gives the right up
abbrev pub lets_right_go : HandOverAt → ℕ → Bool
lets_right_go (handing.Free expected) seen = seen == expected
lets_right_go (handing.Exchange k expected) seen = seen == expected
lets_right_go (handing.Store k) seen = true
lets_right_go to seen = false

-- ---------------------------------------------------------------- bumps

-- a sharer gives its right up where a writer stands in the way of others, and an owner with more where some
-- thread may wait
abbrev pub gives_way : Admission → Access → ℕ → Bool
gives_way a access.Shared seen = has_writer seen && (not a.recursive || (count_in seen == 1))
gives_way a x seen = has_parked seen

abbrev pub gives_up_at : Access → RwLockCallPlace
gives_up_at access.Shared = Bump (rwlock_first (purpose.Release access.Shared))
gives_up_at access.Upgradable = HandOver access.Upgradable true handing.Load
gives_up_at access.Exclusive = HandOver access.Exclusive true handing.Enter

abbrev pub glance_next : Admission → Access → ℕ → Next RwLockCallPlace
glance_next a x seen = if gives_way a x seen then At (gives_up_at x) else End Ok

abbrev pub glances : Admission → Access → Reply → Next RwLockCallPlace
glances a x (Value seen) = glance_next a x seen
glances a x reply = At (PeekQueue x)

-- ---------------------------------------------------------------- a thread that was handed the lock

-- a writer beside readers is pending, and each thread that else was handed the lock has its right
abbrev pub handed_woken : Access → Patience → Bool → Bool → RwLockCallPlace
handed_woken access.Exclusive how b alone =
    if alone then Handed access.Exclusive how b handed.Accept
    else entering b (record
    { purpose = purpose.Enter access.Exclusive how; retries = false; at = at.Look })
handed_woken x how b alone = Handed x how b handed.Accept

abbrev pub accept_act : ℕ → Access → Act
accept_act l access.Exclusive = act.Word l op.Load
accept_act l x = act.Accept

abbrev pub handed_act : ℕ → Access → HandedAt → Act
handed_act l x (handed.Asleep by alone) = act.Sleep
handed_act l x handed.Accept = accept_act l x

abbrev pub handed_next : Access → Patience → Bool → HandedAt → Reply → Next RwLockCallPlace
handed_next x how b (handed.Asleep by alone) (Woken note.TheVariants.HandOff) =
    At (handed_woken x how b alone)
handed_next x how b handed.Accept Done = End (entered how)
handed_next x how b handed.Accept (Value seen) = End (entered how)
handed_next x how b to reply = At (Handed x how b to)

-- in the main queue, or taken of it
abbrev pub handed_by : Bool → RwLockPurpose → RwLockAt → ℕ → Bool → Option RwLockCallPlace
handed_by b (purpose.Enter x how) (at.Park (parking.Taken u)) by alone =
    Some (Handed x how b (handed.Asleep by alone))
handed_by b q to by alone = None

abbrev pub woken_with : Bool → RwLockPurpose → RwLockAt → Option RwLockCallPlace
woken_with b (purpose.Enter x how) (at.Park parking.Asleep) = Some (handed_woken x how b false)
woken_with b q to = None

abbrev pub given : Bool → RwLockPlace → Reply → Option RwLockCallPlace
given b p (HandedBy by alone) = handed_by b p.purpose p.at by alone
given b p (Woken note.TheVariants.HandOff) = woken_with b p.purpose p.at
given b p reply = None

-- ---------------------------------------------------------------- every place

abbrev pub call_act : ℕ → Admission → RwLockCallPlace → Act
call_act l a (Plain p) = rwlock_act l a p
call_act l a (Bump p) = rwlock_act l a p
call_act l a (PeekQueue x) = act.Word l op.Load
call_act l a (HandOver x b to) = hand_over_act l a x to
call_act l a (Handed x how b to) = handed_act l x to

abbrev pub plain_next : Next RwLockPlace → Next RwLockCallPlace
plain_next (At p) = At (Plain p)
plain_next (End answer) = End answer

abbrev pub bump_ended : RwLockPurpose → Answer → Next RwLockCallPlace
bump_ended (purpose.Release x) answer = At (enters_again x)
bump_ended q answer = End answer

abbrev pub bump_next : RwLockPurpose → Next RwLockPlace → Next RwLockCallPlace
bump_next q (At p) = At (Bump p)
bump_next q (End answer) = bump_ended q answer

abbrev pub unless_given : Option RwLockCallPlace → Next RwLockCallPlace → Next RwLockCallPlace
unless_given None n = n
unless_given (Some p) n = At p

abbrev pub call_next : Admission → RwLockCallPlace → Reply → Next RwLockCallPlace
call_next a (Plain p) reply =
    unless_given (given false p reply) (plain_next (rwlock_next a p reply))
call_next a (Bump p) reply =
    unless_given (given true p reply) (bump_next p.purpose (rwlock_next a p reply))
call_next a (PeekQueue x) reply = glances a x reply
call_next a (HandOver x b to) reply = hand_over_next a x b to reply
call_next a (Handed x how b to) reply = handed_next x how b to reply

-- ---------------------------------------------------------------- owners

abbrev pub without_owned : Access → Owners → Owners
without_owned access.Shared o = o
without_owned access.Upgradable o = record o { upgradable = None }
without_owned access.Exclusive o = record o { exclusive = None }

-- the owners of the lock after an operation on its word that saw this value, but for those to which it hands
-- the lock
abbrev pub call_owners : Admission → RwLockCallPlace → ℕ → ℕ → Owners → Owners
call_owners a (Plain p) t seen o = rwlock_owners a p t seen o
call_owners a (Bump p) t seen o = rwlock_owners a p t seen o
call_owners a (HandOver x b to) t seen o = if lets_right_go to seen then without_owned x o else o
call_owners a c t seen o = o

abbrev pub call_shares : Admission → RwLockCallPlace → ℕ → ℕ → Option ℕ
call_shares a (Plain p) seen n = rwlock_shares a p seen n
call_shares a (Bump p) seen n = rwlock_shares a p seen n
call_shares a c seen n = None
