-- The machine of the world: its state, and where each step leads.
use Rattle.std.specs.Prelude.{ℕ, zero, suc, Bool, true, false, Option, Some, None, if◌then◌else◌, ◌==◌, ◌*◌}
use Rattle.std.specs.Prelude.{◌+◌, ◌%◌, ◌^◌, sum, ◌&&◌, ◌||◌, not, List, [], ◌∷◌, ◌++◌, map, length, take}
use Rattle.std.specs.Prelude.{drop, replicate, nat_lt, is_some, is_none, slice_set, slice_index_or}
use Rattle.core_base.specs.declared.keys.Keys.{Keys}
use Rattle.core_base.specs.declared.keys.Keys.TheVariants as keys
use Rattle.core_base.specs.declared.ops.Op.{Op}
use Rattle.core_base.specs.declared.wants.Waiter.{Waiter}
use Rattle.core_base.specs.declared.wants.Want.{Want}
use Rattle.core_base.specs.declared.wants.Want.TheVariants.{Exclusive, Upgradable, Shared, Wait, CallOnce}
use Rattle.core_base.specs.declared.requeues.Requeue.{Requeue}
use Rattle.core_base.specs.declared.requeues.Requeue.TheVariants as requeue
use Rattle.core_base.specs.Words.{apply}
use Rattle.core_base.specs.Lines.{waiter, line, without, first_of, threads_of}
use Rattle.core_base.specs.Picks.{lock_picked, without_lock_picked}
use Rattle.core_base.specs.Requeues.{taken_by, moved_by}
use Rattle.std.specs.List.{filter}
use Rattle.spec_locks.specs.declared.kinds.Kind.{Kind}
use Rattle.spec_locks.specs.declared.kinds.Kind.TheVariants.{Mutex}
use Rattle.spec_locks.specs.declared.kinds.Kind.TheVariants as kinds
use Rattle.steps_base.specs.declared.owners.Owners.{Owners}
use Rattle.steps_base.specs.declared.owners.Fallback.TheVariants as fallback
use Rattle.steps_base.specs.declared.owners.Phase.TheVariants as phases
use Rattle.lot_steps.specs.declared.places.Place.{Place}
use Rattle.lot_steps.specs.declared.places.Place.TheVariants.{Idle}
use Rattle.steps_base.specs.declared.acts.Act.{Act}
use Rattle.steps_base.specs.declared.acts.Act.TheVariants.{Rest, Word, HandOver, Enter, Park, Stand, Take}
use Rattle.steps_base.specs.declared.acts.Act.TheVariants.{Remove, Leave, Sleep, Closure, End}
use Rattle.steps_base.specs.declared.acts.Act.TheVariants as act
use Rattle.steps_base.specs.declared.acts.Check.{Check}
use Rattle.steps_base.specs.declared.acts.Wakes.{Wakes}
use Rattle.steps_base.specs.declared.acts.Wakes.TheVariants as wakes
use Rattle.steps_base.specs.declared.acts.Reply.{Reply}
use Rattle.steps_base.specs.declared.acts.Reply.TheVariants.{Done, Value, Parked, Took, Picked, Requeued}
use Rattle.steps_base.specs.declared.acts.Reply.TheVariants.{Removed, TakenBy, MovedTo, HandedBy, Late, Woken}
use Rattle.steps_base.specs.declared.acts.Reply.TheVariants.{Closed}
use Rattle.steps_base.specs.declared.acts.TakeWhich.{TakeWhich}
use Rattle.steps_base.specs.declared.acts.TakeWhich.TheVariants as whom
use Rattle.spec_locks.specs.declared.calls.Call.{Call}
use Rattle.spec_locks.specs.declared.calls.Turn.{Turn}
use Rattle.spec_locks.specs.declared.calls.Turn.TheVariants as turn
use Rattle.spec_locks.specs.declared.calls.Step.{Step}
use Rattle.spec_locks.specs.declared.outcomes.Outcome.{Outcome}
use Rattle.spec_locks.specs.declared.outcomes.Outcome.TheVariants as outcome
use Rattle.spec_locks.specs.Kinds.{has_call, is_plain_mutex}
use Rattle.steps_base.specs.Acts.{holds, takes_effect, outcome_of}
use Rattle.steps_base.specs.Owners.{is_thread, with_exclusive}
use Rattle.spec_locks.specs.Calls.{lock_in, mutex_in, lock_of_right}
use Rattle.lot_steps.specs.Steps.{first_place, has_right, is_idle, act_of, next_place, next_act, owners_after}
use Rattle.lot_steps.specs.Steps.{shares_after, taker, wants, respins_from, late_key}
use Rattle.spec_locks.specs.Codes.{fills}
use Rattle.spec_locks.specs.Locks.{Taken, wants_shared}
use Rattle.spec_locks.specs.Purposes.{rules_of}
use Rattle.lot_machine.specs.declared.locks.Lock.{Lock}
use Rattle.lot_machine.specs.declared.hands.Successor.{Successor}

-- Each thread's place, each lock, each thread's number of shared rights of each lock, which thread is
-- inside the section of each key, and the line of each key. The mutex that a condition variable
-- shows stands with its owners, and its word says it too.
pub record State : Type 0 where
  pub places : List Place
  pub locks : List Lock
  pub shares : List (List ℕ)
  pub sections : List (Option ℕ)
  pub queues : List (List Waiter)

abbrev pub nobody : Owners
nobody = record {
  exclusive = None;
  pending = None;
  upgradable = None;
  phase = phases.New;
  shown = None;
}

-- the word of a new lock: 0, or 2 for each permit of a semaphore; it wraps at 64 bits, as each does
abbrev pub first_word : Kind → ℕ
first_word kinds.Mutex = 0
first_word kinds.Fair = 0
first_word (kinds.RwLock limit) = 0
first_word (kinds.Recursive limit) = 0
first_word kinds.Condvar = 0
first_word kinds.Once = 0
first_word (kinds.Semaphore permits) = 2 * permits % 2 ^ 64

abbrev pub unlocked : Kind → Lock
unlocked kind = record { kind = kind; word = first_word kind; owners = nobody; filled = false }

-- the lines of the keys from one on, of this many
abbrev pub lines_from : ℕ → ℕ → List Waiter → List (List Waiter)
lines_from key zero waiters = []
lines_from key (suc n) waiters = line key waiters ∷ lines_from (suc key) n waiters

-- nobody is in a call, nobody owns anything, and nobody waits
abbrev pub opening : List Kind → ℕ → State
opening kinds threads = record {
  places = replicate threads Idle;
  locks = map unlocked kinds;
  shares = replicate (length kinds) (replicate threads 0);
  sections = replicate (2 * length kinds) None;
  queues = replicate (2 * length kinds) [];
}

abbrev pub place_at : State → ℕ → Place
place_at w t = slice_index_or w.places t Idle

abbrev pub lock_at : State → ℕ → Lock
lock_at w l = slice_index_or w.locks l (unlocked Mutex)

abbrev pub word_at : State → ℕ → ℕ
word_at w l = (lock_at w l).word

abbrev pub owners_at : State → ℕ → Owners
owners_at w l = (lock_at w l).owners

abbrev pub kind_at : State → ℕ → Kind
kind_at w l = (lock_at w l).kind

-- whether its count was once at the limit, or above it
abbrev pub filled_at : State → ℕ → Bool
filled_at w l = (lock_at w l).filled

-- each thread's number of shared rights
abbrev pub shares_at : State → ℕ → List ℕ
shares_at w l = slice_index_or w.shares l (replicate (length w.places) 0)

abbrev pub queue_at : State → ℕ → List Waiter
queue_at w key = slice_index_or w.queues key []

abbrev pub section_at : State → ℕ → Option ℕ
section_at w key = slice_index_or w.sections key None

abbrev pub is_there : Option ℕ → Bool
is_there None = false
is_there (Some l) = true

-- ---------------------------------------------------------------- the effect of one act

-- a thread stands at another place
abbrev pub put : State → ℕ → Place → State
put w t p = record w { places = slice_set w.places t p }

-- a lock has this word and these owners
abbrev pub with_word : State → ℕ → ℕ → Owners → State
with_word w l word owners = record w {
  locks = slice_set w.locks l (record {
    kind = kind_at w l;
    word = word;
    owners = owners;
    filled = filled_at w l || fills (rules_of (kind_at w l)) word;
  });
}

-- a thread's number of shared rights of a lock
abbrev pub share_at : State → ℕ → ℕ → ℕ
share_at w l t = slice_index_or (shares_at w l) t 0

-- the numbers of shared rights, where that of t is another
abbrev pub shares_with : State → ℕ → ℕ → Option ℕ → List (List ℕ)
shares_with w l t None = w.shares
shares_with w l t (Some n) = slice_set w.shares l (slice_set (shares_at w l) t n)

-- an operation on a word, by which the thread may get the lock or give it up
abbrev pub state_after_operation : State → ℕ → Place → ℕ → Op → State
state_after_operation w t p l op =
    record (with_word w l (apply op (word_at w l)) (owners_after p t (word_at w l) (owners_at w l))) {
      shares = shares_with w l t (shares_after p (word_at w l) (share_at w l t));
    }

abbrev pub section_is_free : State → ℕ → Bool
section_is_free w key = is_none (section_at w key)

abbrev pub are_free : State → Keys → Bool
are_free w (keys.One key) = section_is_free w key
are_free w (keys.Two first second) = section_is_free w first && section_is_free w second

-- somebody is inside the sections now, or nobody
abbrev pub state_with_sections : State → Keys → Option ℕ → State
state_with_sections w (keys.One key) who =
    record w { sections = slice_set w.sections key who }
state_with_sections w (keys.Two first second) who =
    record w { sections = slice_set (slice_set w.sections first who) second who }

-- a thread leaves where it stands, and then stands after the last under a key
abbrev pub queues_with_last : List (List Waiter) → ℕ → ℕ → Want → List (List Waiter)
queues_with_last queues key t want =
    let others = map (without t) queues in
    slice_set others key (slice_index_or others key [] ++ waiter key t want ∷ [])

-- the first under a key goes
abbrev pub queues_without_first : List (List Waiter) → ℕ → List (List Waiter)
queues_without_first queues key = slice_set queues key (drop 1 (slice_index_or queues key []))

-- a thread leaves where it stands
abbrev pub queues_without : List (List Waiter) → ℕ → List (List Waiter)
queues_without queues t = map (without t) queues

abbrev pub state_after_park : State → ℕ → ℕ → ℕ → Check → Want → State
state_after_park w t l key check want =
    if holds check (word_at w l) then record w { queues = queues_with_last w.queues key t want }
    else w

-- something happens to a thread asleep
abbrev pub state_after_reply : State → ℕ → Reply → State
state_after_reply w t reply = put w t (next_place (place_at w t) reply)

-- a thread that t has in hand is told something, and no other
abbrev pub place_after_telling : ℕ → Reply → Place → Place
place_after_telling t reply p = if is_thread t (taker p) then next_place p reply else p

abbrev pub state_after_telling : State → ℕ → Reply → State
state_after_telling w t reply = record w { places = map (place_after_telling t reply) w.places }

-- the news of threads asleep, told one after another
abbrev pub places_told : Reply → List ℕ → List Place → List Place
places_told reply [] ps = ps
places_told reply (u ∷ us) ps =
    places_told reply us (slice_set ps u (next_place (slice_index_or ps u Idle) reply))

-- the thread by which the one at a place was taken, and what it wants
abbrev pub held_by : Option ℕ → Option Want → Option Taken
held_by (Some t) (Some x) = Some (record { by = t; want = x })
held_by t x = None

abbrev pub held : Place → Option Taken
held p = held_by (taker p) (wants p)

-- whether t has it in hand, and it wants to share
abbrev pub shares_in_hand : ℕ → Option Taken → Bool
shares_in_hand t None = false
shares_in_hand t (Some h) = (h.by == t) && wants_shared h.want

-- how many t has in hand that want to share
abbrev pub sharers_in_hand : ℕ → List Place → ℕ
sharers_in_hand t ps = length (filter (λ (p : Place). shares_in_hand t (held p)) ps)

-- the want of a taken thread, where t has it in hand and it wants more than to share
abbrev pub wants_more_in_hand : ℕ → Option Taken → Option Want
wants_more_in_hand t None = None
wants_more_in_hand t (Some h) =
    if (h.by == t) && not (wants_shared h.want) then Some h.want else None

abbrev pub successor_or : ℕ → Option Want → Option Successor → Option Successor
successor_or u None later = later
successor_or u (Some x) later = Some (record { thread = u; want = x })

-- the first that t has in hand and that wants more than to share, where the first place is that of u
abbrev pub successor_from : ℕ → ℕ → List Place → Option Successor
successor_from t u [] = None
successor_from t u (p ∷ ps) =
    successor_or u (wants_more_in_hand t (held p)) (successor_from t (suc u) ps)

abbrev pub want_of_successor : Option Successor → Option Want
want_of_successor None = None
want_of_successor (Some s) = Some s.want

-- each that t has in hand and that wants to share has one right more; a number wraps at 64 bits, as a word
-- does
abbrev pub with_share : Bool → ℕ → ℕ
with_share true n = (n + 1) % 2 ^ 64
with_share false n = n

abbrev pub shares_given : ℕ → List Place → List ℕ → List ℕ
shares_given t [] ns = ns
shares_given t (p ∷ ps) [] = []
shares_given t (p ∷ ps) (n ∷ ns) = with_share (shares_in_hand t (held p)) n ∷ shares_given t ps ns

abbrev pub owners_with_pending : ℕ → Owners → Owners
owners_with_pending u owners = record owners
    { pending = Some (record { thread = u; fallback = fallback.Nothing }) }

-- a writer owns where nobody shares, and else is pending, with nothing to fall back to
abbrev pub owners_of_successor : ℕ → Option Successor → Owners → Owners
owners_of_successor readers None owners = owners
owners_of_successor readers (Some s) owners = elim s.want [
  | Exclusive ↦ if readers == 0 then with_exclusive owners (Some s.thread)
      else owners_with_pending s.thread owners
  | Upgradable ↦ record owners { upgradable = Some s.thread }
  | Shared ↦ owners
  | Wait ↦ owners
  | CallOnce ↦ owners
]

-- the sharers of the lock when t has handed it over
abbrev pub shares_handed_over : State → ℕ → ℕ → List ℕ
shares_handed_over w t l = shares_given t w.places (shares_at w l)

-- Nobody shares the lock after the step.
abbrev pub unshared_then : State → ℕ → ℕ → Bool
unshared_then w t l = sum (shares_handed_over w t l) == 0

-- The owners after a hand-over, beside those that keep the lock.
abbrev pub owners_handed_over : State → ℕ → ℕ → Owners → Owners
owners_handed_over w t l keeps =
    owners_of_successor (sum (shares_handed_over w t l)) (successor_from t 0 w.places) keeps

-- the operation with which t hands the lock over: all that it has in hand own by what they want
abbrev pub state_after_hand_over : State → ℕ → Place → ℕ → Op → State
state_after_hand_over w t p l op =
    let keeps = owners_after p t (word_at w l) (owners_at w l) in
    record (with_word w l (apply op (word_at w l)) (owners_handed_over w t l keeps)) {
      shares = slice_set w.shares l (shares_handed_over w t l);
    }

-- the threads in hand are told that they were handed the lock, and whether nobody shares it then
abbrev pub hand_over_told : State → ℕ → ℕ → Reply
hand_over_told w t l = HandedBy t (unshared_then w t l)

-- where the operation fails, nobody is handed anything
abbrev pub state_after_hand_over_by : Bool → State → ℕ → Place → ℕ → Op → State
state_after_hand_over_by true w t p l op =
    state_after_telling (state_after_hand_over w t p l op) t (hand_over_told w t l)
state_after_hand_over_by false w t p l op = state_after_operation w t p l op

abbrev pub state_after_taking : State → ℕ → Option ℕ → State
state_after_taking w t None = w
state_after_taking w t (Some u) = state_after_reply w u (TakenBy t)

abbrev pub state_after_take_first : State → ℕ → ℕ → State
state_after_take_first w t key =
    state_after_taking (record w { queues = queues_without_first w.queues key }) t
    (first_of (queue_at w key))

-- t has taken these threads of the line of a key, and the others are left
abbrev pub state_after_takes : State → ℕ → ℕ → List ℕ → List Waiter → State
state_after_takes w t key taken left =
    record w {
      queues = slice_set w.queues key left;
      places = places_told (TakenBy t) taken w.places;
    }

abbrev pub state_after_take : State → ℕ → ℕ → TakeWhich → State
state_after_take w t key whom.First = state_after_take_first w t key
state_after_take w t key (whom.Picked start recursive) =
    state_after_takes w t key (threads_of (lock_picked start recursive (queue_at w key)))
    (without_lock_picked start recursive key (queue_at w key))
state_after_take w t key whom.All =
    state_after_takes w t key (threads_of (queue_at w key)) []

-- the waiters left in a line after a requeue
abbrev pub left_in_line : Requeue → List Waiter → List Waiter
left_in_line requeue.One q = drop 1 q
left_in_line how q = []

-- a waiter that is moved stands after the last of the other line, and wants to own alone
abbrev pub moved_under : ℕ → List Waiter → List Waiter
moved_under key q = map (λ (x : Waiter). waiter key x.thread Exclusive) q

-- the waiters that it moves, by the threads of the line
abbrev pub moved_threads : Requeue → List ℕ → List ℕ
moved_threads requeue.One us = take 1 us
moved_threads requeue.All us = us
moved_threads requeue.TakeOneMoveRest us = drop 1 us

abbrev pub queues_requeued : List (List Waiter) → ℕ → ℕ → Requeue → List (List Waiter)
queues_requeued queues from to how =
    let q = slice_index_or queues from [] in
    let others = slice_set queues from (left_in_line how q) in
    slice_set others to (slice_index_or others to [] ++ moved_under to (moved_by how q))

abbrev pub listed : Option ℕ → List ℕ
listed None = []
listed (Some u) = u ∷ []

abbrev pub state_after_requeue : State → ℕ → ℕ → ℕ → Requeue → State
state_after_requeue w t from to how = record w {
  queues = queues_requeued w.queues from to how;
  places = places_told (MovedTo to) (moved_threads how (threads_of (queue_at w from)))
      (places_told (TakenBy t) (listed (taken_by how (queue_at w from))) w.places);
}

abbrev pub state_after_wake : State → ℕ → Wakes → State
state_after_wake w t wakes.Nobody = w
state_after_wake w t (wakes.All note) = state_after_telling w t (Woken note)

abbrev pub state_after_leave : State → ℕ → Keys → Wakes → State
state_after_leave w t keys wakes = state_after_wake (state_with_sections w keys None) t wakes

-- whether an act can be done now
abbrev pub can_do : State → Act → Bool
can_do w (Enter keys) = are_free w keys
can_do w Rest = false
can_do w Sleep = false
can_do w (Closure state) = false
can_do w (End answer) = false
can_do w act = true

-- the state after an act of a thread at a place
abbrev pub state_after_act : State → ℕ → Place → Act → State
state_after_act w t p (Word l op) = state_after_operation w t p l op
state_after_act w t p (HandOver l op) =
    state_after_hand_over_by (takes_effect op (word_at w l)) w t p l op
state_after_act w t p (Enter keys) = state_with_sections w keys (Some t)
state_after_act w t p (Park l key check wanted) = state_after_park w t l key check wanted
state_after_act w t p (Stand key want) = record w { queues = queues_with_last w.queues key t want }
state_after_act w t p (Take key whom) = state_after_take w t key whom
state_after_act w t p (act.Requeue from to how) = state_after_requeue w t from to how
state_after_act w t p (Remove key) = record w { queues = queues_without w.queues t }
state_after_act w t p (Leave keys wakes) = state_after_leave w t keys wakes
state_after_act w t p act = w

-- the outcome of a take
abbrev pub reply_to_take : State → ℕ → ℕ → TakeWhich → Reply
reply_to_take w t key whom.First =
    Took (is_there (first_of (queue_at w key))) (length (drop 1 (queue_at w key)) == 0)
reply_to_take w t key (whom.Picked start recursive) =
    let v = state_after_take w t key (whom.Picked start recursive) in
    Picked (sharers_in_hand t v.places) (want_of_successor (successor_from t 0 v.places))
    (length (without_lock_picked start recursive key (queue_at w key)) == 0)
reply_to_take w t key whom.All = Took (not (length (queue_at w key) == 0)) true

-- What an act tells its thread.
abbrev pub reply_to : State → ℕ → Act → Reply
reply_to w t (Word l op) = Value (word_at w l)
reply_to w t (HandOver l op) = Value (word_at w l)
reply_to w t (Park l key check x) = Parked (holds check (word_at w l))
reply_to w t (Take key whom) = reply_to_take w t key whom
reply_to w t (act.Requeue from to how) =
    Requeued (length (listed (taken_by how (queue_at w from))) + length
    (moved_by how (queue_at w from)))
    (length (left_in_line how (queue_at w from)) == 0)
reply_to w t (Remove key) = Removed (length (without t (queue_at w key)) == 0)
reply_to w t act = Done

-- ---------------------------------------------------------------- turns

abbrev pub can_go : State → ℕ → Bool
can_go w t = can_do w (act_of (place_at w t))

abbrev pub go_reply : State → ℕ → Reply
go_reply w t = reply_to w t (act_of (place_at w t))

-- the act of a thread that is at a place may befall the thread too, and it goes on from where that
-- has left it
abbrev pub state_after_going : State → ℕ → Place → State
state_after_going w t p =
    let v = state_after_act w t p (act_of p) in
    put v t (next_place (place_at v t) (reply_to w t (act_of p)))

abbrev pub going_outcome : State → ℕ → Place → Outcome
going_outcome w t p = outcome_of
    (next_act (place_at (state_after_act w t p (act_of p)) t) (reply_to w t (act_of p)))

-- from where it stands
abbrev pub state_after_go : State → ℕ → State
state_after_go w t = state_after_going w t (place_at w t)

abbrev pub go_outcome : State → ℕ → Outcome
go_outcome w t = going_outcome w t (place_at w t)

abbrev pub runs_closure : Act → Bool
runs_closure (Closure state) = true
runs_closure act = false

-- where the answer of its closure leads a thread
abbrev pub closed_place : State → ℕ → Bool → Place
closed_place w t succeeded = next_place (place_at w t) (Closed succeeded)

-- the closure of a thread has answered, and the thread goes on by it
abbrev pub can_close : State → ℕ → Bool → Bool
can_close w t succeeded =
    runs_closure (act_of (place_at w t)) && can_do w (act_of (closed_place w t succeeded))

abbrev pub state_after_close : State → ℕ → Bool → State
state_after_close w t succeeded = state_after_go (put w t (closed_place w t succeeded)) t

abbrev pub close_outcome : State → ℕ → Bool → Outcome
close_outcome w t succeeded = go_outcome (put w t (closed_place w t succeeded)) t

-- a call names no mutex, or one that is there
abbrev pub names_mutex_there : State → Option ℕ → Bool
names_mutex_there w None = true
names_mutex_there w (Some m) = nat_lt m (length w.locks) && is_plain_mutex (kind_at w m)

-- the thread has the right that the call needs
abbrev pub holds_right : State → ℕ → Call → Bool
holds_right w t call = has_right call t (owners_at w (lock_of_right call)) (share_at w (lock_of_right call) t)

-- the lock is there, has the call, and the thread has the right that the call needs
abbrev pub is_open_to : State → ℕ → Call → Bool
is_open_to w t call =
    nat_lt (lock_in call) (length w.locks)
    && (has_call (kind_at w (lock_in call)) call
    && (names_mutex_there w (mutex_in call) && holds_right w t call))

abbrev pub can_begin : State → ℕ → Call → Bool
can_begin w t call = is_idle (place_at w t) && is_open_to w t call

abbrev pub state_after_begin : State → ℕ → Call → State
state_after_begin w t call = put w t (first_place (kind_at w (lock_in call)) call)

-- a thread may look at the word once more in place of its act
abbrev pub can_spin : State → ℕ → Bool
can_spin w t = is_some (respins_from (place_at w t))

-- the thread goes on from where it looks
abbrev pub state_after_look : State → ℕ → Option Place → State
state_after_look w t None = w
state_after_look w t (Some p) = state_after_go (put w t p) t

abbrev pub look_outcome : State → ℕ → Option Place → Outcome
look_outcome w t None = outcome.NotNow
look_outcome w t (Some p) = go_outcome (put w t p) t

abbrev pub state_after_spin : State → ℕ → State
state_after_spin w t = state_after_look w t (respins_from (place_at w t))

abbrev pub spin_outcome : State → ℕ → Outcome
spin_outcome w t = look_outcome w t (respins_from (place_at w t))

abbrev pub is_free_under : State → Option ℕ → Bool
is_free_under w None = false
is_free_under w (Some key) = section_is_free w key

-- a thread sleeps in a timed call, and the section of the queue where it stands is free
abbrev pub can_be_late : State → ℕ → Bool
can_be_late w t = is_free_under w (late_key (place_at w t))

-- the thread enters that section
abbrev pub state_after_late_under : State → ℕ → ℕ → State
state_after_late_under w t key =
    state_after_reply (state_with_sections w (keys.One key) (Some t)) t Late

abbrev pub state_after_late_on : State → ℕ → Option ℕ → State
state_after_late_on w t None = w
state_after_late_on w t (Some key) = state_after_late_under w t key

abbrev pub state_after_late : State → ℕ → State
state_after_late w t = state_after_late_on w t (late_key (place_at w t))

-- whether a turn is possible for a thread that is there
abbrev pub can_turn : State → ℕ → Turn → Bool
can_turn w t (turn.Begin call) = can_begin w t call
can_turn w t turn.Go = can_go w t
can_turn w t turn.Spin = can_spin w t
can_turn w t turn.Late = can_be_late w t
can_turn w t turn.Ok = can_close w t true
can_turn w t turn.Err = can_close w t false

abbrev pub state_after_turn : State → ℕ → Turn → State
state_after_turn w t (turn.Begin call) = state_after_begin w t call
state_after_turn w t turn.Go = state_after_go w t
state_after_turn w t turn.Spin = state_after_spin w t
state_after_turn w t turn.Late = state_after_late w t
state_after_turn w t turn.Ok = state_after_close w t true
state_after_turn w t turn.Err = state_after_close w t false

abbrev pub turn_outcome : State → ℕ → Turn → Outcome
turn_outcome w t turn.Go = go_outcome w t
turn_outcome w t turn.Spin = spin_outcome w t
turn_outcome w t turn.Ok = close_outcome w t true
turn_outcome w t turn.Err = close_outcome w t false
turn_outcome w t _ = outcome.Step

-- ---------------------------------------------------------------- steps and runs

abbrev pub is_possible : State → Step → Bool
is_possible w s = nat_lt s.thread (length w.places) && can_turn w s.thread s.turn

-- the state after a step; one that isn't possible changes nothing
abbrev pub after : State → Step → State
after w s = if is_possible w s then state_after_turn w s.thread s.turn else w

-- the outcome of a step
abbrev pub step_outcome : State → Step → Outcome
step_outcome w s = if is_possible w s then turn_outcome w s.thread s.turn
    else outcome.NotNow

-- the state after steps one after another, and what they answer
abbrev pub after_steps : State → List Step → State
after_steps w [] = w
after_steps w (s ∷ ss) = after_steps (after w s) ss

abbrev pub step_outcomes : State → List Step → List Outcome
step_outcomes w [] = []
step_outcomes w (s ∷ ss) = step_outcome w s ∷ step_outcomes (after w s) ss

-- ---------------------------------------------------------------- solo runs

abbrev pub go_of : ℕ → Step
go_of t = record { thread = t; turn = turn.Go }

-- where steps of a thread alone have led, and the last outcome that came of a possible one
pub record SoloEnd : Type 0 where
  pub state : State
  pub outcome : Outcome

-- the outcome of one more step: none was possible, the thread goes on, or it rests
abbrev pub alone_after : Outcome → State → State → Outcome → SoloEnd → SoloEnd
alone_after outcome.NotNow w v last more = record { state = w; outcome = last }
alone_after outcome.Step w v last more = more
alone_after rests w v last more = record { state = v; outcome = rests }

-- at most n steps of a thread alone, until its call ends, sleeps or is in its closure, or until
-- none is possible
unfoldable pub solo : ℕ → State → ℕ → Outcome → SoloEnd
solo zero w t last = record { state = w; outcome = last }
solo (suc n) w t last = alone_after (step_outcome w (go_of t)) w (after w (go_of t)) last
    (solo n (after w (go_of t)) t outcome.Step)
