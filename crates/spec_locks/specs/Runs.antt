-- A run of the abstract locks: each step is one event, which is one case of one lock, a move of a
-- condition variable's waiters to their mutex, or nothing; each answer is true, and a step is
-- refused exactly where it isn't possible.
use Rattle.std.specs.Prelude.{ℕ, Option, Some, None, ◌<◌, ◌≤◌, ◌≡◌, ◌≢◌, ◌⊎◌, List, [], ◌∷◌, ◌++◌, length}
use Rattle.std.specs.Prelude.{nat_le, Bool, true, false, if◌then◌else◌, ◌==◌, ◌*◌, ◌+◌, ◌↔◌}
use Rattle.core_base.specs.declared.keys.Keys.{Keys}
use Rattle.core_base.specs.declared.keys.Keys.TheVariants as keys
use Rattle.core_base.specs.declared.keys.Line.TheVariants.{Main}
use Rattle.core_base.specs.Keys.{key_of}
use Rattle.core_base.specs.declared.wants.Want.{Want}
use Rattle.core_base.specs.declared.wants.Want.TheVariants.{Exclusive}
use Rattle.spec_locks.specs.declared.kinds.Kind.{Kind}
use Rattle.spec_locks.specs.declared.calls.Call.{Call}
use Rattle.spec_locks.specs.declared.calls.Turn.{Turn}
use Rattle.spec_locks.specs.declared.calls.Turn.TheVariants as turn
use Rattle.spec_locks.specs.declared.calls.Step.{Step}
use Rattle.spec_locks.specs.declared.outcomes.Answer.{Answer}
use Rattle.spec_locks.specs.declared.outcomes.Answer.TheVariants as answer
use Rattle.spec_locks.specs.declared.outcomes.Outcome.{Outcome}
use Rattle.spec_locks.specs.declared.outcomes.Outcome.TheVariants as outcome
use Rattle.spec_locks.specs.declared.outcomes.OnceState.{OnceState}
use Rattle.spec_locks.specs.declared.outcomes.OnceState.TheVariants as once_state
use Rattle.spec_locks.specs.Calls.{lock_in}
use Rattle.spec_locks.specs.Kinds.{is_plain_mutex}
use Rattle.spec_locks.specs.Onces.{Phase, New, Poisoned, InProgress, Done, OnceCase, Start, Finish, Fail}
use Rattle.spec_locks.specs.Onces.{Rest}
use Rattle.spec_locks.specs.Condvars.{moved_of, taken_of, line_of}
use Rattle.spec_locks.specs.Locks.{LockState, Queued, taking, Taken, LockCase, Enter, Pend, Settle, Leave}
use Rattle.spec_locks.specs.Locks.{Park, Aside, Wake, HandOff, Late, OfOnce, Look, OfCondvar, SeeOwner}
use Rattle.spec_locks.specs.Locks.{Condvar, Rules, Rights, Mutex, Needs, after_case, rights_of, with_right}
use Rattle.spec_locks.specs.Locks.{without_right, Owns, IsFree, IsBlocked, count, readers, putting, standing}
use Rattle.spec_locks.specs.Locks.{HasTakenNobody, IsLockState, left_after, opening_lock, times}
use Rattle.spec_locks.specs.Purposes.{Purpose, Enters, Releases, Converts, Bumps, CallsOnce, Awaits, Waits}
use Rattle.spec_locks.specs.Purposes.{Notifies, CondvarMemory, Blank, Saw, SawOwner, HasMoved, WasMoved}
use Rattle.spec_locks.specs.Purposes.{WasNotified}
use Rattle.spec_locks.specs.Purposes.{Patience, Patient, Timed, Try, lock_for, purpose_of, rules_of, MayWait}
use Rattle.spec_locks.specs.Purposes.{IsMadeOf}

-- the memory of a call: what its answer needs of earlier steps, and whether it tries again
pub record CallState : Type 0 where
  -- the goal of the call; none between calls
  pub purpose : Option Purpose
  -- the ownership of the thread at each lock as the call began
  pub former : ℕ → Rights
  -- the lock whose queue it left because its time was up
  pub gave_up : Option ℕ
  -- the lock that it tries again since it was woken
  pub retries : Option ℕ
  -- whether it has given its right up, or its run of a `Once` has begun
  pub released : Bool
  -- whether its time is up
  pub late : Bool
  -- whether its run of a `Once` failed
  pub failed : Bool
  -- a condition variable: what it has seen and moved, and what befell it
  pub recalls : CondvarMemory

-- how a thread stands between two steps
pub record Status : Type 0 where
  -- the thread sleeps until another thread wakes it
  pub asleep : Bool
  -- the thread runs the closure of its call
  pub in_closure : Bool
  -- the sections that its next step enters
  pub enters : Option Keys
  -- the thread may look at the word once more in place of its next step
  pub may_spin : Bool

-- locks, and threads that call them
pub record LocksState : Type 0 where
  pub threads : ℕ
  pub size : ℕ
  pub kinds : ℕ → Kind
  pub locks : ℕ → LockState
  -- the thread inside the section of each key
  pub inside : ℕ → Option ℕ
  pub calls : ℕ → CallState
  pub stances : ℕ → Status

abbrev pub rules_at : LocksState → ℕ → Rules
rules_at w l = rules_of (w.kinds l)

-- the ownership of a thread at each lock
abbrev pub rights_in : LocksState → ℕ → ℕ → Rights
rights_in w t l = rights_of (w.locks l) t

abbrev pub new_call : Option Purpose → (ℕ → Rights) → CallState
new_call purpose former =
    record {
      purpose = purpose;
      former = former;
      gave_up = None;
      retries = None;
      released = false;
      late = false;
      failed = false;
      recalls = Blank;
    }

abbrev pub no_rights : Rights
no_rights = record { exclusive = 0; pending = 0; upgradable = 0; shared = 0 }

-- facts of owners and queues in every state, at each lock
abbrev pub AreLockStates : LocksState → Type 0
AreLockStates w = (l : ℕ) → IsLockState (rules_at w l) (w.locks l)

-- between its calls a thread remembers nothing
abbrev pub no_call : CallState
no_call = new_call None (λ l. no_rights)

-- The stance of a thread in no call: it is awake.
abbrev pub no_stance : Status
no_stance = record { asleep = false; in_closure = false; enters = None; may_spin = false }

-- nobody owns, nobody waits, nobody is in a call, and nobody is inside a section
pub record IsOpening (w : LocksState) : Type 0 where
  pub locks : (l : ℕ) → w.locks l ≡ opening_lock w.threads
  pub calls : (t : ℕ) → w.calls t ≡ no_call
  pub inside : (key : ℕ) → w.inside key ≡ None
  pub stances : (t : ℕ) → w.stances t ≡ no_stance

-- ---------------------------------------------------------------- the effect of a step

-- nothing, or one case of one lock; or a notification of the first waiter, or of all, moves so many
-- to a mutex that it saw owned or free
pub data Event : Type 0 where
  Nothing : Event
  AtLock : (lock : ℕ) → LockCase → Event
  Moves : (condvar mutex : ℕ) → (all owned : Bool) → (number : ℕ) → Event

-- the waiters that a notification moves stand after the last that waits for the mutex; of a free mutex the
-- first of them is in its hand
abbrev pub joined_by : Bool → ℕ → List Queued → LockState → LockState
joined_by owned t moved s =
    record s {
      queue = s.queue ++ line_of owned moved;
      taken = taking t (taken_of owned moved) s.taken;
    }

abbrev pub locks_after : LocksState → ℕ → Event → ℕ → LockState
locks_after w t Nothing = w.locks
locks_after w t (AtLock l case) = putting w.locks l (after_case (rules_at w l) case (w.locks l) t)
locks_after w t (Moves c m all owned number) =
    putting (putting w.locks c (left_after all (w.locks c))) m
    (joined_by owned t (moved_of all (w.locks c).queue) (w.locks m))

-- a thread's time is up, and it leaves the queue of this lock: a wait that was moved to the queue of its
-- mutex was notified all the same
abbrev pub gives_up : ℕ → CondvarMemory → CallState → CallState
gives_up l WasMoved c = record c { recalls = WasNotified; late = false }
gives_up l recalls c = record c { gave_up = Some l }

-- the memory of the step's thread: an ownership, a run, or a place in a queue, ends its retry
abbrev pub going_on : Event → CallState → CallState
going_on (AtLock l Late) c = gives_up l c.recalls c
going_on (AtLock l (Enter x)) c = record c { retries = None }
going_on (AtLock l Pend) c = record c { retries = None }
going_on (AtLock l Settle) c = record c { retries = None }
going_on (AtLock l (Park x)) c = record c { retries = None }
going_on (AtLock l Aside) c = record c { retries = None }
going_on (AtLock l (Leave x)) c = record c { released = true }
going_on (AtLock l (HandOff x successor)) c = record c { released = true }
going_on (AtLock l (OfOnce (Start forced))) c = record c { retries = None; released = true }
going_on (AtLock l (OfOnce (Rest x forced))) c = record c { retries = None }
going_on (AtLock l (OfOnce Fail)) c = record c { failed = true }
going_on (AtLock l (OfCondvar (Look (Some m)))) c = record c { recalls = Saw m }
going_on (AtLock l (SeeOwner owned)) c = record c { recalls = SawOwner l owned }
going_on (Moves l m all owned number) c = record c { recalls = HasMoved m number }
going_on event c = c

abbrev pub is_taken_by : ℕ → Option Taken → Bool
is_taken_by t None = false
is_taken_by t (Some h) = h.by == t

-- a waiter was notified that was moved to the queue of its mutex, and is woken or handed it
abbrev pub after_wake : CondvarMemory → CondvarMemory
after_wake WasMoved = WasNotified
after_wake recalls = recalls

abbrev pub is_among : ℕ → List Queued → Bool
is_among u q = nat_le 1 (times u q)

-- the memory of those that a notification moves to their mutex, or takes
abbrev pub if_moved : ℕ → List Queued → CallState → CallState
if_moved u moved c = if is_among u moved then record c { recalls = WasMoved } else c

-- The call of a thread after an event: one that is woken tries the lock again, and one that was handed it
-- doesn't. A waiter that was notified knows it.
abbrev pub woken : LocksState → ℕ → Event → ℕ → CallState → CallState
woken w t (AtLock l Wake) u c =
    if is_taken_by t ((w.locks l).taken u)
    then record c { retries = Some l; recalls = after_wake c.recalls } else c
woken w t (AtLock l (HandOff x successor)) u c =
    if is_taken_by t ((w.locks l).taken u)
    then record c { retries = None; recalls = after_wake c.recalls }
    else c
woken w t (Moves l m all owned number) u c = if_moved u (moved_of all (w.locks l).queue) c
woken w t event u c = c

-- a call that ends is forgotten; a wait's own release of its mutex may wake it
abbrev pub unless_ended : Outcome → CallState → CallState
unless_ended (outcome.End a) c = no_call
unless_ended o c = c

abbrev pub calls_after : LocksState → ℕ → Event → Outcome → ℕ → CallState
calls_after w t event o u =
    if u == t then unless_ended o (woken w t event t (going_on event (w.calls t)))
    else woken w t event u (w.calls u)

-- nobody leaves a queue but whose time is up
abbrev pub IsTimely : Bool → LockCase → Type 0
IsTimely late Late = late ≡ true
IsTimely late case = Unit {0}

-- the call is made of the case, and what the case needs is there
abbrev pub MayDo : LocksState → ℕ → ℕ → LockCase → Option Purpose → Type 0
MayDo w t l case None = ⊥
MayDo w t l case (Some purpose) =
    IsMadeOf purpose (w.calls t).gave_up (w.calls t).released (w.calls t).recalls l case
    × Needs (rules_at w l) case (w.locks l) t
    × IsTimely (w.calls t).late case

-- a notification moves the first waiter, or all: there are some, each waits with this mutex and
-- stands nowhere there, and it has nobody in its hand
pub record MayMove (w : LocksState) (t c m : ℕ) (all owned : Bool) (n : ℕ) : Type 0 where
  pub notifies : (w.calls t).purpose ≡ Some (Notifies c all)
  pub sorts : ((rules_at w c).sort ≡ Condvar) × ((rules_at w m).sort ≡ Mutex)
  pub saw : (w.calls t).recalls ≡ SawOwner m owned
  pub some : n ≢ 0
  pub number : n ≡ length (moved_of all (w.locks c).queue)
  pub wait : (u : ℕ) → is_among u (moved_of all (w.locks c).queue) ≡ true
      → ((timed : Bool) × ((w.calls u).purpose ≡ Some (Waits c m timed)))
      × (standing u (w.locks m) ≡ 0)
  pub free : HasTakenNobody (w.locks m) t

abbrev pub MayHappen : LocksState → ℕ → Event → Type 0
MayHappen w t Nothing = Unit {0}
MayHappen w t (AtLock l case) = MayDo w t l case (w.calls t).purpose
MayHappen w t (Moves c m all owned number) = MayMove w t c m all owned number

-- ---------------------------------------------------------------- answers

-- one right more at one lock
abbrev pub one_more_at : ℕ → Want → (ℕ → Rights) → ℕ → Rights
one_more_at l x rights = putting rights l (with_right x (rights l))

-- The rights with one less at a lock.
abbrev pub one_less_at : ℕ → Want → (ℕ → Rights) → ℕ → Rights
one_less_at l x rights = putting rights l (without_right x (rights l))

-- the thread owns what it owned as its call began
abbrev pub Keeps : LocksState → ℕ → CallState → Type 0
Keeps w t c = (k : ℕ) → rights_in w t k ≡ c.former k

-- The thread has one right more, which it got in this call.
abbrev pub Gains : LocksState → ℕ → CallState → ℕ → Want → Type 0
Gains w t c l x = (k : ℕ) → rights_in w t k ≡ one_more_at l x c.former k

-- The thread has one right less.
abbrev pub Loses : LocksState → ℕ → CallState → ℕ → Want → Type 0
Loses w t c l x = (k : ℕ) → one_more_at l x (rights_in w t) k ≡ c.former k

-- The thread has one right in place of another.
abbrev pub Replaces : LocksState → ℕ → CallState → ℕ → Want → Want → Type 0
Replaces w t c l x y = (k : ℕ) → one_more_at l x (rights_in w t) k ≡ one_more_at l y c.former k

-- only the limit keeps it out
abbrev pub IsFull : LocksState → ℕ → Want → Type 0
IsFull w l x = (x ≢ Exclusive) × IsFree (rules_at w l) (w.locks l) x
    × ((rules_at w l).limit ≤ count (w.locks l))

-- why a try may fail: it is blocked; a writer's try at a reader-writer lock may fail also where a
-- waiter was and is gone
abbrev pub MayRefuse : Rules → LockState → Want → Type 0
MayRefuse r s Exclusive = r.sort ≡ Mutex → IsBlocked r s Exclusive
MayRefuse r s x = IsBlocked r s x

abbrev pub EntersAnswer : LocksState → ℕ → CallState → ℕ → Want → Patience → Answer → Type 0
EntersAnswer w t c l x Patient answer.Ok = Owns (w.locks l) t x × Gains w t c l x
EntersAnswer w t c l x Timed answer.Yes = Owns (w.locks l) t x × Gains w t c l x
EntersAnswer w t c l x Timed answer.No = (c.gave_up ≡ Some l) × Keeps w t c
EntersAnswer w t c l x Try answer.Yes = Owns (w.locks l) t x × Gains w t c l x
EntersAnswer w t c l x Try answer.No =
    MayRefuse (rules_at w l) (w.locks l) x × Keeps w t c
EntersAnswer w t c l x how answer.ReadersFull = IsFull w l x × Keeps w t c
EntersAnswer w t c l x how a = ⊥

abbrev pub ConvertsAnswer : LocksState → ℕ → CallState → ℕ → Want → Want → Patience → Answer
    → Type 0
ConvertsAnswer w t c l x y Patient answer.Ok = Replaces w t c l x y
ConvertsAnswer w t c l x y Timed answer.Yes = Replaces w t c l x y
ConvertsAnswer w t c l x y Timed answer.No = (c.gave_up ≡ Some l) × Keeps w t c
ConvertsAnswer w t c l x y Try answer.Yes = Replaces w t c l x y
ConvertsAnswer w t c l x y Try answer.No = (1 ≤ readers (w.locks l)) × Keeps w t c
ConvertsAnswer w t c l x y how a = ⊥

abbrev pub BumpsAnswer : LocksState → ℕ → CallState → ℕ → Want → Answer → Type 0
BumpsAnswer w t c l x answer.Ok = Owns (w.locks l) t x × Keeps w t c
BumpsAnswer w t c l x answer.ReadersFull = IsFull w l x × Loses w t c l x
BumpsAnswer w t c l x a = ⊥

-- a `Once` is done, or poisoned for a thread that isn't forced; or the thread's own run failed, and then the
-- call says so alone
abbrev pub CallsOnceAnswer : LocksState → ℕ → CallState → ℕ → Bool → Answer → Type 0
CallsOnceAnswer w t c l forced answer.Ok =
    (c.failed ≡ false) × ((w.locks l).phase ≡ Done) × Keeps w t c
CallsOnceAnswer w t c l forced answer.Poisoned =
    (c.failed ≡ false) × ((w.locks l).phase ≡ Poisoned) × (forced ≡ false) × Keeps w t c
CallsOnceAnswer w t c l forced answer.Failed = (c.failed ≡ true) × Keeps w t c
CallsOnceAnswer w t c l forced a = ⊥

-- a wait with a deadline answers no only where it gave up
abbrev pub AwaitsAnswer : LocksState → ℕ → CallState → ℕ → Bool → Bool → Answer → Type 0
AwaitsAnswer w t c l forced false answer.Ok = ((w.locks l).phase ≡ Done) × Keeps w t c
AwaitsAnswer w t c l forced true answer.Yes = ((w.locks l).phase ≡ Done) × Keeps w t c
AwaitsAnswer w t c l forced true answer.No = (c.gave_up ≡ Some l) × Keeps w t c
AwaitsAnswer w t c l forced timed answer.Poisoned =
    ((w.locks l).phase ≡ Poisoned) × (forced ≡ false) × Keeps w t c
AwaitsAnswer w t c l forced timed a = ⊥

-- the mutex of a wait is owned again, got since the wait released it
abbrev pub HasAgain : LocksState → ℕ → CallState → Type 0
HasAgain w t c = (c.released ≡ true) × Keeps w t c

-- a notification has moved it
abbrev pub IsNotified : CondvarMemory → Type 0
IsNotified WasMoved = Unit {0}
IsNotified WasNotified = Unit {0}
IsNotified recalls = ⊥

-- a mutex is shown, and not this one
abbrev pub ShowsOther : LockState → ℕ → Type 0
ShowsOther s m = (s.shown ≢ None) × (s.shown ≢ Some m)

abbrev pub WaitsAnswer : LocksState → ℕ → CallState → ℕ → ℕ → Bool → Answer → Type 0
WaitsAnswer w t c l m false answer.Ok = IsNotified c.recalls × HasAgain w t c
WaitsAnswer w t c l m true answer.Notified = IsNotified c.recalls × HasAgain w t c
WaitsAnswer w t c l m true answer.TimedOut =
    (c.gave_up ≡ Some l) × (IsNotified c.recalls → ⊥) × HasAgain w t c
WaitsAnswer w t c l m timed answer.TwoMutexes =
    (c.released ≡ false) × ShowsOther (w.locks l) m × Keeps w t c
WaitsAnswer w t c l m timed a = ⊥

-- a notification moved nobody: it saw no mutex shown, or the mutex that it saw first is no longer shown
abbrev pub MovedNobody : LockState → CondvarMemory → Type 0
MovedNobody s Blank = s.shown ≡ None
MovedNobody s (Saw m) = s.shown ≢ Some m
MovedNobody s recalls = ⊥

abbrev pub HasMovedSome : ℕ → CondvarMemory → Type 0
HasMovedSome number recalls = (m : ℕ) × (recalls ≡ HasMoved m number)

abbrev pub NotifiesAnswer : LocksState → ℕ → CallState → ℕ → Bool → Answer → Type 0
NotifiesAnswer w t c l false answer.Yes = HasMovedSome 1 c.recalls × Keeps w t c
NotifiesAnswer w t c l false answer.No = MovedNobody (w.locks l) c.recalls × Keeps w t c
NotifiesAnswer w t c l true (answer.Number number) =
    ((number ≡ 0) × MovedNobody (w.locks l) c.recalls × Keeps w t c)
    ⊎ ((number ≢ 0) × HasMovedSome number c.recalls × Keeps w t c)
NotifiesAnswer w t c l all a = ⊥

-- an answer is true of the state in which it is given
abbrev pub AnswerHolds : Option Purpose → LocksState → ℕ → CallState → Answer → Type 0
AnswerHolds (Some (Enters l x how)) w t c a = EntersAnswer w t c l x how a
AnswerHolds (Some (Releases l x fair)) w t c answer.Ok = Loses w t c l x
AnswerHolds (Some (Converts l x y how)) w t c a = ConvertsAnswer w t c l x y how a
AnswerHolds (Some (Bumps l x)) w t c a = BumpsAnswer w t c l x a
AnswerHolds (Some (CallsOnce l forced)) w t c a = CallsOnceAnswer w t c l forced a
AnswerHolds (Some (Awaits l forced timed)) w t c a = AwaitsAnswer w t c l forced timed a
AnswerHolds (Some (Waits l m timed)) w t c a = WaitsAnswer w t c l m timed a
AnswerHolds (Some (Notifies l all)) w t c a = NotifiesAnswer w t c l all a
AnswerHolds purpose w t c a = ⊥

-- the outcome told agrees with the state that its step led to; c is its call with this step in it
abbrev pub Agrees : ℕ → CallState → Outcome → LocksState → Type 0
Agrees t c outcome.NotNow v = ⊥
Agrees t c outcome.Step v = Unit {0}
Agrees t c outcome.Sleep v = (l : ℕ) × (1 ≤ standing t (v.locks l))
Agrees t c (outcome.Closure state) v = (l : ℕ) × ((v.locks l).phase ≡ InProgress t)
Agrees t c (outcome.End a) v =
    AnswerHolds c.purpose v t c a × ((l : ℕ) → HasTakenNobody (v.locks l) t)

-- how far a `Once` has come, as a closure is told
abbrev pub state_told : Phase → OnceState
state_told New = once_state.New
state_told Poisoned = once_state.Poisoned
state_told (InProgress runner) = once_state.InProgress
state_told Done = once_state.Done

-- a thread is told to run its closure exactly where its run of a `Once` begins, and what the run
-- found
abbrev pub Begins : LocksState → Event → Outcome → Type 0
Begins w (AtLock l (OfOnce (Start forced))) o =
    o ≡ outcome.Closure (state_told (w.locks l).phase)
Begins w event (outcome.Closure state) = ⊥
Begins w event o = Unit {0}

-- ---------------------------------------------------------------- steps

-- the thread has the right that its call needs: a thread that waits owns a mutex that condition variables
-- work with
abbrev pub HasRight : LocksState → ℕ → Option Purpose → Type 0
HasRight w t None = ⊥
HasRight w t (Some (Releases l x fair)) = Owns (w.locks l) t x
HasRight w t (Some (Converts l x y how)) = Owns (w.locks l) t x
HasRight w t (Some (Bumps l x)) = Owns (w.locks l) t x
HasRight w t (Some (Waits l m timed)) =
    (is_plain_mutex (w.kinds m) ≡ true) × Owns (w.locks m) t Exclusive
HasRight w t (Some (Enters l x how)) = Unit {0}
HasRight w t (Some (CallsOnce l forced)) = Unit {0}
HasRight w t (Some (Awaits l forced timed)) = Unit {0}
HasRight w t (Some (Notifies l all)) = Unit {0}

abbrev pub purpose_at : LocksState → Call → Option Purpose
purpose_at w c = purpose_of (w.kinds (lock_in c)) c

-- a call begins: the thread and the lock are there, the thread is in no call, and has the right
-- that this one needs
pub record MayBegin (w : LocksState) (t : ℕ) (c : Call) : Type 0 where
  pub thread : t < w.threads
  pub idle : (w.calls t).purpose ≡ None
  pub lock : lock_in c < w.size
  pub right : HasRight w t (purpose_at w c)

-- the sections are free
abbrev pub AreFree : LocksState → Option Keys → Type 0
AreFree w None = Unit {0}
AreFree w (Some (keys.One key)) = w.inside key ≡ None
AreFree w (Some (keys.Two first second)) =
    (w.inside first ≡ None) × (w.inside second ≡ None)

-- a thread goes on with its call: it is awake, its closure is over, and the sections that it enters
-- are free
pub record MayGo (w : LocksState) (t : ℕ) : Type 0 where
  pub called : (w.calls t).purpose ≢ None
  pub awake : (w.stances t).asleep ≡ false
  pub outside : (w.stances t).in_closure ≡ false
  pub free : AreFree w (w.stances t).enters

-- a call of the lock that has a deadline; a wait has it in the queue of its mutex too, where it was
-- moved there
abbrev pub IsTimed : Option Purpose → CondvarMemory → ℕ → Type 0
IsTimed (Some (Enters l x how)) recalls k = (l ≡ k) × (how ≡ Timed)
IsTimed (Some (Converts l x y how)) recalls k = (l ≡ k) × (how ≡ Timed)
IsTimed (Some (Awaits l forced timed)) recalls k = (l ≡ k) × (timed ≡ true)
IsTimed (Some (Waits l m timed)) recalls k =
    (timed ≡ true) × ((l ≡ k) ⊎ ((m ≡ k) × (recalls ≡ WasMoved)))
IsTimed purpose recalls k = ⊥

-- the thread stands in a queue of the lock, whose section is free
abbrev pub StandsFreely : LocksState → ℕ → ℕ → Type 0
StandsFreely w t l =
    ((1 ≤ times t (w.locks l).queue) × (w.inside (2 * l) ≡ None))
    ⊎ (((w.locks l).aside ≡ Some t) × (w.inside (2 * l + 1) ≡ None))

-- a thread's time may be up: its call has a deadline, and it sleeps in a queue whose section is free
pub record MayBeLate (w : LocksState) (t : ℕ) : Type 0 where
  pub lock : ℕ
  pub timed : IsTimed (w.calls t).purpose (w.calls t).recalls lock
  pub asleep : (w.stances t).asleep ≡ true
  pub stands : StandsFreely w t lock

-- whether a turn is possible
abbrev pub MayTurn : LocksState → ℕ → Turn → Type 0
MayTurn w t (turn.Begin c) = MayBegin w t c
MayTurn w t turn.Go = MayGo w t
MayTurn w t turn.Spin = (w.stances t).may_spin ≡ true
MayTurn w t turn.Late = MayBeLate w t
MayTurn w t turn.Ok = (w.stances t).in_closure ≡ true
MayTurn w t turn.Err = (w.stances t).in_closure ≡ true

-- no lock changes, and of the calls that of one thread alone
pub record Stays (w : LocksState) (t : ℕ) (c : CallState) (o : Outcome)
    (v : LocksState) : Type 0 where
  pub told : o ≡ outcome.Step
  pub locks : (l : ℕ) → v.locks l ≡ w.locks l
  pub calls : (u : ℕ) → v.calls u ≡ putting w.calls t c u

-- a call goes on by one event, and its answer is true
pub record GoesOn (w : LocksState) (t : ℕ) (o : Outcome) (v : LocksState) : Type 0 where
  pub called : (w.calls t).purpose ≢ None
  pub event : Event
  pub may : MayHappen w t event
  pub locks : (l : ℕ) → v.locks l ≡ locks_after w t event l
  pub calls : (u : ℕ) → v.calls u ≡ calls_after w t event o u
  pub agrees : Agrees t (going_on event (w.calls t)) o v
  pub begins : Begins w event o

-- a thread's closure has answered, and its run of a `Once` ends, well or not
pub record Closes (w : LocksState) (t : ℕ) (ending : OnceCase) (o : Outcome)
    (v : LocksState) : Type 0 where
  pub goes : GoesOn w t o v
  pub lock : ℕ
  pub ends : goes.event ≡ AtLock lock (OfOnce ending)

abbrev pub IsOfMutex : LocksState → Option Purpose → Type 0
IsOfMutex w None = ⊥
IsOfMutex w (Some purpose) = (rules_at w (lock_for purpose)).sort ≡ Mutex

-- a thread looks at the word once more, and its call goes on by what it sees; that of a mutex only
-- decides anew
pub record Looks (w : LocksState) (t : ℕ) (o : Outcome) (v : LocksState) : Type 0 where
  pub goes : GoesOn w t o v
  pub stays : IsOfMutex w (w.calls t).purpose → Stays w t (w.calls t) o v

-- the effect of a turn: a call begins, goes on, looks once more, or is late, or its closure has answered
abbrev pub Does : LocksState → ℕ → Turn → Outcome → LocksState → Type 0
Does w t (turn.Begin c) o v = Stays w t (new_call (purpose_at w c) (rights_in w t)) o v
Does w t turn.Spin o v = Looks w t o v
Does w t turn.Late o v = Stays w t (record (w.calls t) { late = true }) o v
Does w t turn.Go o v = GoesOn w t o v
Does w t turn.Ok o v = Closes w t Finish o v
Does w t turn.Err o v = Closes w t Fail o v

-- nothing happens
abbrev pub IsRefused : LocksState → Outcome → LocksState → Type 0
IsRefused w o v = (o ≡ outcome.NotNow) × (v ≡ w)

-- a turn does what it does exactly where it is possible
abbrev pub Turned : LocksState → ℕ → Turn → Outcome → LocksState → Type 0
Turned w t x o v = (MayTurn w t x × Does w t x o v) ⊎ ((MayTurn w t x → ⊥) × IsRefused w o v)

-- a section stays as it is, or is free and the thread enters it, or the thread is inside and leaves
-- it
abbrev pub SectionChanges : Option ℕ → ℕ → Option ℕ → Type 0
SectionChanges before t now =
    (now ≡ before) ⊎ (((before ≡ None) × (now ≡ Some t)) ⊎ ((before ≡ Some t) × (now ≡ None)))

abbrev pub is_closure : Outcome → Bool
is_closure (outcome.Closure state) = true
is_closure o = false

-- threads and locks stay as many, locks of their kinds, and sections are those of the threads inside
pub record KeepsOrder (w : LocksState) (t : ℕ) (o : Outcome) (v : LocksState) : Type 0 where
  pub threads : v.threads ≡ w.threads
  pub size : v.size ≡ w.size
  pub kinds : (l : ℕ) → v.kinds l ≡ w.kinds l
  pub sections : (key : ℕ) → SectionChanges (w.inside key) t (v.inside key)
  -- the thread is told that it sleeps exactly where it does
  pub told : o ≢ outcome.NotNow → (o ≡ outcome.Sleep)
      ↔ ((v.stances t).asleep ≡ true)
  -- A closure is told exactly to a thread that runs it.
  pub runs : o ≢ outcome.NotNow → is_closure o ≡ (v.stances t).in_closure

-- ---------------------------------------------------------------- the other threads

-- t may wake u: it has u in hand; or it is inside the section of the lock for which u waits, and u stands
-- there no more, since it was handed it
abbrev pub MayWake : LocksState → ℕ → ℕ → Type 0
MayWake w t u =
    (l : ℕ) × ((is_taken_by t ((w.locks l).taken u) ≡ true)
    ⊎ ((standing u (w.locks l) ≡ 0) × (w.inside (key_of l Main) ≡ Some t)
    × MayWait (w.calls u).purpose l))

-- a wait that sleeps has released its mutex
abbrev pub LetsGo : LocksState → ℕ → Type 0
LetsGo w t =
    (l m : ℕ) (timed : Bool) → (w.calls t).purpose ≡ Some (Waits l m timed)
    → (w.stances t).asleep ≡ true → (w.calls t).released ≡ true

-- the thread sleeps no more once its time was up, but for a wait that has given up and is to have its mutex
-- again
abbrev pub HeedsItsTime : LocksState → ℕ → Type 0
HeedsItsTime w t = (w.stances t).asleep ≡ true → (w.calls t).late ≡ true
    → (l m : ℕ) × ((w.calls t).purpose ≡ Some (Waits l m true)) × ((w.calls t).gave_up ≡ Some l)

-- a try to lock a mutex, or to write, ends as its thread goes on
abbrev pub TriesEnd : LocksState → Step → Outcome → Type 0
TriesEnd w s o = (l : ℕ) → (w.calls s.thread).purpose ≡ Some (Enters l Exclusive Try)
    → s.turn ≡ turn.Go
    → (o ≡ outcome.End answer.Yes)
    ⊎ (o ≡ outcome.End answer.No)

-- a thread inside the section notifies all, and so is about to move each thread that is there
pub record IsBeingEmptied (w : LocksState) (c : ℕ) : Type 0 where
  pub thread : ℕ
  pub inside : w.inside (key_of c Main) ≡ Some thread
  pub notifies : (w.calls thread).purpose ≡ Some (Notifies c true)

-- a condition variable shows the mutex with which all wait there
pub record ShowsWaiters (w : LocksState) (c : ℕ) : Type 0 where
  pub one : (t m : ℕ) → (w.locks c).shown ≡ Some m → 1 ≤ times t (w.locks c).queue
      → (timed : Bool) × ((w.calls t).purpose ≡ Some (Waits c m timed))
  -- Where no mutex is shown, nobody waits, but while a notification is about to move all.
  pub none : (w.locks c).shown ≡ None → ((w.locks c).queue ≡ []) ⊎ IsBeingEmptied w c
  -- a condition variable shows none where nobody waits, unless a thread is inside its section
  pub left : w.inside (key_of c Main) ≡ None → (w.locks c).queue ≡ [] → (w.locks c).shown ≡ None

-- a step leaves the other threads as they are
pub record LeavesOthers (w : LocksState) (t : ℕ) (v : LocksState) : Type 0 where
  -- waiters stand as they did, but for a sleeper that this thread wakes
  pub others : (u : ℕ) → u ≢ t → (v.stances u ≡ w.stances u)
      ⊎ (((w.stances u).asleep ≡ true) × MayWake w t u)
  -- nobody sleeps with a mutex that it is to release
  pub lets_go : LetsGo v t
  -- No waiter of a condition variable is left after.
  pub shown : (c : ℕ) → (rules_at v c).sort ≡ Condvar → ShowsWaiters v c

abbrev pub IsStep : LocksState → Step → Outcome → LocksState → Type 0
IsStep w s o v = KeepsOrder w s.thread o v × Turned w s.thread s.turn o v × LeavesOthers w s.thread v

-- steps with their outcomes lead from one state to another
abbrev pub IsRun : LocksState → List Step → List Outcome → LocksState → Type 0
IsRun w [] [] v = v ≡ w
IsRun w (s ∷ ss) (o ∷ os) v = (u : LocksState) × IsStep w s o u × IsRun u ss os v
IsRun w ss os v = ⊥
