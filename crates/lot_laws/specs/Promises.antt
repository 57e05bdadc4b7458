-- The promises of every state, before and after each step, under every schedule. Each clause is told by the
-- sort of lock, so that it stays as it is for a further sort.
use Rattle.steps_base.specs.Rows.{KnowsRights, WakesAside}
use Rattle.spec_locks.specs.Locks as locks
use Rattle.std.specs.Prelude.{ℕ, Bool, false, true, None, Option, ◌≡◌, ◌≢◌, ◌≤◌, ◌<◌, ◌-◌, ◌⊎◌, ◌↔◌, Some}
use Rattle.std.specs.Prelude.{◌*◌, []}
use Rattle.core_base.specs.declared.keys.Keys.TheVariants.{One}
use Rattle.core_base.specs.declared.wants.Want.{Want}
use Rattle.core_base.specs.declared.ops.Op.TheVariants.{Exchange}
use Rattle.steps_base.specs.declared.acts.Act.{Act}
use Rattle.steps_base.specs.declared.acts.Act.TheVariants.{Enter, Leave, Sleep, Word}
use Rattle.steps_base.specs.declared.acts.Wakes.TheVariants as wakes
use Rattle.core_base.specs.declared.notes.Note.TheVariants.{HandOff}
use Rattle.lot_steps.specs.Steps.{act_of, taker, retries_on}
use Rattle.lot_machine.specs.Machine.{State, place_at, word_at, filled_at, section_at}
use Rattle.spec_locks.specs.Locks.{Sort, Once, Taken, times, standing, readers}
use Rattle.spec_locks.specs.Locks.{has_caller}
use Rattle.spec_locks.specs.Onces.{InProgress, IsRunning}
use Rattle.spec_locks.specs.Codes.{word_by, parked_in, aside_in, has_aside, is_running}
use Rattle.steps_rwlock.specs.RwLockSteps.{plus}
use Rattle.steps_once.specs.OnceSteps.{marked}
use Rattle.spec_locks.specs.Runs.{AreLockStates, CallState, LetsGo, ShowsWaiters}
use Rattle.spec_locks.specs.Sites.{IsWithinLimit, Line, Main, Second, counts_some, has_readers}
pub use Rattle.spec_locks.specs.Headline.{want_of, mutex_seen, WakesWaiters, IsOpenNow, HasOrPends}
pub use Rattle.spec_locks.specs.Headline.{GoesFreely}
use Rattle.spec_locks.specs.Purposes.{Purpose, Enters, Releases, Converts, Bumps, CallsOnce, Awaits}
use Rattle.spec_locks.specs.Purposes.{IsReleasing, MayWait, Waits, Notifies}
use Rattle.spec_locks.specs.declared.calls.Patience.TheVariants.{Try}
use Rattle.lot_laws.specs.Refinement.{RunsClosure, lock_state, locks_of, call_at}
use Rattle.lot_laws.specs.Locations.{role_on}
use Rattle.lot_laws.specs.SitesOf.{rules_in, key_of}
use Rattle.lot_laws.specs.Owing.{Owes, IsInside, IsWait, LetsOthersIn, sort_at}

-- a thread stands in the queue of a lock
abbrev pub WaitsFor : State → ℕ → ℕ → Type 0
WaitsFor w t l = 1 ≤ times t (lock_state w l).queue

-- ---------------------------------------------------------------- words

abbrev pub has_parked_bit : State → ℕ → Bool
has_parked_bit w l = parked_in (sort_at w l) (word_at w l)

abbrev pub has_aside_bit : State → ℕ → Bool
has_aside_bit w l = aside_in (sort_at w l) (word_at w l)

-- the word is the one of the lock's owners, beside its parked bits
abbrev pub IsCoded : State → ℕ → Type 0
IsCoded w l =
    word_at w l ≡ word_by (sort_at w l) (rules_in w l).limit (lock_state w l) (has_aside_bit w l)
    (has_parked_bit w l)

-- the thread has brought waiters of a condition variable to the lock, and is about to set its
-- parked bit; or it has ended its run of a `Once`, has cleared the bit beside waiters, and is about
-- to take them
abbrev pub IsAboutToMark : State → ℕ → ℕ → Type 0
IsAboutToMark w t l = (role_on (place_at w t) l).bit_pending ≡ true

-- A thread that is about to set a parked bit: it is inside the section, or, at a `Once`, owes those waiters
-- their wake.
abbrev pub IsToMark : State → ℕ → ℕ → Type 0
IsToMark w t l = IsAboutToMark w t l
    × (IsInside w t l Main ⊎ ((sort_at w l ≡ Once) × Owes w t l Main))

-- ---------------------------------------------------------------- debts

-- a wait that has released its mutex, whose waiters it wakes then
abbrev pub WaitHasReleased : Option Purpose → Bool → ℕ → Line → Type 0
WaitHasReleased (Some (Waits l n timed)) released k Main = (n ≡ k) × (released ≡ true)
WaitHasReleased purpose released k m = ⊥

-- a call that lets others in, and enters the section of the line next
abbrev pub GoesToWake : State → ℕ → ℕ → Line → Type 0
GoesToWake w t l m =
    (act_of (place_at w t) ≡ Enter (One (key_of l m)))
    × (LetsOthersIn w t l
    ⊎ (WakesAside (call_at w t).purpose l m
    ⊎ WaitHasReleased (call_at w t).purpose (call_at w t).released l m))

-- a thread owes a wake on the main line, and its call wakes the threads that it takes; or it was woken, is
-- about to try again, and wants what passes the turn on (of a mutex anything, of a reader-writer lock more
-- than to share)
abbrev pub IsDebtorOf : State → ℕ → ℕ → Line → Type 0
IsDebtorOf w t l Main =
    (Owes w t l Main × WakesWaiters (sort_at w l) (call_at w t).purpose (call_at w t).gave_up
    (call_at w t).recalls l)
    ⊎ (((call_at w t).retries ≡ Some l)
    × (counts_some (sort_at w l) (want_of (call_at w t).purpose) ≡ true))
IsDebtorOf w t l Second = Owes w t l Second

-- some thread, which is awake, stands in no queue and isn't taken, is such a debtor; but a wait
-- that has released its mutex and owes a wake there may stand in one, or be taken
pub record IsLookedAfterIn (w : State) (l : ℕ) (m : Line) : Type 0 where
  pub debtor : ℕ
  pub debt : IsDebtorOf w debtor l m
  pub awake : act_of (place_at w debtor) ≢ Sleep
  pub stands_nowhere : (k : ℕ) → (standing debtor (lock_state w k) ≡ 0)
      ⊎ (WaitHasReleased (call_at w debtor).purpose (call_at w debtor).released l m × Owes w debtor l m)

-- a number of different threads look after the line
pub record AreLookedAfterIn (w : State) (l number : ℕ) : Type 0 where
  pub debtor : ℕ → ℕ
  pub apart : (i j : ℕ) → i < number → j < number → debtor i ≡ debtor j → i ≡ j
  pub each : (i : ℕ) → i < number → (h : IsLookedAfterIn w l Main) × (h.debtor ≡ debtor i)

-- a lock that is shared was never at its limit
abbrev pub WasNeverFull : State → ℕ → Type 0
WasNeverFull w l = has_readers (sort_at w l) ≡ true → filled_at w l ≡ false

pub record NobodyForgottenIn (w : State) : Type 0 where
  -- a thread that waits for a lock whose way nobody bars is looked after
  pub main : (t l : ℕ) → WaitsFor w t l → IsOpenNow (rules_in w l) (lock_state w l)
      → WasNeverFull w l
      → IsLookedAfterIn w l Main
  -- while a thread waits for a permit, as many different threads look after the line as permits
  -- are free
  pub permits : (t l : ℕ) → WaitsFor w t l → sort_at w l ≡ locks.Semaphore
      → AreLookedAfterIn w l ((rules_in w l).limit - readers (lock_state w l))
  -- A writer aside is looked after once nobody shares the lock.
  pub second : (l : ℕ) → (lock_state w l).aside ≢ None → readers (lock_state w l) ≡ 0
      → IsLookedAfterIn w l Second

-- some thread, which is awake, stands in no queue and isn't taken, owes a wake on the queue of the
-- lock
pub record IsOwedWake (w : State) (l : ℕ) : Type 0 where
  pub debtor : ℕ
  pub owes : Owes w debtor l Main
  pub awake : act_of (place_at w debtor) ≢ Sleep
  pub stands_nowhere : (k : ℕ) → standing debtor (lock_state w k) ≡ 0

-- a thread sleeps, and stands in no queue, nor was it taken from one
abbrev pub IsAsleepNowhere : State → ℕ → Type 0
IsAsleepNowhere w t = (act_of (place_at w t) ≡ Sleep) × ((l : ℕ) → standing t (lock_state w l) ≡ 0)

-- a thread has what it waited for, and the thread inside the section has it in its hand, and wakes all that
-- it has there as it leaves
pub record IsHandedOverIn (w : State) (t : ℕ) : Type 0 where
  pub lock : ℕ
  pub by : ℕ
  pub want : Want
  pub waited : MayWait (call_at w t).purpose lock × (want_of (call_at w t).purpose ≡ Some want)
  pub owner : HasOrPends (sort_at w lock) (lock_state w lock) t want
  pub inside : section_at w (2 * lock) ≡ Some by
  pub in_hand : taker (place_at w t) ≡ Some by
  pub wakes : act_of (place_at w by) ≡ Leave (One (2 * lock)) (wakes.All HandOff)

-- a condition variable shows a mutex exactly while somebody waits for it, each in a call that waits
-- with that mutex
pub record ShowsItsWaiters (w : State) (l : ℕ) : Type 0 where
  pub shows : ((lock_state w l).shown ≡ None) ↔ ((lock_state w l).queue ≡ [])
  pub one : (t m : ℕ) → (lock_state w l).shown ≡ Some m → WaitsFor w t l
      → (timed : Bool) × ((call_at w t).purpose ≡ Some (Waits l m timed))

-- the thread by which a thread was taken
abbrev pub holder : Option Taken → Option ℕ
holder None = None
holder (Some h) = Some h.by

-- an exchange by which a thread sets a parked bit before it sleeps: of a mutex that is owned; of a
-- lock that is shared, for either line, while no writer waits aside; of a semaphore none of whose
-- permits is free; of a `Once` that is running
abbrev pub SetsBit : Sort → (seen now : ℕ) → Type 0
SetsBit locks.Mutex seen now = (seen ≡ 1) × (now ≡ 3)
SetsBit locks.Normal seen now =
    (has_aside seen ≡ false) × ((now ≡ plus seen 1) ⊎ (now ≡ plus seen 2))
SetsBit locks.Recursive seen now =
    (has_aside seen ≡ false) × ((now ≡ plus seen 1) ⊎ (now ≡ plus seen 2))
SetsBit locks.Semaphore seen now = (seen ≡ 0) × (now ≡ 1)
SetsBit locks.Once seen now = (is_running seen ≡ true) × (now ≡ marked seen)
SetsBit locks.Condvar seen now = ⊥

-- by its next act a thread does so, or goes aside as a pending writer
abbrev pub LeadsToSleep : Sort → ℕ → Act → Type 0
LeadsToSleep sort l a =
    ((seen : ℕ) × (now : ℕ) × (a ≡ Word l (Exchange seen now)) × SetsBit sort seen now)
    ⊎ (a ≡ Enter (One (key_of l Second)))

-- a call waits for the lock, or sets out to, and isn't about to release it
abbrev pub IsWaitingCall : CallState → ℕ → Type 0
IsWaitingCall c l = MayWait c.purpose l × (IsReleasing c.purpose c.released l → ⊥)

-- a call that tries
abbrev pub IsTry : Option Purpose → Type 0
IsTry None = ⊥
IsTry (Some (Enters l x how)) = how ≡ Try
IsTry (Some (Releases l x fair)) = ⊥
IsTry (Some (Converts l x y how)) = how ≡ Try
IsTry (Some (Bumps l x)) = ⊥
IsTry (Some (CallsOnce l forced)) = ⊥
IsTry (Some (Awaits l forced timed)) = ⊥
IsTry (Some (Waits l m timed)) = ⊥
IsTry (Some (Notifies l all)) = ⊥

pub record IsKept (w : State) : Type 0 where
  -- owners exclude each other, and a thread stands at most once in the queue of a lock, aside of it
  -- or taken from it
  pub state : AreLockStates (locks_of w)
  -- A thread stands at one lock at most.
  pub one_place : (t l k : ℕ) → 1 ≤ standing t (lock_state w l) → 1 ≤ standing t (lock_state w k)
      → l ≡ k
  -- a thread that is taken is in the hand of one that is inside a section of the lock
  pub in_hand : (u l : ℕ) (h : Taken) → (lock_state w l).taken u ≡ Some h
      → (m : Line) × IsInside w h.by l m
  -- A taken waiter is held by its place in its taker's hand. One that stands in a line is in nobody's, so
  -- that no other thread's step wakes it.
  pub held : (t l : ℕ) → 1 ≤ standing t (lock_state w l)
      → taker (place_at w t) ≡ holder ((lock_state w l).taken t)
  -- one that stands there, or is taken, is in a call that waits for the lock
  pub waiting : (t l : ℕ) → 1 ≤ standing t (lock_state w l) → MayWait (call_at w t).purpose l
  -- Each call is for rights that its lock knows.
  pub known : (t : ℕ) → KnowsRights (sort_at w) (call_at w t).purpose
  pub coded : (l : ℕ) → IsCoded w l
  pub limited : (l : ℕ) → has_readers (sort_at w l) ≡ true
      → IsWithinLimit (rules_in w l) (lock_state w l)
  pub nobody_forgotten : NobodyForgottenIn w
  -- a queued `call_once` of a `Once` that nobody runs has a thread, awake and in no queue, that
  -- owes on its queue
  pub callers : (l : ℕ) → sort_at w l ≡ Once → has_caller (lock_state w l).queue ≡ true
      → (IsRunning (lock_state w l).phase → ⊥) → IsOwedWake w l
  -- a run of a `Once` is on exactly while its thread runs the closure of its call
  pub runs : (t l : ℕ) → (lock_state w l).phase ≡ InProgress t ↔ RunsClosure w t l
  -- a thread that is shown to owe a wake on a line is inside its section, or lets others in and is on its way
  -- into it
  pub owing : (t l : ℕ) (m : Line) → Owes w t l m → IsInside w t l m ⊎ GoesToWake w t l m
  -- each thread inside does, and each on its way but for a wait, which may be about to lock its mutex again
  pub inside_owes : (t l : ℕ) (m : Line) → IsInside w t l m → Owes w t l m
  pub going_owes : (t l : ℕ) (m : Line) → GoesToWake w t l m
      → Owes w t l m ⊎ IsWait (call_at w t).purpose
  -- Only a lock that is shared has a second line.
  pub second_line : (t l : ℕ) → Owes w t l Second → has_readers (sort_at w l) ≡ true
  -- a thread that is shown to try a lock again was woken on it, and has got neither the lock nor a place in a
  -- queue since
  pub retrying : (t l : ℕ) → retries_on (place_at w t) l ≡ true ↔ (call_at w t).retries ≡ Some l
  -- a thread may look at a word once more only in place of such an act
  pub looks : (t : ℕ) → ((locks_of w).stances t).may_spin ≡ true
      → (l : ℕ) × LeadsToSleep (sort_at w l) l (act_of (place_at w t))
  -- A call that waits for a lock may look once more in place of each exchange that sets a parked bit.
  pub spins : (t l seen now : ℕ) → IsWaitingCall (call_at w t) l
      → act_of (place_at w t) ≡ Word l (Exchange seen now) → SetsBit (sort_at w l) seen now
      → ((locks_of w).stances t).may_spin ≡ true
  -- a thread that is inside a section goes on freely: it is awake, and enters no other
  pub inside_goes : (t l : ℕ) (m : Line) → IsInside w t l m → GoesFreely ((locks_of w).stances t)
  -- a thread in a try goes on freely, wherever the try is
  pub tries : (t : ℕ) → IsTry (call_at w t).purpose → GoesFreely ((locks_of w).stances t)
  -- a sleeper that stands nowhere was handed the lock that it waited for, by a thread that is inside the
  -- section and wakes it
  pub handing : (t : ℕ) → IsAsleepNowhere w t → IsHandedOverIn w t
  -- each sleeper is in a queue, aside or in a hand, or was handed its lock
  pub sleeping : (t : ℕ) → act_of (place_at w t) ≡ Sleep
      → ((l : ℕ) × (1 ≤ standing t (lock_state w l))) ⊎ IsHandedOverIn w t
  -- a waiter implies the parked bit while nobody is inside the section: else the thread inside has
  -- just brought it and is about to set the bit; or the thread that has ended a run of a `Once` and
  -- cleared the bit owes it its wake
  pub parked : (t l : ℕ) → WaitsFor w t l
      → (has_parked_bit w l ≡ true) ⊎ ((u : ℕ) × IsToMark w u l)
  -- A writer aside implies its own parked bit.
  pub aside_parked : (l : ℕ) → (lock_state w l).aside ≢ None → has_aside_bit w l ≡ true
  -- while nobody is inside its section, a condition variable shows a mutex exactly while somebody
  -- waits, and all wait with that one
  pub shown : (l : ℕ) → sort_at w l ≡ locks.Condvar → section_at w (key_of l Main) ≡ None
      → ShowsItsWaiters w l
  -- At any time a condition variable shows the mutex with which all wait. It shows none where nobody waits,
  -- or while a notification of all is inside that is about to move them.
  pub shows : (l : ℕ) → sort_at w l ≡ locks.Condvar → ShowsWaiters (locks_of w) l
  -- a wait that sleeps has released its mutex
  pub let_go : (t : ℕ) → LetsGo (locks_of w) t
