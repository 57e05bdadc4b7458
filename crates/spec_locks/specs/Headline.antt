-- The headline, the second page: what any list of steps comes to is a run of the abstract locks, and each
-- waiter whose way nobody bars has a thread that looks after it. There is no word here, no place of a call,
-- and no queue of the machine. The first page is Guarantees, which follows of this one.
use Rattle.std.specs.Prelude.{ℕ, Bool, true, false, Option, Some, None, ◌≡◌, ◌≢◌, ◌≤◌, ◌<◌, ◌-◌, ◌⊎◌, ◌↔◌}
use Rattle.std.specs.Prelude.{List, [], ◌∷◌}
use Rattle.core_base.specs.declared.keys.Keys.TheVariants.{One}
use Rattle.core_base.specs.declared.wants.Want.{Want}
use Rattle.core_base.specs.declared.wants.Want.TheVariants.{Exclusive, Upgradable}
use Rattle.core_base.specs.Keys.{key_of}
use Rattle.spec_locks.specs.declared.calls.Step.{Step}
use Rattle.spec_locks.specs.declared.kinds.Kind.{Kind}
use Rattle.spec_locks.specs.declared.outcomes.Outcome.{Outcome}
use Rattle.spec_locks.specs.Trade.{IsOnItsWay, Trades}
use Rattle.spec_locks.specs.Kinds.{is_fair}
use Rattle.spec_locks.specs.Onces.{Done, InProgress}
use Rattle.spec_locks.specs.Locks.{Sort, Semaphore, Once, Condvar, LockState, Rules, Taken, Owns}
use Rattle.spec_locks.specs.Locks.{IsSomePending, readers, standing, times}
use Rattle.spec_locks.specs.Purposes.{Purpose, Enters, Releases, Converts, Bumps, CallsOnce, Awaits, Waits}
use Rattle.spec_locks.specs.Purposes.{Notifies, CondvarMemory, Blank, Saw, SawOwner, HasMoved, WasMoved}
use Rattle.spec_locks.specs.Purposes.{WasNotified}
use Rattle.spec_locks.specs.Purposes.{MayWait}
use Rattle.spec_locks.specs.Sites.{IsWithinLimit, Line, Main, Second, IsOpen, counts_some, has_readers}
use Rattle.spec_locks.specs.Runs.{LocksState, Status, AreLockStates, IsNotified, IsStep, LetsGo, ShowsWaiters}
use Rattle.spec_locks.specs.Runs.{HeedsItsTime, TriesEnd, rules_at}
pub use Rattle.spec_locks.specs.EachState.{IsAwake, Opens, full_by}
pub use Rattle.spec_locks.specs.Rest.{sort_in}

-- ---------------------------------------------------------------- threads that wake the next waiter

-- the right that a call is to have in the end; a wait, its mutex again
abbrev pub want_of : Option Purpose → Option Want
want_of None = None
want_of (Some (Enters l x how)) = Some x
want_of (Some (Releases l x fair)) = None
want_of (Some (Converts l x y how)) = Some y
want_of (Some (Bumps l x)) = Some x
want_of (Some (CallsOnce l forced)) = None
want_of (Some (Awaits l forced timed)) = None
want_of (Some (Waits l m timed)) = Some Exclusive
want_of (Some (Notifies l all)) = None

-- the mutex that a notification has seen
abbrev pub mutex_seen : CondvarMemory → Option ℕ
mutex_seen Blank = None
mutex_seen (Saw m) = Some m
mutex_seen (SawOwner m owned) = Some m
mutex_seen (HasMoved m number) = Some m
mutex_seen WasMoved = None
mutex_seen WasNotified = None

-- a call that wakes those that it takes from the main line of l: a release that hands nothing over,
-- a conversion that lets others in, a writer beside readers that has given up, a call that runs the
-- closure of a `Once`; a wait, of its mutex, and a notification, of the mutex that it has seen
abbrev pub WakesWaiters : Sort → Option Purpose → Option ℕ → CondvarMemory → ℕ → Type 0
WakesWaiters sort None gave_up recalls l = ⊥
WakesWaiters sort (Some (Enters k x how)) gave_up recalls l =
    (k ≡ l) × (gave_up ≡ Some l) × (has_readers sort ≡ true)
WakesWaiters sort (Some (Releases k x fair)) gave_up recalls l =
    (k ≡ l) × ((fair ≡ false) ⊎ (x ≡ Upgradable))
WakesWaiters sort (Some (Converts k x y how)) gave_up recalls l =
    (k ≡ l) × ((y ≢ Exclusive) ⊎ ((gave_up ≡ Some l) × (has_readers sort ≡ true)))
WakesWaiters sort (Some (Bumps k x)) gave_up recalls l = (k ≡ l) × (x ≢ Exclusive)
WakesWaiters sort (Some (CallsOnce k forced)) gave_up recalls l = k ≡ l
WakesWaiters sort (Some (Awaits k forced timed)) gave_up recalls l = ⊥
WakesWaiters sort (Some (Waits k m timed)) gave_up recalls l = m ≡ l
WakesWaiters sort (Some (Notifies k all)) gave_up recalls l = mutex_seen recalls ≡ Some l

-- a thread is inside the section of a line, or enters it next
abbrev pub IsAtLine : LocksState → ℕ → ℕ → Line → Type 0
IsAtLine w t l m =
    (w.inside (key_of l m) ≡ Some t) ⊎ ((w.stances t).enters ≡ Some (One (key_of l m)))

-- a thread is there, in a call that wakes those that it takes; or it was woken, is about to try again, and
-- will pass the turn on
abbrev pub IsDebtor : LocksState → ℕ → ℕ → Line → Type 0
IsDebtor w t l Main =
    (IsAtLine w t l Main
    × WakesWaiters (sort_in w l) (w.calls t).purpose (w.calls t).gave_up (w.calls t).recalls l)
    ⊎ (((w.calls t).retries ≡ Some l)
    × (counts_some (sort_in w l) (want_of (w.calls t).purpose) ≡ true))
IsDebtor w t l Second = IsAtLine w t l Second × ((w.calls t).purpose ≢ None)

-- some thread is such a debtor, and is awake
pub record IsLookedAfter (w : LocksState) (l : ℕ) (m : Line) : Type 0 where
  pub debtor : ℕ
  pub debt : IsDebtor w debtor l m
  pub awake : IsAwake (w.stances debtor)

-- a number of different threads are such debtors, and awake
pub record AreLookedAfter (w : LocksState) (l number : ℕ) : Type 0 where
  pub debtor : ℕ → ℕ
  pub apart : (i j : ℕ) → i < number → j < number → debtor i ≡ debtor j → i ≡ j
  pub each : (i : ℕ) → i < number → IsDebtor w (debtor i) l Main × IsAwake (w.stances (debtor i))

-- ---------------------------------------------------------------- nobody is forgotten

-- nobody bars the way of the first waiter of the main line: nobody owns the mutex, no writer is
-- there, nobody runs the `Once` for which a call waits or it is done, or a permit is free
abbrev pub IsOpenNow : Rules → LockState → Type 0
IsOpenNow r s = IsOpen r.sort s
    ⊎ (((r.sort ≡ Semaphore) × (readers s < r.limit)) ⊎ ((r.sort ≡ Once) × (s.phase ≡ Done)))

-- a thread owns what it waited for; a writer of a lock that is shared may be pending
abbrev pub HasOrPends : Sort → LockState → ℕ → Want → Type 0
HasOrPends sort s t x = Owns s t x
    ⊎ ((x ≡ Exclusive) × (has_readers sort ≡ true) × IsSomePending s.pending t)

-- a thread has what it waited for, and the thread inside the section has yet to wake it
pub record IsHandedOver (w : LocksState) (t : ℕ) : Type 0 where
  pub lock : ℕ
  pub by : ℕ
  pub want : Want
  pub waited : MayWait (w.calls t).purpose lock × (want_of (w.calls t).purpose ≡ Some want)
  pub owner : HasOrPends (sort_in w lock) (w.locks lock) t want
  pub inside : w.inside (key_of lock Main) ≡ Some by

-- a thread is awake, runs no closure, and enters no section next: no other thread keeps it from going on
abbrev pub GoesFreely : Status → Type 0
GoesFreely stance =
    (stance.asleep ≡ false) × (stance.in_closure ≡ false) × (stance.enters ≡ None)

-- in a state in which these locks were once at their limit
pub record NobodyForgotten (w : LocksState) (was_full : ℕ → Bool) : Type 0 where
  -- a thread that waits for a lock whose way nobody bars is looked after
  pub main : (t l : ℕ) → 1 ≤ times t (w.locks l).queue → IsOpenNow (rules_at w l) (w.locks l)
      → (has_readers (sort_in w l) ≡ true → was_full l ≡ false)
      → IsLookedAfter w l Main
  -- while a thread waits for a permit, as many different threads look after the line as permits
  -- are free
  pub permits : (t l : ℕ) → 1 ≤ times t (w.locks l).queue → sort_in w l ≡ Semaphore
      → AreLookedAfter w l ((rules_at w l).limit - readers (w.locks l))
  -- A writer aside is looked after when the last reader has gone.
  pub second : (l : ℕ) → (w.locks l).aside ≢ None → readers (w.locks l) ≡ 0
      → IsLookedAfter w l Second
  -- a thread that was taken is in the hand of one that is inside a section of the lock
  pub in_hand : (t l : ℕ) (h : Taken) → (w.locks l).taken t ≡ Some h
      → (m : Line) × (w.inside (key_of l m) ≡ Some h.by)
  -- A thread that sleeps stands in a queue or aside, is in a hand, or was handed its lock.
  pub asleep : (t : ℕ) → (w.stances t).asleep ≡ true
      → ((l : ℕ) × (1 ≤ standing t (w.locks l))) ⊎ IsHandedOver w t
  -- a thread that is inside a section is in a call, and goes on freely
  pub inside : (t l : ℕ) (m : Line) → w.inside (key_of l m) ≡ Some t
      → ((w.calls t).purpose ≢ None) × GoesFreely (w.stances t)

-- ---------------------------------------------------------------- every state

-- in a state in which these locks were once at their limit
pub record IsSafe (w : LocksState) (was_full : ℕ → Bool) : Type 0 where
  -- owners exclude each other, and each thread stands once in a queue at most
  pub exclude : AreLockStates w
  pub waiters : NobodyForgotten w was_full
  -- a condition variable shows the mutex with which all wait there
  pub shown : (c : ℕ) → sort_in w c ≡ Condvar → ShowsWaiters w c
  -- a thread that stands in a queue, stands aside or is in a hand is in a call that waits for the lock
  pub waiting : (t l : ℕ) → 1 ≤ standing t (w.locks l) → MayWait (w.calls t).purpose l
  -- A sleeper that waits for a notification has let its mutex go, and owns till then what else it owned.
  pub let_go : (t : ℕ) → LetsGo w t
  pub keeps : (t l m : ℕ) (timed : Bool) → (w.calls t).purpose ≡ Some (Waits l m timed)
      → (w.stances t).asleep ≡ true → (w.calls t).gave_up ≡ None
      → (IsNotified (w.calls t).recalls → ⊥) → Trades w t (w.calls t) m (Some Exclusive) None
  -- a `Once` is in progress exactly while one thread runs its closure
  pub runs : (t l : ℕ) → (w.locks l).phase ≡ InProgress t ↔ ((w.stances t).in_closure ≡ true)
      × ((forced : Bool) × ((w.calls t).purpose ≡ Some (CallsOnce l forced)))
  -- A fair mutex is owned while somebody waits for it, also in a hand.
  pub fair : (t l : ℕ) → is_fair (w.kinds l) ≡ true → 1 ≤ standing t (w.locks l)
      → (w.locks l).exclusive ≢ None
  -- as many share as the limit allows
  pub limited : (l : ℕ) → has_readers (sort_in w l) ≡ true → IsWithinLimit (rules_at w l) (w.locks l)
  -- A thread in a call owns what it owned as the call began, or what the call trades that for.
  pub on_its_way : (t : ℕ) → IsOnItsWay (w.calls t).purpose w t (w.calls t)
  -- a thread whose time was up gives up before it sleeps again
  pub heeds : (t : ℕ) → HeedsItsTime w t

-- ---------------------------------------------------------------- every list of steps

-- the steps with their outcomes lead from w to v by steps of the abstract locks, of which those of a try
-- end it; and in each state on the way owners exclude each other and nobody is forgotten
abbrev pub Behaves : (ℕ → Bool) → LocksState → List Step → List Outcome → LocksState → Type 0
Behaves full w [] [] v = IsSafe w full × (v ≡ w)
Behaves full w (s ∷ ss) (o ∷ os) v =
    IsSafe w full
    × ((u : LocksState) × IsStep w s o u × TriesEnd w s o × Behaves (full_by full u) u ss os v)
Behaves full w [] (o ∷ os) v = ⊥
Behaves full w (s ∷ ss) [] v = ⊥

-- from their opening state so many threads, over locks of these kinds, may tell this of these steps
pub record MayTell (kinds : List Kind) (threads : ℕ) (steps : List Step)
    (told : List Outcome) : Type 0 where
  pub first : LocksState
  pub last : LocksState
  pub opens : Opens kinds threads first
  pub behaves : Behaves (λ l. false) first steps told last
