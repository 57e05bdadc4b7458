-- The abstract condition variable, and what a thread inside its section does. No word, no place and
-- no loop.
use Rattle.std.specs.Prelude.{ℕ, Bool, true, false, Option, Some, None, if◌then◌else◌, ◌≤◌, ◌≡◌, ◌≢◌, ◌⊎◌}
use Rattle.std.specs.Prelude.{List, [], ◌∷◌, ◌++◌, map, take, drop}
use Rattle.core_base.specs.declared.wants.Want.TheVariants.{Exclusive, Wait}
use Rattle.spec_locks.specs.Locks.{Queued, Mutex, Rules, putting, times, standing, without}
use Rattle.spec_locks.specs.Sites.{Main, Site, Bring, Needed, is_empty}

-- The deed that a thread inside the section is about to do, `m` being a mutex.
pub data CondvarPhase : Type 0 where
  -- nothing: it has come, or has done what it came for
  NothingToDo : CondvarPhase
  -- the thread has shown its mutex, and is to stand after the last
  ToStandLast : (m : ℕ) → CondvarPhase
  -- another mutex than its own is shown
  SeesOther : (m : ℕ) → CondvarPhase
  -- a notification finds another mutex than it saw first, or none
  Misses : (m : ℕ) → CondvarPhase
  -- a notification finds the mutex that it saw first
  Sees : (m : ℕ) → CondvarPhase
  -- nothing is shown, and it is to take all waiters
  Takes : (m : ℕ) → CondvarPhase
  -- nobody is left, and it is to show nothing
  Clears : CondvarPhase

pub record Inside : Type 0 where
  pub thread : ℕ
  pub stage : CondvarPhase

-- the mutex shown, the waiters in order, the thread inside, and the mutex that a thread's wait names
pub record CondvarSite : Type 0 where
  pub shown : Option ℕ
  pub waiters : List Queued
  pub inside : Option Inside
  pub waits_with : ℕ → Option ℕ

abbrev pub opening_condvar : CondvarSite
opening_condvar = record { shown = None; waiters = []; inside = None; waits_with = λ t. None }

-- ---------------------------------------------------------------- invariants between steps

-- each waiter is one of this mutex
abbrev pub AllOf : CondvarSite → ℕ → Type 0
AllOf c m = (u : ℕ) → 1 ≤ times u c.waiters → c.waits_with u ≡ Some m

-- a mutex is shown exactly while somebody waits, and all wait with it
abbrev pub IsSettledAt : Option ℕ → CondvarSite → Type 0
IsSettledAt None c = c.waiters ≡ []
IsSettledAt (Some m) c = (c.waiters ≢ []) × AllOf c m

abbrev pub IsSettled : CondvarSite → Type 0
IsSettled c = IsSettledAt c.shown c

abbrev pub StageHolds : CondvarSite → ℕ → CondvarPhase → Type 0
StageHolds c t NothingToDo = IsSettled c
StageHolds c t (ToStandLast m) = (c.shown ≡ Some m) × (c.waits_with t ≡ Some m) × AllOf c m
StageHolds c t (SeesOther m) = IsSettled c × (c.shown ≢ None) × (c.shown ≢ Some m)
StageHolds c t (Misses m) = IsSettled c × (c.shown ≢ Some m)
StageHolds c t (Sees m) = (c.shown ≡ Some m) × (c.waiters ≢ []) × AllOf c m
StageHolds c t (Takes m) = (c.shown ≡ None) × (c.waiters ≢ []) × AllOf c m
StageHolds c t Clears = c.waiters ≡ []

abbrev pub IsAsInside : CondvarSite → Option Inside → Type 0
IsAsInside c None = IsSettled c
IsAsInside c (Some i) = StageHolds c i.thread i.stage

pub record IsCondvar (c : CondvarSite) : Type 0 where
  -- each thread waits at most once
  pub once : (t : ℕ) → times t c.waiters ≤ 1
  -- while nobody is inside, a mutex is shown exactly while somebody waits, and all wait with it
  pub inside : IsAsInside c c.inside

-- ---------------------------------------------------------------- the acts of a thread

pub data CondvarDeed : Type 0 where
  -- a wait begins with a mutex; it ends
  BeginsWait : (m : ℕ) → CondvarDeed
  EndsWait : CondvarDeed
  -- into the section, and out of it
  GoIn : CondvarDeed
  GoOut : CondvarDeed
  -- a wait shows its mutex, or sees another
  Show : (m : ℕ) → CondvarDeed
  SeeOther : (m : ℕ) → CondvarDeed
  -- a wait stands after the last waiter
  StandLast : CondvarDeed
  -- a notification sees the mutex again that it saw first, or does not
  SeeAgain : (m : ℕ) → CondvarDeed
  MissIt : (m : ℕ) → CondvarDeed
  -- a notification shows nothing and takes all; it moves the first, or all
  HideAndTakeAll : CondvarDeed
  MoveFirst : CondvarDeed
  MoveAll : CondvarDeed
  -- a waiter's time is up, and it leaves the list
  LeaveList : CondvarDeed
  -- nobody is left, and nothing is shown
  ShowNone : CondvarDeed

-- t is inside, at this stage
abbrev pub IsInsideAt : CondvarSite → ℕ → CondvarPhase → Type 0
IsInsideAt c t stage = c.inside ≡ Some (record { thread = t; stage = stage })

abbrev pub at : CondvarSite → ℕ → CondvarPhase → CondvarSite
at c t stage = record c { inside = Some (record { thread = t; stage = stage }) }

abbrev pub clears_if : List Queued → CondvarPhase
clears_if left = if is_empty left then Clears else NothingToDo

-- the mutex that was shown is to be taken
abbrev pub hidden : Option ℕ → CondvarPhase
hidden None = NothingToDo
hidden (Some m) = Takes m

abbrev pub queued_to_wait : ℕ → Queued
queued_to_wait t = record { thread = t; want = Wait }

abbrev pub condvar_leads : CondvarDeed → CondvarSite → ℕ → CondvarSite
condvar_leads (BeginsWait m) c t = record c { waits_with = putting c.waits_with t (Some m) }
condvar_leads EndsWait c t = record c { waits_with = putting c.waits_with t None }
condvar_leads GoIn c t = at c t NothingToDo
condvar_leads GoOut c t = record c { inside = None }
condvar_leads (Show m) c t = at (record c { shown = Some m }) t (ToStandLast m)
condvar_leads (SeeOther m) c t = at c t (SeesOther m)
condvar_leads StandLast c t = at (record c { waiters = c.waiters ++ queued_to_wait t ∷ [] }) t NothingToDo
condvar_leads (SeeAgain m) c t = at c t (Sees m)
condvar_leads (MissIt m) c t = at c t (Misses m)
condvar_leads HideAndTakeAll c t = at (record c { shown = None }) t (hidden c.shown)
condvar_leads MoveFirst c t =
    at (record c { waiters = drop 1 c.waiters }) t (clears_if (drop 1 c.waiters))
condvar_leads MoveAll c t = at (record c { waiters = [] }) t NothingToDo
condvar_leads LeaveList c t =
    at (record c { waiters = without t c.waiters }) t (clears_if (without t c.waiters))
condvar_leads ShowNone c t = at (record c { shown = None }) t NothingToDo

-- a thread may leave that has nothing left to do
abbrev pub MayLeaveSection : CondvarPhase → Type 0
MayLeaveSection NothingToDo = Unit {0}
MayLeaveSection (SeesOther m) = Unit {0}
MayLeaveSection (Misses m) = Unit {0}
MayLeaveSection stage = ⊥

-- t is inside, with nothing left to do
abbrev pub MayGoOut : Option Inside → ℕ → Type 0
MayGoOut None t = ⊥
MayGoOut (Some i) t = (i.thread ≡ t) × MayLeaveSection i.stage

abbrev pub IsInsideNot : Option Inside → ℕ → Type 0
IsInsideNot None t = Unit {0}
IsInsideNot (Some i) t = i.thread ≢ t

abbrev pub CondvarNeeded : CondvarDeed → CondvarSite → ℕ → Type 0
CondvarNeeded (BeginsWait m) c t = (times t c.waiters ≡ 0) × IsInsideNot c.inside t
CondvarNeeded EndsWait c t = (times t c.waiters ≡ 0) × IsInsideNot c.inside t
CondvarNeeded GoIn c t = c.inside ≡ None
CondvarNeeded GoOut c t = MayGoOut c.inside t
CondvarNeeded (Show m) c t =
    IsInsideAt c t NothingToDo × (c.waits_with t ≡ Some m) × ((c.shown ≡ None) ⊎ (c.shown ≡ Some m))
CondvarNeeded (SeeOther m) c t = IsInsideAt c t NothingToDo × (c.shown ≢ None) × (c.shown ≢ Some m)
CondvarNeeded StandLast c t = ((m : ℕ) × IsInsideAt c t (ToStandLast m)) × (times t c.waiters ≡ 0)
CondvarNeeded (SeeAgain m) c t = IsInsideAt c t NothingToDo × (c.shown ≡ Some m)
CondvarNeeded (MissIt m) c t = IsInsideAt c t NothingToDo × (c.shown ≢ Some m)
CondvarNeeded HideAndTakeAll c t = (m : ℕ) × IsInsideAt c t (Sees m)
CondvarNeeded MoveFirst c t = (m : ℕ) × IsInsideAt c t (Sees m)
CondvarNeeded MoveAll c t = (m : ℕ) × IsInsideAt c t (Takes m)
CondvarNeeded LeaveList c t = IsInsideAt c t NothingToDo × (1 ≤ times t c.waiters)
CondvarNeeded ShowNone c t = IsInsideAt c t Clears

abbrev pub EachCondvarDeedKeeps : Type 0
EachCondvarDeedKeeps =
    (deed : CondvarDeed) (c : CondvarSite) (t : ℕ) → IsCondvar c → CondvarNeeded deed c t
    → IsCondvar (condvar_leads deed c t)

-- ---------------------------------------------------------------- with the mutex

-- how many a notification moves: the first, or all
abbrev pub moved_of : Bool → List Queued → List Queued
moved_of all q = if all then q else take 1 q

-- in the mutex's line they want it
abbrev pub wanting_mutex : Queued → Queued
wanting_mutex x = record { thread = x.thread; want = Exclusive }

-- no waiter is taken of a mutex that was locked, else the first
abbrev pub taken_of : Bool → List Queued → List Queued
taken_of locked moved = if locked then [] else take 1 (map wanting_mutex moved)

abbrev pub line_of : Bool → List Queued → List Queued
line_of locked moved = if locked then map wanting_mutex moved else drop 1 (map wanting_mutex moved)

-- the stage at which a notification moves
abbrev pub moving : Bool → ℕ → CondvarPhase
moving all m = if all then Takes m else Sees m

-- a waiter stands nowhere at its mutex, and doesn't try it again
abbrev pub WaitsAside : CondvarSite → Site → ℕ → Type 0
WaitsAside c s m =
    (u : ℕ) → 1 ≤ times u c.waiters → c.waits_with u ≡ Some m
    → (standing u s.lock ≡ 0) × ((s.role u).retries ≡ None)

-- a notification moves somebody, each waits with the mutex that is shown, and that mutex may be
-- brought them
pub record MoveFits (r : Rules) (all locked : Bool) (c : CondvarSite) (s : Site)
    (t m : ℕ) : Type 0 where
  pub some : moved_of all c.waiters ≢ []
  pub of : (u : ℕ) → 1 ≤ times u (moved_of all c.waiters) → c.waits_with u ≡ Some m
  pub may : Needed r (Bring (taken_of locked (moved_of all c.waiters))
      (line_of locked (moved_of all c.waiters))) s t

abbrev pub EachMoveFits : Type 0
EachMoveFits =
    (r : Rules) (all locked : Bool) (c : CondvarSite) (s : Site) (t m : ℕ) → r.sort ≡ Mutex
    → IsCondvar c
    → WaitsAside c s m → IsInsideAt c t (moving all m)
    → (s.role t).inside ≡ Some Main → (s.role t).has_taken ≡ false → (s.role t).wakes ≡ None
    → (s.role t).retries ≡ None → (locked ≡ true → (s.role t).will_bring ≡ true)
    → MoveFits r all locked c s t m
