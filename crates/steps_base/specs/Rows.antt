-- A row must say this of its thread, so that each state keeps what is promised, whatever the sort of
-- the lock: of the row of a place, and of the act that the thread does next.
use Rattle.std.specs.Prelude.{ℕ, Bool, true, false, Option, Some, None, if◌then◌else◌, ◌≡◌, ◌≢◌, ◌*◌, ◌⊎◌}
use Rattle.core_base.specs.declared.keys.Keys.TheVariants.{One}
use Rattle.core_base.specs.declared.notes.Note.TheVariants as note
use Rattle.core_base.specs.declared.wants.Want.{Want}
use Rattle.core_base.specs.declared.wants.Want.TheVariants.{Exclusive, Shared}
use Rattle.core_base.specs.Keys.{key_of}
use Rattle.steps_base.specs.declared.acts.Act.{Act}
use Rattle.steps_base.specs.declared.acts.Act.TheVariants.{Rest, Enter, Leave, Sleep, End}
use Rattle.steps_base.specs.declared.acts.Wakes.TheVariants as wakes
use Rattle.steps_base.specs.Profiles.{Profile, hand, taken_from}
use Rattle.spec_locks.specs.Headline.{WakesWaiters, want_of}
use Rattle.spec_locks.specs.Locks.{Sort, Taken, Knows, Once}
use Rattle.spec_locks.specs.Locks as locks
use Rattle.spec_locks.specs.Purposes.{Purpose, Enters, Releases, Converts, Bumps, CallsOnce, Awaits, Waits}
use Rattle.spec_locks.specs.Purposes.{Notifies, MayWait, IsReleasing, lock_for}
use Rattle.spec_locks.specs.Runs.{IsTimed}
use Rattle.spec_locks.specs.Sites.{Claim, Role, Line, Main, Second, Has, Pends, IsDebtorRole, counts_some}
use Rattle.spec_locks.specs.Sites.{has_readers}

-- ---------------------------------------------------------------- calls

-- a call that turns its right into a lesser one
abbrev pub IsDowngrade : Option Purpose → ℕ → Type 0
IsDowngrade (Some (Converts k x y how)) l = (k ≡ l) × (y ≢ Exclusive)
IsDowngrade purpose l = ⊥

-- a bump of a shared right, which wakes the writer aside after its release
abbrev pub WakesAside : Option Purpose → ℕ → Line → Type 0
WakesAside purpose l Main = ⊥
WakesAside (Some (Bumps k Shared)) l Second = k ≡ l
WakesAside purpose l Second = ⊥

-- a call is for rights that its lock knows
abbrev pub KnowsRights : (ℕ → Sort) → Option Purpose → Type 0
KnowsRights sort (Some (Enters l x how)) = Knows (sort l) x
KnowsRights sort (Some (Releases l x fair)) = Knows (sort l) x
KnowsRights sort (Some (Converts l x y how)) = Knows (sort l) x × Knows (sort l) y
KnowsRights sort (Some (Bumps l x)) = Knows (sort l) x
KnowsRights sort (Some (CallsOnce l forced)) = sort l ≡ Once
KnowsRights sort (Some (Awaits l forced timed)) = sort l ≡ Once
KnowsRights sort (Some (Waits l m timed)) = (sort l ≡ locks.Condvar) × (sort m ≡ locks.Mutex)
KnowsRights sort (Some (Notifies l all)) = sort l ≡ locks.Condvar
KnowsRights sort None = Unit {0}

-- ---------------------------------------------------------------- rows

-- the doing of a thread in a call
abbrev pub is_acting : Act → Bool
is_acting Rest = false
is_acting (End answer) = false
is_acting a = true

-- the thread by which it was taken from a queue of its lock
abbrev pub taken_in_row : Profile → Option Taken
taken_in_row row = taken_from row.hand row.wants true

-- the thread stands in a line, or was taken from one
abbrev pub IsWaiting : Profile → Type 0
IsWaiting row = (row.stands ≢ None) ⊎ (taken_in_row row ≢ None)

-- a claim is to this right, or, of a lock that is shared, to the pending one in its place
abbrev pub HasClaimed : Sort → Option Claim → Want → Type 0
HasClaimed sort claims x =
    (claims ≡ Some (Has x)) ⊎ ((x ≡ Exclusive) × (has_readers sort ≡ true)
    × ((b : Bool) × (claims ≡ Some (Pends b))))

-- the thread was handed what it waited for
pub record WasHanded (sort : Sort) (l : ℕ) (row : Profile) : Type 0 where
  pub by : ℕ
  pub in_hand : row.hand ≡ hand by true
  pub waited : MayWait (Some (row.purpose l)) l
  pub want : Want
  pub wants : want_of (Some (row.purpose l)) ≡ Some want
  pub has : HasClaimed sort row.role.claims want

-- the call of a row lets others in: it releases, downgrades or has given up
abbrev pub LetsIn : Sort → ℕ → Profile → Type 0
LetsIn sort l row =
    IsReleasing (Some (row.purpose l)) row.released l
    ⊎ ((has_readers sort ≡ true) × (IsDowngrade (Some (row.purpose l)) l ⊎ ((row.gave_up ≡ true)
    × (row.role.inside ≡ None))))

-- on its way into the section of this line
abbrev pub LetsInAt : Sort → ℕ → Profile → Line → Type 0
LetsInAt sort l row m = LetsIn sort l row ⊎ WakesAside (Some (row.purpose l)) l m

-- a thread that owes a wake on a line is inside its section, or lets others in and is on its way into it
pub record RowOwes (sort : Sort) (l : ℕ) (row : Profile) (a : Act) : Type 0 where
  pub owes : (m : Line) → row.owes ≡ Some m
      → (row.role.inside ≡ Some m) ⊎ ((a ≡ Enter (One (key_of l m))) × LetsInAt sort l row m)
  pub inside : (m : Line) → row.role.inside ≡ Some m → row.owes ≡ Some m
  pub entering : (m : Line) → a ≡ Enter (One (key_of l m)) → LetsInAt sort l row m → row.owes ≡ Some m
  pub second : row.owes ≡ Some Second → has_readers sort ≡ true

-- the thread is to look after the waiters of a line, by what it does
abbrev pub IsDebtorIn : Sort → Role → Line → Type 0
IsDebtorIn sort d Main = IsDebtorRole sort d
IsDebtorIn sort d Second = d.wakes ≡ Some Second

abbrev pub HasDebt : Sort → ℕ → Profile → Line → Type 0
HasDebt sort l row Main =
    ((row.owes ≡ Some Main) × WakesWaiters sort (Some (row.purpose l)) (if row.gave_up then Some l else None)
    row.recalls l)
    ⊎ ((row.retries ≡ true) × (counts_some sort (want_of (Some (row.purpose l))) ≡ true))
HasDebt sort l row Second = row.owes ≡ Some Second

-- the thread has the debt, is awake, stands in no line and isn't taken
pub record RowLooksAfter (sort : Sort) (l : ℕ) (row : Profile) (a : Act) (m : Line) : Type 0 where
  pub debt : HasDebt sort l row m
  pub awake : a ≢ Sleep
  pub stands : row.stands ≡ None
  pub taken : taken_in_row row ≡ None

-- a sleeper that may give up stands in the line, in a call that has a deadline and lets nobody in
pub record RowIsLate (sort : Sort) (l : ℕ) (row : Profile) (a : Act) (m : Line) : Type 0 where
  pub stands : row.stands ≡ Some m
  pub asleep : a ≡ Sleep
  pub timed : IsTimed (Some (row.purpose l)) row.recalls l
  pub shut : LetsIn sort l row → ⊥

pub record RowPromises (sort : Sort) (l : ℕ) (row : Profile) (a : Act) : Type 0 where
  -- the call is of the lock
  pub own : lock_for (row.purpose l) ≡ l
  -- the thread has something to do
  pub acts : is_acting a ≡ true
  -- a waiter is in a call that may wait
  pub waits : IsWaiting row → MayWait (Some (row.purpose l)) l
  -- A call is for rights that its lock knows.
  pub known : (sorts : ℕ → Sort) → sorts l ≡ sort → KnowsRights sorts (Some (row.purpose l))
  -- in the second line stands only a thread that is pending
  pub aside : row.stands ≡ Some Second → (b : Bool) × (row.role.claims ≡ Some (Pends b))
  pub owing : RowOwes sort l row a
  pub debtor : (m : Line) → IsDebtorIn sort row.role m → (row.role.claims ≡ Some (Has Exclusive) → ⊥)
      → RowLooksAfter sort l row a m
  pub asleep : a ≡ Sleep → IsWaiting row ⊎ WasHanded sort l row
  -- a thread that has handed the lock over leaves its section next, and tells so
  pub tells : row.has_taken ≡ Some true
      → (a ≡ Leave (One (2 * l)) (wakes.All note.HandOff)) × (row.role.inside ≡ Some Main)
  pub late : (m : Line) → row.late_line ≡ Some m → RowIsLate sort l row a m
  pub may_be_late : (m : Line) → row.stands ≡ Some m → a ≡ Sleep → IsTimed (Some (row.purpose l)) row.recalls
      l
      → row.late_line ≡ Some m
