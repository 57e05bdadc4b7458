-- The row of a place promises of a step to the next one, whatever the sort of its lock.
use Rattle.lot_laws.proofs.Imports
use Imports.{ℕ, Bool, true, false, Option, Some, None, ◌||◌, ◌≡◌, ◌≢◌, ◌⊎◌, inl, inr, refl, sym, ◌∙◌, One, Want}
use Imports.{Exclusive, Outcome, Act, Enter, Sleep, Profile, Place, act_of, profile, parked_in, Sort, Purpose}
use Imports.{Enters, Releases, Converts, Bumps, CallsOnce, Awaits, IsReleasing, lock_for, Waits, Notifies, Line}
use Imports.{Main, Second, key_of, LooksFirst, line_let_in, tells_by, tells_of, IsDowngrade, KnowsRights}
use Rattle.spec_locks.specs.declared.outcomes.Outcome.TheVariants as told
use Rattle.spec_locks.specs.Locks as sorts
pub use Rattle.steps_base.specs.Rows.{is_acting, taken_in_row, IsWaiting, HasClaimed, WasHanded, LetsIn}
pub use Rattle.steps_base.specs.Rows.{LetsInAt, RowOwes, IsDebtorIn, HasDebt, RowLooksAfter, RowIsLate}
pub use Rattle.steps_base.specs.Rows.{RowPromises}
pub use Rattle.lot_machine.proofs.Acted.{Befalls}

-- a call is of one lock
abbrev pub CallsOneLock : Option Purpose → Type 0
CallsOneLock (Some (Waits l m timed)) = ⊥
CallsOneLock (Some (Notifies l all)) = ⊥
CallsOneLock purpose = Unit {0}

-- a call of a lock that is no condition variable is of one lock
pub calls_one : (sort : Sort) (q : Purpose) → KnowsRights (λ k. sort) (Some q) → sort ≢ sorts.Condvar
    → CallsOneLock (Some q)
calls_one sort (Waits k m timed) knows other = other knows.0
calls_one sort (Notifies k all) knows other = other knows
calls_one sort q knows other = tt

pub releases_for : (q : Purpose) (released : Bool) (l : ℕ) → CallsOneLock (Some q)
    → IsReleasing (Some q) released l
    → lock_for q ≡ l
releases_for (Enters k x how) released l one h = absurd h
releases_for (Releases k x fair) released l one h = h
releases_for (Converts k x y how) released l one h = absurd h
releases_for (Bumps k x) released l one h = h.0
releases_for (CallsOnce k forced) released l one h = h.0
releases_for (Awaits k forced timed) released l one h = absurd h
releases_for (Waits k m timed) released l one h = absurd one
releases_for (Notifies k all) released l one h = absurd one

pub downgrades_for : (q : Purpose) (l : ℕ) → IsDowngrade (Some q) l → lock_for q ≡ l
downgrades_for (Enters k x how) l h = absurd h
downgrades_for (Releases k x fair) l h = absurd h
downgrades_for (Converts k x y how) l h = h.0
downgrades_for (Bumps k x) l h = absurd h
downgrades_for (CallsOnce k forced) l h = absurd h
downgrades_for (Awaits k forced timed) l h = absurd h
downgrades_for (Waits k m timed) l h = absurd h
downgrades_for (Notifies k all) l h = absurd h

-- ---------------------------------------------------------------- a step

-- the thread's call lets others in, and the word says that somebody may wait in the line
abbrev pub RowSees : Sort → ℕ → ℕ → Profile → Line → Type 0
RowSees sort l word row m =
    LetsIn sort l row × (line_let_in sort (Some (row.purpose l)) ≡ m) × (tells_of sort m word ≡ true)

-- a thread that goes on to the next row owes a wake on a line since it saw waiters there, or is inside its
-- section
pub record RowOwesNext (sort : Sort) (l word : ℕ) (row : Profile) (o : Outcome) (next : Profile) : Type 0
  where
    pub since : (m : Line) → next.owes ≡ Some m → (next.role.inside ≡ Some m)
        ⊎ (RowSees sort l word row m × (o ≡ told.Step))
    pub sees : (m : Line) → RowSees sort l word row m → o ≡ told.Step → next.owes ≡ Some m

-- the word says so by what its call is for
abbrev pub RowFinds : Sort → ℕ → ℕ → Profile → Line → Type 0
RowFinds sort l word row m =
    LetsIn sort l row × (line_let_in sort (Some (row.purpose l)) ≡ m)
    × (tells_by sort (Some (row.purpose l)) m word ≡ true)

-- the thread only looked
abbrev pub RowLooks : ℕ → Profile → Type 0
RowLooks l row = LooksFirst (Some (row.purpose l)) l × (row.released ≡ false)

-- A thread that may hand its lock over, or bump, owes as it does this next.
pub record RowOwesThen (sort : Sort) (l word : ℕ) (row : Profile) (o : Outcome) (next : Profile)
    (a : Act) : Type 0 where
  pub since : (m : Line) → next.owes ≡ Some m → (next.role.inside ≡ Some m)
      ⊎ (RowFinds sort l word row m × (o ≡ told.Step))
  pub sees : (m : Line) → RowFinds sort l word row m → o ≡ told.Step
      → (RowLooks l next → a ≡ Enter (One (key_of l m)))
      → next.owes ≡ Some m

or_none : (b : Bool) → (b || false) ≡ b
or_none true = refl
or_none false = refl

-- a mutex has no second bit
pub mutex_tells : (q : Option Purpose) (m : Line) (v : ℕ) → tells_by sorts.Mutex q m v ≡ tells_of sorts.Mutex
    m v
mutex_tells None m v = refl
mutex_tells (Some (Enters l x how)) m v = refl
mutex_tells (Some (Converts l x y how)) m v = refl
mutex_tells (Some (CallsOnce l forced)) m v = refl
mutex_tells (Some (Awaits l forced timed)) m v = refl
mutex_tells (Some (Waits l k timed)) m v = refl
mutex_tells (Some (Notifies l all)) m v = refl
mutex_tells (Some (Releases l x false)) m v = by_right x m
  where
    by_right : (x : Want) (m : Line) → tells_by sorts.Mutex (Some (Releases l x false)) m v ≡ tells_of
        sorts.Mutex m v
    by_right Exclusive Main = refl
    by_right Exclusive Second = refl
    by_right x m = refl
mutex_tells (Some (Releases l x true)) m v = by_right x m
  where
    by_right : (x : Want) (m : Line) → tells_by sorts.Mutex (Some (Releases l x true)) m v ≡ tells_of
        sorts.Mutex m v
    by_right Exclusive Main = or_none (parked_in sorts.Mutex v)
    by_right Exclusive Second = refl
    by_right x m = refl
mutex_tells (Some (Bumps l x)) m v = by_right x m
  where
    by_right : (x : Want) (m : Line) → tells_by sorts.Mutex (Some (Bumps l x)) m v ≡ tells_of sorts.Mutex m v
    by_right Exclusive Main = or_none (parked_in sorts.Mutex v)
    by_right Exclusive Second = refl
    by_right x m = refl

-- a thread that looks nowhere first owes since it saw waiters
pub owes_then : {sort : Sort} {l word : ℕ} {row : Profile} {o : Outcome} {next : Profile} {a : Act}
    → ((m : Line) → tells_by sort (Some (row.purpose l)) m word ≡ tells_of sort m word)
    → RowOwesNext sort l word row o next
    → RowOwesThen sort l word row o next a
owes_then same k = record {
  since = λ m h. elim (k.since m h) [ inl i ↦ inl i | inr s ↦ inr ((s.0.0, s.0.1, same m ∙ s.0.2), s.1) ];
  sees = λ m s step looks. k.sees m (s.0, s.1, sym (same m) ∙ s.2) step;
}

-- a thread whose time is up is then awake, inside the section of the line where it slept
pub record IsLateNext (q : Place) (m : Line) : Type 0 where
  pub inside : (profile q).role.inside ≡ Some m
  pub owes : (profile q).owes ≡ Some m
  pub awake : act_of q ≢ Sleep
