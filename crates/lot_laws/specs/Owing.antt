-- A thread owes a wake on a line by its history: from the step that saw waiters, or from entering the
-- section, until the section is left.
use Rattle.steps_base.specs.Rows.{IsDowngrade}
use Rattle.std.specs.Prelude.{ℕ, Bool, true, false, if◌then◌else◌, ◌==◌, ◌&&◌, ◌||◌, Option, Some, None, ◌≡◌}
use Rattle.std.specs.Prelude.{◌≢◌, ◌⊎◌, ◌↔◌}
use Rattle.core_base.specs.declared.wants.Want.TheVariants.{Exclusive, Shared}
use Rattle.spec_locks.specs.declared.outcomes.Outcome.{Outcome}
use Rattle.spec_locks.specs.declared.outcomes.Outcome.TheVariants as told
use Rattle.core_base.specs.declared.keys.Keys.TheVariants.{One}
use Rattle.core_base.specs.declared.ops.Op.{Op}
use Rattle.core_base.specs.declared.wants.Want.{Want}
use Rattle.steps_base.specs.declared.acts.Act.TheVariants.{Enter, Take, Word}
use Rattle.steps_base.specs.declared.acts.TakeWhich.TheVariants.{All, Picked}
use Rattle.lot_steps.specs.Steps.{act_of, line_owed}
use Rattle.lot_machine.specs.Machine.{State, place_at, word_at, section_at}
use Rattle.lot_laws.specs.Refinement.{RunsClosure, call_at}
use Rattle.lot_laws.specs.SitesOf.{rules_in, key_of}
use Rattle.spec_locks.specs.Codes.{parked_in, aside_in, count_in}
use Rattle.spec_locks.specs.Locks.{Sort}
use Rattle.spec_locks.specs.Sites.{Line, Main, Second, has_readers}
use Rattle.spec_locks.specs.Purposes.{Purpose, Releases, Converts, Bumps, CallsOnce, Waits, IsReleasing}

abbrev pub sort_at : State → ℕ → Sort
sort_at w l = (rules_in w l).sort

-- a thread is shown to owe a wake on a line of a lock
abbrev pub Owes : State → ℕ → ℕ → Line → Type 0
Owes w t l m = line_owed (place_at w t) l ≡ Some m

-- a thread is inside the section of the line
abbrev pub IsInside : State → ℕ → ℕ → Line → Type 0
IsInside w t l m = section_at w (key_of l m) ≡ Some t

-- a call that waits on a condition variable
abbrev pub IsWait : Option Purpose → Type 0
IsWait (Some (Waits l m timed)) = Unit {0}
IsWait purpose = ⊥

-- the call of a thread releases the lock
abbrev pub ReleasesLock : State → ℕ → ℕ → Type 0
ReleasesLock w t l = IsReleasing (call_at w t).purpose (call_at w t).released l

-- a thread has given up to wait for the lock, and is inside none of its sections
abbrev pub HasGivenUp : State → ℕ → ℕ → Type 0
HasGivenUp w t l = ((call_at w t).gave_up ≡ Some l) × ((m : Line) → IsInside w t l m → ⊥)

-- a thread's call lets others in: it releases the lock, or, where that is shared, turns its right into a
-- lesser one or has given up
abbrev pub LetsOthersIn : State → ℕ → ℕ → Type 0
LetsOthersIn w t l =
    ReleasesLock w t l
    ⊎ ((has_readers (sort_at w l) ≡ true)
    × (IsDowngrade (call_at w t).purpose l ⊎ HasGivenUp w t l))

-- the line that it lets in: a thread that shares a lock looks for the writer aside, everybody else to the
-- main line
abbrev pub line_let_in : Sort → Option Purpose → Line
line_let_in sort (Some (Releases l Shared fair)) = if has_readers sort then Second else Main
line_let_in sort (Some (Bumps l Shared)) = if has_readers sort then Second else Main
line_let_in sort purpose = Main

-- whether a word says that somebody may wait in a line: its parked bit is set, and for the second
-- line one reader is left
abbrev pub tells_of : Sort → Line → ℕ → Bool
tells_of sort Main v = parked_in sort v
tells_of sort Second v = aside_in sort v && (count_in v == 1)

-- an owner that is to hand its lock over leaves it at once only where its word has no other bit
abbrev pub tells_by : Sort → Option Purpose → Line → ℕ → Bool
tells_by sort (Some (Releases l Exclusive true)) Main v = parked_in sort v || aside_in sort v
tells_by sort (Some (Bumps l Exclusive)) Main v = parked_in sort v || aside_in sort v
tells_by sort purpose m v = tells_of sort m v

-- a bump, or a fair release of an upgradable right, looks at the word before it gives its right up
abbrev pub LooksFirst : Option Purpose → ℕ → Type 0
LooksFirst (Some (Releases k x fair)) l = (k ≡ l) × (fair ≡ true) × (x ≢ Exclusive)
LooksFirst (Some (Bumps k x)) l = (k ≡ l) × (x ≢ Exclusive)
LooksFirst purpose l = ⊥

abbrev pub OnlyLooks : State → ℕ → ℕ → Type 0
OnlyLooks w t l = LooksFirst (call_at w t).purpose l × ((call_at w t).released ≡ false)

-- a call that lets others in finds a word that says that somebody may wait, and goes on; where it
-- only looked, into the section of the line; a wait by the step with which it releases its mutex
abbrev pub SeesWaiters : State → ℕ → ℕ → Line → Outcome → State → Type 0
SeesWaiters w t l m o v =
    LetsOthersIn w t l × (line_let_in (sort_at w l) (call_at w t).purpose ≡ m)
    × (tells_by (sort_at w l) (call_at w t).purpose m (word_at w l) ≡ true) × (o ≡ told.Step)
    × (OnlyLooks v t l → act_of (place_at v t) ≡ Enter (One (key_of l m)))
    × (IsWait (call_at w t).purpose → (call_at v t).released ≡ true)

-- a thread's call is a downgrade, or has given up
abbrev pub LetsMoreIn : State → ℕ → ℕ → Type 0
LetsMoreIn w t l = (has_readers (sort_at w l) ≡ true)
    × (IsDowngrade (call_at w t).purpose l ⊎ HasGivenUp w t l)

-- a conversion keeps this right while it wakes others: the lesser one, or that which it had
abbrev pub kept_by : Option Purpose → Option Want
kept_by (Some (Converts l x Exclusive how)) = Some x
kept_by (Some (Converts l x y how)) = Some y
kept_by purpose = None

-- By its next act a thread takes the waiters of the main line that the lock lets in while this right is kept.
abbrev pub TakesNext : State → ℕ → ℕ → Option Want → Type 0
TakesNext w t l kept = (recursive : Bool)
    × (act_of (place_at w t) ≡ Take (key_of l Main) (Picked kept recursive))

-- a downgrade, or a call that has given up, works on the word of a lock while threads wait in the main line
pub record GivesWayWhileSomeWait (w : State) (t l : ℕ) : Type 0 where
  pub shared : has_readers (sort_at w l) ≡ true
  pub lets_in : IsDowngrade (call_at w t).purpose l ⊎ HasGivenUp w t l
  pub works : (op : Op) × (act_of (place_at w t) ≡ Word l op)
  pub told : parked_in (sort_at w l) (word_at w l) ≡ true

-- the thread's call runs the closure of a `Once`, or has run it
abbrev pub RunsOrRan : State → ℕ → ℕ → Type 0
RunsOrRan w t l = ((forced : Bool) × ((call_at w t).purpose ≡ Some (CallsOnce l forced)))
    × ((call_at w t).released ≡ true)

-- in a step from w to v its thread begins and ends to owe by what it sees and where it is, and no
-- other thread does
pub record OwesSince (w : State) (t : ℕ) (o : Outcome) (v : State) : Type 0 where
  pub own : (l : ℕ) (m : Line) → o ≢ told.NotNow → Owes v t l m
      ↔ (IsInside v t l m ⊎ SeesWaiters w t l m o v)
  -- a conversion or a roll-back doesn't end by that step, so that it owes those waiters their wake
  pub goes_on : (l : ℕ) → o ≢ told.NotNow → GivesWayWhileSomeWait w t l → o ≡ told.Step
  -- As such a thread comes into the section it takes all that the lock lets in.
  pub takes : (l : ℕ) → LetsMoreIn w t l → (IsInside w t l Main → ⊥) → IsInside v t l Main
      → TakesNext v t l (kept_by (call_at w t).purpose)
  -- Nor does a call end as its run of a `Once` ends, well or not, while threads wait; and as it comes into the
  -- section it takes them all.
  pub run_goes_on : (l : ℕ) → o ≢ told.NotNow → RunsClosure w t l
      → parked_in (sort_at w l) (word_at w l) ≡ true → o ≡ told.Step
  pub takes_all : (l : ℕ) → RunsOrRan w t l → (IsInside w t l Main → ⊥) → IsInside v t l Main
      → act_of (place_at v t) ≡ Take (key_of l Main) All
  pub others : (u l : ℕ) → u ≢ t → line_owed (place_at v u) l ≡ line_owed (place_at w u) l
