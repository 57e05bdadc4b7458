-- The profile of a place says all that is asked of its thread. Each sort of lock has a row for each
-- place.
use Rattle.std.specs.Prelude.{ℕ, Bool, false, Option, Some, None, if◌then◌else◌}
use Rattle.core_base.specs.declared.wants.Want.{Want}
use Rattle.core_base.specs.declared.wants.Want.TheVariants.{Exclusive}
use Rattle.spec_locks.specs.Condvars.{CondvarPhase}
use Rattle.spec_locks.specs.Locks.{Rights, Taken}
use Rattle.spec_locks.specs.Purposes.{Purpose, Enters, CondvarMemory, Blank}
use Rattle.spec_locks.specs.declared.calls.Patience.TheVariants.{Try}
use Rattle.spec_locks.specs.Sites.{Role, Line, idle}

-- in whose hand a thread is, and whether it was handed the lock since
pub data Hand : Type 0 where
  Of : (thread : ℕ) → (handed : Bool) → Hand

abbrev pub hand : ℕ → Bool → Option Hand
hand u handed = Some (Of u handed)

-- in the hand of which thread, if any
abbrev pub hand_owner : Option Hand → Option ℕ
hand_owner None = None
hand_owner (Some (Of u handed)) = Some u

abbrev pub in_line : Bool → Line → Option Line
in_line b m = if b then Some m else None

abbrev pub in_hand : Bool → Bool → Option Bool
in_hand any handed = if any then Some handed else None

pub record Profile : Type 0 where
  -- the deeds of the thread at the lock
  pub role : Role
  -- in which line it stands
  pub stands : Option Line
  -- whether it has anybody in hand, and if so, whether it has handed the lock over
  pub has_taken : Option Bool
  -- in whose hand it is
  pub hand : Option Hand
  -- the want of the thread, where it waits
  pub wants : Option Want
  -- on which line it is shown to owe a wake, and whether to try again
  pub owes : Option Line
  pub retries : Bool
  -- the call has a deadline, and its thread sleeps in this line, so that it may give up
  pub timed : Bool
  pub late_line : Option Line
  -- the time of the call was up, and its thread has left the line
  pub late : Bool
  pub gave_up : Bool
  -- the run of a `Once` by this call failed
  pub failed : Bool
  -- a call of a condition variable: what it has seen and moved, and what befell it
  pub recalls : CondvarMemory
  -- the next deed of the thread inside the section of a condition variable, and the mutex that its wait names
  pub stage : Option CondvarPhase
  pub names : Option ℕ
  -- the goal of its call, by the lock, and whether it has given its right up
  pub purpose : ℕ → Purpose
  pub released : Bool
  -- the ownership of each lock as the call began, by what the thread owns now
  pub former : ℕ → (ℕ → Rights) → ℕ → Rights

-- the row of a try: each other row is told by what is otherwise
abbrev pub blank_row : Profile
blank_row = record {
  role = idle;
  stands = None;
  has_taken = None;
  hand = None;
  wants = None;
  owes = None;
  retries = false;
  timed = false;
  late_line = None;
  late = false;
  gave_up = false;
  failed = false;
  recalls = Blank;
  stage = None;
  names = None;
  purpose = λ l. Enters l Exclusive Try;
  released = false;
  former = λ l rights. rights;
}

-- the thread brings no waiters: only a call of a condition variable does
abbrev pub bringing_nobody : Profile → Profile
bringing_nobody row = record row { role = record row.role { will_bring = false; bit_pending = false } }

-- the thread by which it was taken from a queue of the lock, where it was not handed the lock since
abbrev pub taken_from : Option Hand → Option Want → Bool → Option Taken
taken_from (Some (Of u false)) (Some x) here =
    if here then Some (record { by = u; want = x }) else None
taken_from held x here = None
