-- The rows of the places of a mutex. A row says all that is asked of a place's thread.
use Rattle.std.specs.Prelude.{ℕ, Bool, true, false, Option, Some, None, if◌then◌else◌}
use Rattle.core_base.specs.declared.wants.Want.{Want}
use Rattle.core_base.specs.declared.wants.Want.TheVariants.{Exclusive}
use Rattle.steps_mutex.specs.declared.places.MutexPlace.{MutexPlace}
use Rattle.steps_mutex.specs.declared.places.MutexPlace.TheVariants.{Lock, TryLock, Unlock, UnlockFair, Bump}
use Rattle.steps_mutex.specs.declared.places.MutexPlace.TheVariants.{HandOff}
use Rattle.steps_mutex.specs.declared.lock.Entry.{Entry}
use Rattle.steps_mutex.specs.declared.lock.Entry.TheVariants as entry
use Rattle.steps_mutex.specs.declared.lock.LockAt.{LockAt}
use Rattle.steps_mutex.specs.declared.lock.LockAt.TheVariants as lock
use Rattle.steps_mutex.specs.declared.unlock.UnlockAt.{UnlockAt}
use Rattle.steps_mutex.specs.declared.unlock.UnlockAt.TheVariants as unlock
use Rattle.steps_mutex.specs.declared.hand_off.HandOffAt.{HandOffAt}
use Rattle.steps_mutex.specs.declared.hand_off.HandOffAt.TheVariants as hand_off
use Rattle.steps_mutex.specs.MutexSteps.{is_timed}
use Rattle.steps_base.specs.Profiles.{hand, hand_owner, in_hand, in_line, Profile, blank_row}
use Rattle.spec_locks.specs.Locks.{Rights}
use Rattle.spec_locks.specs.Runs.{one_more_at, one_less_at}
use Rattle.spec_locks.specs.Purposes.{Purpose, Enters, Releases, Bumps}
use Rattle.spec_locks.specs.declared.calls.Patience.TheVariants.{Patient, Timed}
use Rattle.spec_locks.specs.Sites.{Role, Line, Has, Main, idle, found}

-- ---------------------------------------------------------------- the role of a thread at the lock

abbrev pub owner : Role
owner = record idle { claims = Some (Has Exclusive) }

abbrev pub inside : Role
inside = record idle { inside = Some Main }

abbrev pub carrying : Role
carrying = record inside { has_taken = true; owes_taken = true }

abbrev pub with_retry : Bool → Role → Role
with_retry retries d = record d { retries = if retries then Some Exclusive else None }

-- ---------------------------------------------------------------- calls that enter

abbrev pub is_bump : Entry → Bool
is_bump entry.Bump = true
is_bump e = false

abbrev pub entry_purpose : ℕ → Entry → Purpose
entry_purpose l entry.Lock = Enters l Exclusive Patient
entry_purpose l entry.LockTimed = Enters l Exclusive Timed
entry_purpose l entry.Bump = Bumps l Exclusive

-- the thread's ownership before its release, by what it owns now
abbrev pub before_release : ℕ → Bool → (ℕ → Rights) → ℕ → Rights
before_release l released rights = if released then one_more_at l Exclusive rights else rights

abbrev pub before_entry : ℕ → Bool → Bool → (ℕ → Rights) → ℕ → Rights
before_entry l bumps false rights = before_release l bumps rights
before_entry l bumps true rights = if bumps then rights else one_less_at l Exclusive rights

abbrev pub was_handed : LockAt → Bool
was_handed (lock.Handed by) = true
was_handed lock.Accept = true
was_handed at = false

abbrev pub lock_row : Bool → Bool → LockAt → Profile
lock_row timed retries lock.First = record blank_row { role = with_retry retries idle }
lock_row timed retries lock.Load = record blank_row { role = with_retry retries idle }
lock_row timed retries (lock.Decide seen) = record blank_row { role = with_retry retries idle }
lock_row timed retries lock.Check = record blank_row { role = with_retry retries inside; owes = Some Main }
lock_row timed retries (lock.Leave parked) =
    record blank_row {
      role = with_retry (if parked then false else retries) inside;
      stands = if parked then Some Main else None;
      owes = Some Main;
    }
lock_row timed retries lock.Asleep =
    record blank_row { stands = Some Main; late_line = in_line timed Main }
lock_row timed retries (lock.Taken by) = record blank_row { hand = hand by false }
lock_row timed retries (lock.Handed by) = record blank_row { role = owner; hand = hand by true }
lock_row timed retries lock.Accept = record blank_row { role = owner }
lock_row timed retries lock.Remove =
    record blank_row { role = inside; stands = Some Main; owes = Some Main; late = true }
lock_row timed retries lock.Clear =
    record blank_row {
      role = record inside { empty = Some Main };
      owes = Some Main;
      late = true;
      gave_up = true;
    }
lock_row timed retries lock.GiveUp =
    record blank_row { role = inside; owes = Some Main; late = true; gave_up = true }

-- ---------------------------------------------------------------- calls that release

-- a fair release, or a bump, which enters again after it
abbrev pub release_purpose : ℕ → Bool → Purpose
release_purpose l bumps = if bumps then Bumps l Exclusive else Releases l Exclusive true

abbrev pub unlock_row : UnlockAt → Profile
unlock_row unlock.Subtract = record blank_row { role = owner }
unlock_row unlock.Enter =
    record blank_row { role = record idle { wakes = Some Main }; owes = Some Main; released = true }
unlock_row unlock.Take =
    record blank_row { role = record inside { wakes = Some Main }; owes = Some Main; released = true }
unlock_row (unlock.Clear any) =
    record blank_row {
      role = record carrying { empty = Some Main };
      has_taken = in_hand any false;
      owes = Some Main;
      released = true;
    }
unlock_row (unlock.Leave any) =
    record blank_row {
      role = carrying;
      has_taken = in_hand any false;
      owes = Some Main;
      released = true;
    }

-- whether nobody is left after a take
abbrev pub seen_empty : Bool → Bool → Bool
seen_empty any none_left = if any then none_left else true

abbrev pub hand_off_row : HandOffAt → Profile
hand_off_row hand_off.Enter = record blank_row { role = owner }
hand_off_row hand_off.Take = record blank_row { role = record owner { inside = Some Main } }
hand_off_row (hand_off.Store any none_left) =
    record blank_row {
      role = record carrying
          { claims = Some (Has Exclusive); empty = found Main (seen_empty any none_left) };
      has_taken =
          in_hand any false;
    }
hand_off_row (hand_off.Leave any) =
    record blank_row {
      role = record inside { has_taken = true };
      has_taken = in_hand any true;
      released = true;
    }

-- ---------------------------------------------------------------- every place

-- a call that enters has nobody in hand
abbrev pub entering_row : Entry → Bool → Bool → Profile → Profile
entering_row e retries handed row = record row {
  has_taken = None;
  wants = Some Exclusive;
  retries = retries;
  timed = is_timed e;
  purpose = λ l. entry_purpose l e;
  released = is_bump e;
  former = λ l. before_entry l (is_bump e) handed;
}

-- a call that releases waits for nothing
abbrev pub leaving_row : (ℕ → Purpose) → Profile → Profile
leaving_row purpose row = record blank_row {
  role = row.role;
  has_taken = row.has_taken;
  owes = row.owes;
  purpose = purpose;
  released = row.released;
  former = λ l. before_release l row.released;
}

abbrev pub mutex_profile : MutexPlace → Profile
mutex_profile (Lock e retries at) =
    entering_row e retries (was_handed at) (lock_row (is_timed e) retries at)
mutex_profile TryLock = blank_row
mutex_profile (Unlock at) = leaving_row (λ l. Releases l Exclusive false) (unlock_row at)
mutex_profile UnlockFair = leaving_row (λ l. release_purpose l false) (record blank_row { role = owner })
mutex_profile Bump = leaving_row (λ l. release_purpose l true) (record blank_row { role = owner })
mutex_profile (HandOff bumps at) =
    leaving_row (λ l. release_purpose l bumps) (record (hand_off_row at) { owes = Some Main })

-- the thread that took this one and has not left its section yet
abbrev pub mutex_taker : MutexPlace → Option ℕ
mutex_taker at = hand_owner (mutex_profile at).hand

-- the want of the thread, where it waits
abbrev pub mutex_wants : MutexPlace → Option Want
mutex_wants at = (mutex_profile at).wants

-- the line in which the thread sleeps in a call that may give up
abbrev pub mutex_late_line : MutexPlace → Option Line
mutex_late_line at = (mutex_profile at).late_line

-- from the step that saw waiters, or from entering the section, until the section is left
abbrev pub mutex_owes : MutexPlace → Option Line
mutex_owes at = (mutex_profile at).owes

abbrev pub mutex_retries : MutexPlace → Bool
mutex_retries at = (mutex_profile at).retries
