-- The rows of the places of a `Once`. A row says all that is asked of a place's thread.
use Rattle.std.specs.Prelude.{ℕ, Bool, true, false, Option, Some, None, if◌then◌else◌, not}
use Rattle.core_base.specs.declared.wants.Want.{Want}
use Rattle.core_base.specs.declared.wants.Want.TheVariants as wants
use Rattle.spec_locks.specs.declared.calls.OnceCall.{OnceCall}
use Rattle.steps_base.specs.Profiles.{hand, hand_owner, in_hand, in_line, Profile, blank_row}
use Rattle.spec_locks.specs.Purposes.{Awaits, CallsOnce, once_purpose}
use Rattle.spec_locks.specs.Sites.{Role, Line, Claim, Runs, Ran, Main, idle}
use Rattle.steps_once.specs.declared.look.LookAt.{LookAt}
use Rattle.steps_once.specs.declared.look.LookAt.TheVariants as look
use Rattle.steps_once.specs.declared.run.RunAt.{RunAt}
use Rattle.steps_once.specs.declared.run.RunAt.TheVariants as run
use Rattle.steps_once.specs.declared.give_up.GiveUpAt.{GiveUpAt}
use Rattle.steps_once.specs.declared.give_up.GiveUpAt.TheVariants as give_up
use Rattle.steps_once.specs.declared.places.OncePlace.{OncePlace}
use Rattle.steps_once.specs.declared.places.OncePlace.TheVariants.{Look, Run, GiveUp}
use Rattle.steps_once.specs.OnceSteps.{is_timed, want_of}

-- ---------------------------------------------------------------- a thread that looks, or waits

abbrev pub inside : Role
inside = record idle { inside = Some Main }

-- the want of the thread again since it was woken
abbrev pub with_retry : Option Want → Role → Role
with_retry wanted d = record d { retries = wanted }

abbrev pub look_row : Bool → Option Want → LookAt → Profile
look_row timed wanted look.Load = record blank_row { role = with_retry wanted idle }
look_row timed wanted (look.Decide seen) = record blank_row { role = with_retry wanted idle }
look_row timed wanted look.Check = record blank_row { role = with_retry wanted inside; owes = Some Main }
look_row timed wanted (look.Leave parked) =
    record blank_row {
      role = with_retry (if parked then None else wanted) inside;
      stands = in_line parked Main;
      owes = Some Main;
    }
look_row timed wanted look.Asleep =
    record blank_row { stands = Some Main; late_line = in_line timed Main }
look_row timed wanted (look.Taken by) = record blank_row { hand = hand by false }

abbrev pub looking_row : OnceCall → Bool → Profile → Profile
looking_row c retries row = record row {
  wants = Some (want_of c);
  retries = retries;
  timed = is_timed c;
  purpose = λ l. once_purpose l c;
}

-- ---------------------------------------------------------------- giving up

-- a thread inside the section owes there, as any does
abbrev pub late_row : Profile → Profile
late_row row = record row { owes = Some Main; late = true }

abbrev pub give_up_row : GiveUpAt → Profile
give_up_row give_up.Remove = late_row (record blank_row { role = inside; stands = Some Main })
give_up_row give_up.Clear =
    late_row (record blank_row { role = record inside { empty = Some Main }; gave_up = true })
give_up_row give_up.Leave = late_row (record blank_row { role = inside; gave_up = true })

-- ---------------------------------------------------------------- a thread that runs its closure

abbrev pub running_role : Role
running_role = record idle { claims = Some Runs }

-- the thread's own run ended well, or not
abbrev pub ran : Bool → Option Claim
ran succeeded = if succeeded then Some Ran else None

-- the thread has cleared the bit beside waiters, that it takes
abbrev pub taking_role : Bool → Role
taking_role succeeded = record idle { wakes = Some Main; bit_pending = true; claims = ran succeeded }

-- once its run has ended, it owes the waiters their wake
abbrev pub ending : Bool → Role → Profile
ending succeeded role = record blank_row { role = role; owes = Some Main; failed = not succeeded }

abbrev pub run_row : RunAt → Profile
run_row (run.Closure poisoned) = record blank_row { role = running_role }
run_row (run.Close succeeded) = record blank_row { role = running_role }
run_row (run.Enter succeeded) = ending succeeded (taking_role succeeded)
run_row (run.Take succeeded) = ending succeeded (record (taking_role succeeded) { inside = Some Main })
run_row (run.Leave succeeded any) =
    record (ending succeeded (record inside { has_taken = true; claims = ran succeeded }))
    { has_taken = in_hand any false }

-- ---------------------------------------------------------------- every place

abbrev pub retried_want : OnceCall → Bool → Option Want
retried_want c retries = if retries then Some (want_of c) else None

abbrev pub once_profile : OncePlace → Profile
once_profile (Look c retries at) = looking_row c retries (look_row (is_timed c) (retried_want c retries) at)
once_profile (Run forced at) =
    record (run_row at) { purpose = λ l. CallsOnce l forced; released = true }
once_profile (GiveUp retries at) =
    record (give_up_row at) {
      wants = Some wants.Wait;
      retries = retries;
      timed = true;
      purpose = λ l. Awaits l false true;
    }

-- the thread that took this one and has not left its section yet
abbrev pub once_taker : OncePlace → Option ℕ
once_taker at = hand_owner (once_profile at).hand

-- the want of the thread, where it waits
abbrev pub once_wants : OncePlace → Option Want
once_wants at = (once_profile at).wants

-- the line in which the thread sleeps in a call that may give up
abbrev pub once_late_line : OncePlace → Option Line
once_late_line at = (once_profile at).late_line

-- from the step that saw waiters, or from entering the section, until the section is left
abbrev pub once_owes : OncePlace → Option Line
once_owes at = (once_profile at).owes

abbrev pub once_retries : OncePlace → Bool
once_retries at = (once_profile at).retries
