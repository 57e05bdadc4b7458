-- A `Once`: how far it has come, and what a thread may do to it in one step.
use Rattle.std.specs.Prelude.{ℕ, Bool, true, false}
use Rattle.core_base.specs.declared.wants.Want.{Want}
use Rattle.core_base.specs.declared.wants.Want.TheVariants.{Wait, CallOnce}

-- new, poisoned by a run that failed, run by one thread, or done for ever
pub data Phase : Type 0 where
  New : Phase
  Poisoned : Phase
  InProgress : (runner : ℕ) → Phase
  Done : Phase

pub data OnceCase : Type 0 where
  -- the thread begins to run its closure
  Start : (forced : Bool) → OnceCase
  -- the closure answers well, or an error
  Finish : OnceCase
  Fail : OnceCase
  -- the thread stands after the last waiter
  Rest : (want : Want) → (forced : Bool) → OnceCase
  -- the thread takes all waiters
  TakeAll : OnceCase

-- a new one may be started by any call, a poisoned one by a forced call alone
abbrev pub MayStart : Phase → Bool → Type 0
MayStart New forced = Unit {0}
MayStart Poisoned true = Unit {0}
MayStart phase forced = ⊥

-- a caller that wants to run waits while another runs; one that only waits does so until it is done, or
-- poisoned unless forced
abbrev pub MayRest : Want → Bool → Phase → Type 0
MayRest CallOnce forced (InProgress runner) = Unit {0}
MayRest Wait forced New = Unit {0}
MayRest Wait forced (InProgress runner) = Unit {0}
MayRest Wait true Poisoned = Unit {0}
MayRest wanted forced phase = ⊥

abbrev pub IsRunning : Phase → Type 0
IsRunning (InProgress runner) = Unit {0}
IsRunning phase = ⊥

abbrev pub phase_after : OnceCase → ℕ → Phase → Phase
phase_after (Start forced) t phase = InProgress t
phase_after Finish t phase = Done
phase_after Fail t phase = Poisoned
phase_after case t phase = phase

-- the value that it adds to the word
abbrev pub phase_code : Phase → ℕ
phase_code New = 0
phase_code Done = 1
phase_code Poisoned = 2
phase_code (InProgress runner) = 4

-- a caller that waits to run it, and not for another's run to end
abbrev pub wants_to_run : Want → Bool
wants_to_run CallOnce = true
wants_to_run wanted = false
