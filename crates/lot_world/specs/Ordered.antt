-- A world of one lock, of whose rights each thread has few.
use Rattle.std.specs.Prelude.{ℕ, None, ◌≡◌}
use Rattle.spec_locks.specs.declared.calls.Call.{Call}
use Rattle.spec_locks.specs.declared.calls.Step.{Step}
use Rattle.spec_locks.specs.declared.calls.Turn.TheVariants as turn
use Rattle.lot_machine.specs.Machine.{State, section_at}
use Rattle.lot_laws.specs.Refinement.{locks_of}
use Rattle.lot_laws.specs.SitesOf.{IsWorld}
use Rattle.lot_world.specs.Few.{AllHaveFew}
use Rattle.lot_world.specs.Quiet.{HasOneLock}

pub record IsOrdered (w : State) : Type 0 where
  pub world : IsWorld w
  pub lock : HasOneLock w
  pub few : AllHaveFew (locks_of w) 0

abbrev pub NobodyInside : State → Type 0
NobodyInside w = (key : ℕ) → section_at w key ≡ None

-- a thread begins a call
abbrev pub begin_of : ℕ → Call → Step
begin_of t c = record { thread = t; turn = turn.Begin c }
