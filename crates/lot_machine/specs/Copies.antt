-- Each thread stands once in the lines of a machine that is copied or restored.
use Rattle.std.specs.Prelude.{ℕ, ◌≡◌, ◌≢◌, ◌≤◌, List, All, length}
use Rattle.core_base.specs.declared.wants.Waiter.{Waiter}
use Rattle.core_base.specs.Lines.{times}
use Rattle.lot_machine.specs.Fits.{AllBelow}
use Rattle.lot_machine.specs.Machine.{State, queue_at, shares_at}
use Rattle.lot_machine.specs.Views.{StandUnder}

-- a thread that stands under a key stands there once, and under no other
pub record StandOnce (w : State) : Type 0 where
  pub once : (t key : ℕ) → times t (queue_at w key) ≤ 1
  pub nowhere_else : (t key other : ℕ) → 1 ≤ times t (queue_at w key) → other ≢ key
      → times t (queue_at w other) ≡ 0

-- the threads of a line stand there once, and in none of these
abbrev pub StandApart : List Waiter → List (List Waiter) → Type 0
StandApart line queues = (t : ℕ) → (times t line ≤ 1)
    × (1 ≤ times t line → All (λ queue. times t queue ≡ 0) queues)

-- each thread has a number of shared rights of each lock
abbrev pub HasRows : State → Type 0
HasRows w = (l : ℕ) → length (shares_at w l) ≡ length w.places

-- a machine in the state w can be led to the state v without memory: both are as large, and in v each line
-- has waiters of its own key, which are there and stand there once
pub record CanRestore (w v : State) : Type 0 where
  pub threads : length v.places ≡ length w.places
  pub locks : length v.locks ≡ length w.locks
  pub shares : length v.shares ≡ length w.shares
  pub sections : length v.sections ≡ length w.sections
  pub queues : length v.queues ≡ length v.sections
  pub rights : length w.shares ≡ length w.locks
  pub rows : HasRows w
  pub rows_after : HasRows v
  pub once : StandOnce v
  pub below : (key : ℕ) → AllBelow (length v.places) (queue_at v key)
  pub keyed : (key : ℕ) → StandUnder key (queue_at v key)
