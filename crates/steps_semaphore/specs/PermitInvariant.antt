-- A semaphore between two steps: its holders, its word, and its waiters.
use Rattle.std.specs.Prelude.{ℕ, Option, ◌+◌, ◌*◌, ◌/◌, ◌^◌, ◌<◌, ◌≤◌, ◌≡◌, ◌≢◌, [], length}
use Rattle.core_base.specs.declared.wants.Want.TheVariants.{Shared}
use Rattle.steps_base.specs.declared.acts.Reply.{Reply}
use Rattle.spec_locks.specs.Codes.{code, has_parked}
use Rattle.spec_locks.specs.Deeds.{after_all}
use Rattle.spec_locks.specs.Locks.{Semaphore, Rules, readers, MayEnter, IsBlocked}
use Rattle.spec_locks.specs.Permits.{HasPermits}
use Rattle.spec_locks.specs.Sites.{Site, IsSite, IsDebtorRole, opening_site}
use Rattle.steps_semaphore.specs.declared.places.SemaphorePlace.{SemaphorePlace}
use Rattle.steps_semaphore.specs.SemaphoreDeeds.{semaphore_deeds}
use Rattle.steps_semaphore.specs.SemaphoreLaws.{MayReply, semaphore_role}

-- the rules of a semaphore of so many permits
abbrev pub semaphore : ℕ → Rules
semaphore permits = record { sort = Semaphore; limit = permits }

pub record IsTended (permits : ℕ) (s : Site) : Type 0 where
  pub site : IsSite (semaphore permits) s
  -- while somebody waits, those that hold a permit and those that look after the line are no fewer
  -- than the permits
  pub looked_after : HasPermits (semaphore permits) s
  -- no more hold a permit than there are permits
  pub few : readers s.lock ≤ permits

-- each step of a thread, at whatever place of its call, keeps it so
abbrev pub StepsKeepTended : Type 0
StepsKeepTended =
    (permits : ℕ) (s : Site) (t : ℕ) (p : SemaphorePlace) (whom : Option ℕ) (told : Reply)
    → permits ≤ 2 ^ 62 → IsTended permits s → t < length s.lock.shared
    → s.role t ≡ semaphore_role p → MayReply (semaphore permits) s t p whom told
    → IsTended permits (after_all (semaphore permits) (semaphore_deeds p whom told) s t)

-- a new semaphore, whose word says that all permits are free, is tended
abbrev pub NewOnesAreTended : Type 0
NewOnesAreTended = (permits threads : ℕ) → IsTended permits (opening_site threads)
    × (code (semaphore permits) (opening_site threads) ≡ 2 * permits)

-- while somebody waits beside a free permit, a thread is to wake the next, has it in hand, or tries
-- again
abbrev pub NobodyIsForgotten : Type 0
NobodyIsForgotten = (permits : ℕ) (s : Site) → IsTended permits s → s.lock.queue ≢ []
    → readers s.lock < permits
    → (t : ℕ) × IsDebtorRole Semaphore (s.role t)

-- the word as a thread reads it
pub record TellsPermitsTrue (permits : ℕ) (s : Site) : Type 0 where
  -- the free permits with those held are all permits
  pub all : code (semaphore permits) s / 2 + readers s.lock ≡ permits
  pub parked : has_parked (code (semaphore permits) s) ≡ s.parked
  pub free : 1 ≤ code (semaphore permits) s / 2 → MayEnter (semaphore permits) s.lock Shared
  pub blocked : code (semaphore permits) s / 2 ≡ 0 → IsBlocked (semaphore permits) s.lock Shared
  -- No word passes its range.
  pub small : permits ≤ 2 ^ 62 → code (semaphore permits) s < 2 ^ 64

abbrev pub SemaphoreWordsTellTrue : Type 0
SemaphoreWordsTellTrue = (permits : ℕ) (s : Site) → IsTended permits s → TellsPermitsTrue permits s
