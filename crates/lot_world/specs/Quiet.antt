-- Each state while a lock is drained, and the last one.
use Rattle.std.specs.Prelude.{ℕ, ◌≡◌, ◌⊎◌, [], length}
use Rattle.steps_base.specs.declared.acts.Act.TheVariants as act
use Rattle.spec_locks.specs.Locks.{rights_of}
use Rattle.spec_locks.specs.Runs.{no_rights}
use Rattle.spec_locks.specs.Sites.{IsSite, Line}
use Rattle.lot_steps.specs.declared.places.Place.{Place}
use Rattle.lot_steps.specs.declared.places.Place.TheVariants.{Idle}
use Rattle.lot_steps.specs.Steps.{act_of}
use Rattle.lot_machine.specs.Machine.{State, place_at, queue_at}
use Rattle.lot_laws.specs.Refinement.{lock_state, locks_of}
use Rattle.lot_laws.specs.SitesOf.{IsWorld, key_of, rules_in, site_of}
use Rattle.lot_world.specs.Drained.{Drains, as_now}
use Rattle.lot_world.specs.Few.{AllHaveFew}

-- a world of one lock, which has owners
pub record HasOneLock (w : State) : Type 0 where
  pub one : length w.locks ≡ 1
  pub sort : Drains (rules_in w 0).sort

-- on the way each thread has few rights, and nobody is forgotten, whether the lock was full or not
pub record IsDraining (w : State) : Type 0 where
  pub world : IsWorld w
  pub lock : HasOneLock w
  pub few : AllHaveFew (locks_of w) 0
  pub now : IsSite (rules_in w 0) (as_now (rules_in w 0) (site_of w 0))

-- a thread is in no call, or sleeps
abbrev pub AtRest : Place → Type 0
AtRest p = (p ≡ Idle) ⊎ (act_of p ≡ act.Sleep)

-- everybody is, and nobody owns between calls
pub record IsQuiet (w : State) : Type 0 where
  pub rest : (t : ℕ) → AtRest (place_at w t)
  pub idle : (t : ℕ) → place_at w t ≡ Idle → rights_of (lock_state w 0) t ≡ no_rights

-- nobody is in a call or queued, and no owner is left
pub record IsAllOver (w : State) : Type 0 where
  pub idle : (t : ℕ) → place_at w t ≡ Idle
  pub queues : (m : Line) → queue_at w (key_of 0 m) ≡ []
  pub owners : (t : ℕ) → rights_of (lock_state w 0) t ≡ no_rights

-- the drain is over then
abbrev pub QuietIsOver : Type 0
QuietIsOver = (w : State) → IsDraining w → IsQuiet w → IsAllOver w
