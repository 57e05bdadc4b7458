-- The steps of a mutex, told by what a thread does about the abstract lock: the deeds of each step.
use Rattle.std.specs.Prelude.{ℕ, Option, Some, None, List, [], ◌∷◌}
use Rattle.core_base.specs.declared.wants.Want.TheVariants.{Exclusive}
use Rattle.steps_mutex.specs.declared.places.MutexPlace.{MutexPlace}
use Rattle.lot_laws.specs.Locations.{Location, location_by}
pub use Rattle.steps_mutex.specs.MutexDeeds.{enter_deeds, handing_deeds, hand_off_deeds, lock_deeds}
pub use Rattle.steps_mutex.specs.MutexDeeds.{mutex_deeds, queued, take_deeds, unlock_deeds}
pub use Rattle.steps_mutex.specs.MutexLaws.{mutex_role, mutex_row}
pub use Rattle.steps_mutex.specs.MutexProfiles.{mutex_profile, owner, inside, with_retry, carrying}
pub use Rattle.steps_base.specs.Profiles.{Hand, Of, hand, hand_owner, in_hand}
use Rattle.spec_locks.specs.Sites.{Has, Deed, Begin}

abbrev pub mutex_location : MutexPlace → Location
mutex_location at = location_by (mutex_row at)

-- ---------------------------------------------------------------- the deeds of each step

-- the thread that does it, if not the thread itself
pub record Act : Type 0 where
  pub by : ℕ
  pub deed : Deed

abbrev pub acts : ℕ → List Deed → List Act
acts t [] = []
acts t (d ∷ ds) = record { by = t; deed = d } ∷ acts t ds

-- a thread to which it hands the lock claims it from then on
abbrev pub claims_of : Option ℕ → List Act
claims_of None = []
claims_of (Some u) = record { by = u; deed = Begin (Some (Has Exclusive)) } ∷ []

-- the deed with which a call begins
abbrev pub begin_deed : MutexPlace → Deed
begin_deed at = Begin (mutex_role at).claims
