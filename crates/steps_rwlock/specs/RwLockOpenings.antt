-- A call of a reader-writer lock begins where it may stand, nowhere in the machine, and with
-- nothing done.
use Rattle.std.specs.Prelude.{ℕ, false, Option, ◌≡◌}
use Rattle.steps_base.specs.Profiles.{Profile}
use Rattle.steps_base.specs.Locations.{location_by, nowhere}
use Rattle.spec_locks.specs.Locks.{Rights}
use Rattle.spec_locks.specs.Sites.{Claim, idle}
use Rattle.spec_locks.specs.Purposes.{Blank}
use Rattle.steps_rwlock.specs.declared.places.Admission.{Admission}
use Rattle.steps_rwlock.specs.declared.purposes.RwLockPurpose.{RwLockPurpose}
use Rattle.steps_rwlock.specs.RwLockBegins.{rwlock_first}
use Rattle.steps_rwlock.specs.RwLockProfiles.{rwlock_profile}
use Rattle.steps_rwlock.specs.RwLockCalls.{MayStand}

-- the row of a call that has done nothing yet
pub record IsOpeningRow (row : Profile) : Type 0 where
  pub claims : Option Claim
  pub role : row.role ≡ record idle { claims = claims }
  pub location : location_by row ≡ nowhere
  pub late : row.late ≡ false
  pub gave_up : row.gave_up ≡ false
  pub failed : row.failed ≡ false
  pub recalls : row.recalls ≡ Blank
  pub retries : row.retries ≡ false
  pub released : row.released ≡ false
  pub former : (l : ℕ) (rights : ℕ → Rights) → row.former l rights ≡ rights

pub record PurposeOpens (a : Admission) (q : RwLockPurpose) : Type 0 where
  pub stands : MayStand a (rwlock_first q)
  pub opening : IsOpeningRow (rwlock_profile a (rwlock_first q))

abbrev pub RwLockCallsOpen : Type 0
RwLockCallsOpen = (a : Admission) (q : RwLockPurpose) → PurposeOpens a q
