-- A place says of its thread at a lock: its role there, and where the machine has the thread.
use Rattle.std.specs.Prelude.{ℕ, if◌then◌else◌}
use Rattle.lot_steps.specs.declared.places.Place.{Place}
use Rattle.lot_steps.specs.Steps.{beside_of, calls, is_lock, profile, profile_at_mutex}
pub use Rattle.steps_base.specs.Profiles.{Hand, Of, hand, hand_owner, in_hand}
pub use Rattle.steps_base.specs.Locations.{Location, location_by, nowhere}
use Rattle.spec_locks.specs.Sites.{Role, idle}

-- the deeds of a place at the lock l
abbrev pub role_on : Place → ℕ → Role
role_on p l = if calls p l then (profile p).role else if is_lock l (beside_of p)
    then (profile_at_mutex p).role else idle

abbrev pub location : Place → Location
location p = location_by (profile p)

-- how it stands at the lock l
abbrev pub location_at : Place → ℕ → Location
location_at p l = if calls p l then location p else if is_lock l (beside_of p)
    then location_by (profile_at_mutex p) else nowhere
