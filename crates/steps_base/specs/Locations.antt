-- The station of a thread in the machine's sections, lines and hands, read off the row of its
-- place.
use Rattle.std.specs.Prelude.{Bool, Option, Some, None}
use Rattle.core_base.specs.declared.wants.Want.{Want}
use Rattle.steps_base.specs.Profiles.{Hand, Profile, blank_row}
use Rattle.spec_locks.specs.Sites.{Line}

pub record Location : Type 0 where
  -- inside whose section it is
  pub inside : Option Line
  -- in which line it stands, and for what
  pub stands : Option Line
  pub waits : Option Want
  -- whether it has anybody in hand, and if so, whether it has handed the lock over
  pub has_taken : Option Bool
  -- in whose hand it is
  pub hand : Option Hand

abbrev pub want_in_line : Option Line → Option Want → Option Want
want_in_line None wants = None
want_in_line (Some m) wants = wants

abbrev pub location_by : Profile → Location
location_by row = record {
  inside = row.role.inside;
  stands = row.stands;
  waits = want_in_line row.stands row.wants;
  has_taken = row.has_taken;
  hand = row.hand;
}

abbrev pub nowhere : Location
nowhere = location_by blank_row
