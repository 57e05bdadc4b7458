use Rattle.lot_world.proofs.DrainOwners.{owners_may_release}
use Rattle.lot_world.proofs.course_laws.owners_may_release.Goals as goal

pub returns : goal.returns
returns c = owners_may_release
