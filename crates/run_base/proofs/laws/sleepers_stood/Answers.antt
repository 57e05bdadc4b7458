use Rattle.run_base.proofs.Standing.{each_sleep}
use Rattle.run_base.proofs.laws.sleepers_stood.Goals as goal

pub returns : goal.returns
returns c = each_sleep
