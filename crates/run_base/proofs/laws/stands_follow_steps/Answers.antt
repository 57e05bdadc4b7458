use Rattle.run_base.proofs.StandsAfter.{each_stand}
use Rattle.run_base.proofs.laws.stands_follow_steps.Goals as goal

pub returns : goal.returns
returns c = each_stand
