use Rattle.spec_locks.proofs.SiteKeeps.{deed_keeps}
use Rattle.spec_locks.proofs.each_deed_keeps.Goals as goal

pub returns : goal.returns
returns c = deed_keeps
