use Rattle.lock_monitor.proofs.Members.{enters}
use Rattle.lock_monitor.proofs.team.run_one.Goals as goal

pub returns : goal.returns
returns g c = record {
  entered = _;
  left = _;
  is_of = enters c.args.lot.now c.args.ticket c.enter-token.result c.enter-token.ensures c.requires.0;
  met = c.f-answer.ensures;
}
