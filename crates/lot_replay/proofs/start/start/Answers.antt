use Rattle.std.proofs.Common.{refl, inl}
use Rattle.lot_replay.specs.Start.{usage_line}
use Rattle.lot_replay.proofs.ReplayLemmas.{all_sent}
use Rattle.lot_replay.proofs.start.start.Goals as goal

pub returns-then-send_all-clause-usage : goal.returns-then-send_all-clause-usage
returns-then-send_all-clause-usage g c = λ _. inl (
  refl,
  all_sent _ _ usage_line (c.send_all.ensures.sent c.if-send_all.true),
)
