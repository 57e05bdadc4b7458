use Rattle.std.proofs.Common.{length, ap, sym, arith}
use Rattle.core_base.proofs.Moves.{length-without_first}
use Rattle.core_base.proofs.list.move_first.Goals as goal

pub push_reserved-requires : goal.push_reserved-requires
push_reserved-requires c = omega (
  arith,
  ap length c.take_under.ensures.waiting,
  length-without_first c.args.from c.in-Some.thread c.args.waiters.now.items (sym c.in-Some.ensures.first),
  c.args.waiters.now.ok,
  c.take_under.new.waiters.ok,
)
