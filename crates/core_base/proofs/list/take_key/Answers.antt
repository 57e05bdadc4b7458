use Rattle.std.proofs.Common.{length, length-append, length-take-le, take, ap, arith}
use Rattle.core_base.specs.Lines.{line, threads_of}
use Rattle.core_base.proofs.Seats.{length-threads_of_line}
use Rattle.core_base.proofs.list.take_key.Goals as goal

pub push_reserved-requires : goal.push_reserved-requires
push_reserved-requires c =
    let seen = take c.loop-waiter.waiter-index c.deref-waiter-items.result.now in
    omega (
      arith,
      ap length c.loop-waiter.invariant.pushed,
      length-append c.args.out.now.items
          (threads_of (line c.args.key seen)),
      length-threads_of_line c.args.key seen,
      length-take-le c.loop-waiter.waiter-index c.deref-waiter-items.result.now (omega arith),
      c.loop-waiter.out.ok,
      c.args.out.now.ok,
      c.args.waiters.now.ok,
      c.requires,
    )
