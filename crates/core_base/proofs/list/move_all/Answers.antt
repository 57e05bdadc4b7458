use Rattle.std.proofs.Common.{sym, ◌∙◌, arith}
use Rattle.core_base.proofs.Moves.{length-line, one_then_all, one_fewer, none_moves}
use Rattle.core_base.proofs.list.move_all.Goals as goal

pub overflow_add-number : goal.overflow_add-number
overflow_add-number c =
    let fewer = one_fewer c.args.from c.args.to c.loop-number.waiters.items c.requires in
    omega (
      arith,
      fewer,
      c.loop-number.invariant.counted,
      c.loop-number-test.ensures.moved,
      length-line c.args.from c.args.waiters.now.items,
      c.args.waiters.now.ok,
    )

pub loop-number-smaller : goal.loop-number-smaller
loop-number-smaller c =
    let fewer = one_fewer c.args.from c.args.to c.loop-number.waiters.items c.requires in
    rw c.move_first.ensures.waiting (omega (arith, fewer, c.loop-number-test.ensures.moved))

pub loop-number-preserved : goal.loop-number-preserved
loop-number-preserved c =
    let fewer = one_fewer c.args.from c.args.to c.loop-number.waiters.items c.requires in
    record {
      counted = rw c.move_first.ensures.waiting (omega (
        arith,
        fewer,
        c.loop-number.invariant.counted,
        c.loop-number-test.ensures.moved,
      ));
      waiting = rw c.move_first.ensures.waiting (one_then_all c.args.from c.args.to
          c.loop-number.waiters.items c.requires ∙ c.loop-number.invariant.waiting);
      capacity = cc;
    }

pub returns-clause-waiting : goal.returns-clause-waiting
returns-clause-waiting c = c.move_first.ensures.waiting ∙ none_moves c.args.from c.args.to
    c.loop-number.waiters.items (sym c.loop-number-test.ensures.moved) ∙ c.loop-number.invariant.waiting
