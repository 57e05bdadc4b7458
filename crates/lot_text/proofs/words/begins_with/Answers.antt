use Rattle.std.proofs.Common.{arith}
use Rattle.lot_text.proofs.WordLemmas.{begins_other, begins_all}
use Rattle.lot_text.proofs.words.begins_with.Goals as goal

pub returns-then-text-at : goal.returns-then-text-at
returns-then-text-at c = begins_other c.args.text.now c.args.front.now c.loop-at.at
    (omega (arith, c.loop-at-test.true)) c.if-text-at.true

pub returns : goal.returns
returns c = begins_all c.args.text.now c.args.front.now c.loop-at.at (omega (
  arith,
  c.loop-at-test.false,
  c.loop-at.auto.at-end,
)) c.loop-at.invariant
