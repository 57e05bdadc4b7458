use Rattle.std.proofs.Common.{arith}
use Rattle.lot_text.proofs.GrammarLemmas.{small}
use Rattle.lot_text.proofs.grammar.digits.Goals as goal

pub overflow_mul-n : goal.overflow_mul-n
overflow_mul-n c = omega (
  arith,
  small c.loop-b.n c.loop-b.b-index c.loop-b.invariant.0
      (omega (arith, c.requires)),
)

pub overflow_add-n : goal.overflow_add-n
overflow_add-n c = omega (
  arith,
  small c.loop-b.n c.loop-b.b-index c.loop-b.invariant.0
      (omega (arith, c.requires)),
)
