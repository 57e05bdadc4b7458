use Rattle.parking_lot_core.specs.Sections.{StaysIn}
use Rattle.parking_lot_core.specs.Tokens.{IsSameThread}
use Rattle.test_meets.proofs.tests.several.give_each.Given as goal

abbrev pub invariant-loop : goal.invariant-loop
invariant-loop g l = (goal.iterator-loop g).can_next l.iterator' × (goal.iterator-loop g).is_finite
    l.iterator' × IsSameThread l.lot l.fn.token l.token × StaysIn l.fn.section l.section
