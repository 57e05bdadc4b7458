use Rattle.std.specs.Prelude.{◌≡◌, All}
use Rattle.core_base.specs.declared.keys.Keys.TheVariants.{One}
use Rattle.parking_lot_core.specs.Sections.{IsUntouched}
use Rattle.test_meets.specs.Standing.{IsInLot}
use Rattle.test_meets.proofs.tests.many.take_all.Given as goal

abbrev pub invariant-loop-thread : goal.invariant-loop-thread
invariant-loop-thread g l = (l.section.lot.now ≡ l.lot) × (l.section.keys ≡ One 0) × IsUntouched l.section
    × (l.section.thread ≡ l.token.number) × All (IsInLot l.lot) l.places.items
