-- The facts that the record of a section that was left tells.
use Rattle.std.proofs.Common.{◌≡◌, ◌+◌, length, Option, Some, subst}
use Rattle.parking_lot_core.specs.Keys.{first_key}
use Rattle.parking_lot_core.specs.declared.tokens.SectionRecord.{SectionRecord}
use Rattle.run_base.specs.Stages.{HasDone, SectionView, IsLeft}

-- tells what was done there
pub has_done : (was : Option SectionView) (inside : SectionView) (last : Option SectionRecord)
    → was ≡ Some inside → IsLeft was last → HasDone (first_key inside.keys) inside.did last
has_done was inside last e left = (
  length inside.taken + inside.moved,
  subst (λ (i : Option SectionView). IsLeft i last) e left,
)
