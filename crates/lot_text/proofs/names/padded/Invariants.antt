use Rattle.std.proofs.Common.{◌≡◌, ◌-◌, ◌++◌, true, take}
use Rattle.std.specs.Prelude.{replicate}
use Rattle.lot_text.specs.LockNames.{are_name_bytes}
use Rattle.lot_text.proofs.names.padded.Given as goal

abbrev pub invariant-loop-at : goal.invariant-loop-at
invariant-loop-at l = (are_name_bytes (take l.at l.word) ≡ true)
    × (l.bytes ≡ take l.at l.word ++ replicate (16 - l.at) 0)
