use Rattle.std.proofs.Common.{◌≡◌, take}
use Rattle.lot_text.proofs.words.begins_with.Given as goal

abbrev pub invariant-loop-at : goal.invariant-loop-at
invariant-loop-at l = take l.at l.text ≡ take l.at l.front
