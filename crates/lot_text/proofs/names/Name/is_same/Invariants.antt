use Rattle.std.proofs.Common.{◌≡◌, true}
use Rattle.lot_text.proofs.NameLemmas.{EachSame}
use Rattle.lot_text.proofs.names.Name.is_same.Given as goal

abbrev pub invariant-loop-at : goal.invariant-loop-at
invariant-loop-at l = (l.same ≡ true → EachSame l.self-inside.bytes l.other-inside.bytes l.at)
    × (EachSame l.self-inside.bytes l.other-inside.bytes l.at → l.same ≡ true)
