use Rattle.std.proofs.Common.{◌≡◌, length}
use Rattle.parking_lot_core.proofs.lot.no_links.Given as goal

abbrev pub invariant-loop : goal.invariant-loop
invariant-loop l = length l.links.items ≡ l.counter
