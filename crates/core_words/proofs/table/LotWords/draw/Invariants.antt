use Rattle.std.proofs.Common.{◌-◌, ◌≡◌}
use Rattle.core_words.specs.Lots.{IsSeatOf}
use Rattle.core_words.specs.Draws.{LastSaw}
use Rattle.core_words.proofs.Looks.{Looking}
use Rattle.core_words.proofs.table.LotWords.draw.Given as goal

abbrev pub invariant-loop-seen : goal.invariant-loop-seen
invariant-loop-seen g l = let old = l.fn.seat.me.0 in let new = l.seat.me.0 in record {
  own : IsSeatOf l.self l.seat × (new.owns ≡ old.owns);
  drawn : new.drawn ≡ old.drawn;
  saw : new.saw ≡ l.seen;
  last : LastSaw l.seen new.steps;
  looked : Looking old.steps new.steps l.seen l.self.count;
}

abbrev pub decreases-loop-seen : goal.decreases-loop-seen
decreases-loop-seen g l = l.self.count - l.seen
