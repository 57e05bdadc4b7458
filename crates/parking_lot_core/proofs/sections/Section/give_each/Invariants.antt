use Rattle.std.proofs.Common.{◌≡◌, [], drop}
use Rattle.parking_lot_core.specs.Giving.{HasEach, less_each}
use Rattle.parking_lot_core.specs.Sections.{waiting_in, taken_in, wants_in, rightless_in, told_in, StaysIn}
use Rattle.parking_lot_core.specs.Sections.{TookAs}
use Rattle.parking_lot_core.specs.Tokens.{IsSameThread, last_of, told_of, view_of}
use Rattle.parking_lot_core.proofs.Giving.{less}
use Rattle.parking_lot_core.proofs.sections.Section.give_each.Given as goal

-- all without a right are among those that are yet to be given, and so are the rights that are yet to be
-- split off
abbrev pub invariant-loop-place : goal.invariant-loop-place
invariant-loop-place g l = record {
  own : IsSameThread l.fn.self.lot.now l.fn.token l.token × (last_of l.token ≡ last_of l.fn.token);
  same : StaysIn l.fn.self l.self × TookAs l.fn.self l.self × (waiting_in l.self ≡ waiting_in l.fn.self);
  told : (told_in l.self ≡ told_in l.fn.self) × (told_of l.token ≡ told_of l.fn.token);
  named : HasEach l.word l.left (drop l.place (wants_in l.fn.self)) (view_of l.token).owns;
  rest : less_each l.word l.left (drop l.place (wants_in l.fn.self)) (view_of l.token) ≡ less_each l.word
      l.left (wants_in l.fn.self) (view_of l.fn.token);
  given : less (drop l.place (taken_in l.fn.self)) (rightless_in l.self) ≡ [];
}
