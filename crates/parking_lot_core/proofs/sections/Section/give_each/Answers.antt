use Rattle.std.proofs.Common.{◌≡◌, ◌≤◌, ◌<◌, ◌∙◌, List, ℕ, [], length, rules, arith, sym, ap, refl, subst}
use Rattle.parking_lot_core.specs.Sections.{taken_in, wants_in, rightless_in}
use Rattle.parking_lot_core.specs.Tokens.{view_of}
use Rattle.parking_lot_core.proofs.Giving.{less, none_left, less_given, has_next, has_rest, same_rest}
use Rattle.parking_lot_core.proofs.Giving.{all_split}
use Rattle.parking_lot_core.proofs.sections.Section.give_each.Goals as goal

pub loop-place-init : goal.loop-place-init
loop-place-init g c = record {
  own = search rules;
  same = search rules;
  told = (refl, refl);
  named = c.requires.named;
  rest = refl;
  given = subst (λ (l : List ℕ). less (taken_in c.args.self.now) l ≡ []) (sym c.requires.ungiven)
      (none_left (taken_in c.args.self.now));
}

pub give_wanted-requires-clause-named : goal.give_wanted-requires-clause-named
give_wanted-requires-clause-named g c = let self = c.args.self.now in let i = c.loop-place.invariant in
    let taken : c.taken-place-end.result.now ≡ taken_in c.args.self.now = search rules in
    let lt : c.loop-place.place < length (wants_in c.args.self.now) = omega (
      arith,
      c.loop-place-test.true,
      ap length taken,
      c.args.self.now.each_wants,
    ) in
    has_next c.args.word c.args.left (wants_in self) (wants_in c.loop-place.self) i.same.1.2
    c.loop-place.place lt (view_of c.loop-place.token) i.named

pub loop-place-preserved : goal.loop-place-preserved
loop-place-preserved g c = let self = c.args.self.now in let i = c.loop-place.invariant in let k =
    c.loop-place.place in
    let taken : c.taken-place-end.result.now ≡ taken_in c.args.self.now = search rules in
    let lt : c.loop-place.place < length (wants_in c.args.self.now) = omega (
      arith,
      c.loop-place-test.true,
      ap length taken,
      c.args.self.now.each_wants,
    ) in
    let old = view_of c.loop-place.token in let new = view_of c.give_wanted.new.token in record {
      own = search rules;
      same = search rules;
      told = (c.give_wanted.ensures.untold ∙ i.told.0, c.give_wanted.ensures.token ∙ i.told.1);
      named = has_rest c.args.word c.args.left (wants_in self) (wants_in c.loop-place.self) i.same.1.2 k lt
          old new c.give_wanted.ensures.left i.named;
      rest = same_rest c.args.word c.args.left (wants_in self) (wants_in c.loop-place.self) i.same.1.2 k lt
          old new c.give_wanted.ensures.left ∙ i.rest;
      given = less_given (taken_in self) (taken_in c.loop-place.self) i.same.1.1 k
          (omega (arith, c.loop-place-test.true, ap length taken)) (rightless_in c.loop-place.self)
          (rightless_in c.give_wanted.new.self) c.give_wanted.ensures.rightless i.given;
    }

pub returns-clause-left : goal.returns-clause-left
unfolding view_of
returns-clause-left g c = let taken : c.taken-place-end.result.now ≡ taken_in c.args.self.now = search rules
    in
    let all : length (wants_in c.args.self.now) ≤ c.loop-place.place = omega (
      arith,
      c.loop-place-test.false,
      ap length taken,
      c.args.self.now.each_wants,
    ) in
    all_split c.args.word c.args.left (wants_in c.args.self.now) c.loop-place.place
    (view_of c.loop-place.token) (view_of c.args.token.now) all c.loop-place.invariant.rest
