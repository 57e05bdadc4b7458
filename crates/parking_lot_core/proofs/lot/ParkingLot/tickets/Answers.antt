use Rattle.std.proofs.Common.{◌≡◌, ◌∙◌, ℕ, map, rules, arith, subst}
use Rattle.std.specs.List.{range_with_len}
use Rattle.parking_lot_core.specs.Tokens.{IsNewTicket, number_of}
use Rattle.parking_lot_core.proofs.Lists.{all_more, numbers_more}
use Rattle.parking_lot_core.proofs.lot.ParkingLot.tickets.Goals as goal

pub loop-number-preserved : goal.loop-number-preserved
loop-number-preserved c = record {
  first = search rules;
  numbers = numbers_more number_of c.loop-number.tickets.items c.push-in-loop-number.new.self.items
      c.new-in-loop-number.result c.loop-number.number c.in_ok-push-2.ensures.items
      c.new-in-loop-number.ensures.2 c.loop-number.invariant.numbers;
  woken = search rules;
  new = all_more (IsNewTicket c.args.words.now c.args.seats) c.loop-number.tickets.items
      c.push-in-loop-number.new.self.items c.new-in-loop-number.result c.in_ok-push-2.ensures.items
      c.loop-number.invariant.new (search rules);
}

pub returns-clause-tickets : goal.returns-clause-tickets
returns-clause-tickets c = let done : c.loop-number.number ≡ c.args.seats =
    omega (arith, c.loop-number-test.false, c.loop-number.auto.number-end) in (
      subst (λ (n : ℕ). map number_of c.loop-number.tickets.items ≡ range_with_len 0 n) done
          c.loop-number.invariant.numbers,
      c.loop-number.invariant.new,
    )

pub returns-clause-unparkers : goal.returns-clause-unparkers
returns-clause-unparkers c = c.loop-number.invariant.woken ∙ omega (
  arith,
  c.loop-number-test.false,
  c.loop-number.auto.number-end,
)
