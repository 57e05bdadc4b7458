use Rattle.std.proofs.Common.{◌≡◌, ◌∙◌, ◌≤◌, ap, sym, length, arith}
use Rattle.core_base.specs.Lines.{line}
use Rattle.core_queues.specs.Chains.{Chained, joined}
use Rattle.core_queues.proofs.Joined.{few}
use Rattle.core_queues.proofs.Linked.{hashed}
use Rattle.core_queues.proofs.Requeued.{one_less, still_all, all_done, none_left}
use Rattle.core_queues.proofs.buckets.BucketQueues.move_all.Goals as goal

pub overflow_add-number : goal.overflow_add-number
overflow_add-number c =
    let room : length (line c.args.from (joined c.args.self.now.chains)) ≤ c.args.self.now.capacity =
    rw (← c.self.view_is) (few _ c.args.from (hashed _ _ _ _ c.self.invariant.1)) in
    let size : c.args.self.now.capacity ≡ length c.self.inside.records.items =
    sym (ap (λ (q : Chained). q.capacity) c.self.view_is) in
    let number = c.loop-number.invariant.number in
    let fewer = one_less c.args.from c.args.to _ _ c.requires c.move_first.ensures.lines
    c.loop-number-test.ensures.moved in
    let ok = c.self.inside.records.ok in
    let small = c.self.inside.records.small in
    omega arith

pub loop-number-smaller : goal.loop-number-smaller
loop-number-smaller c =
    let fewer = one_less c.args.from c.args.to (joined c.loop-number.self.chains)
    (joined c.move_first.new.self.chains) c.requires c.move_first.ensures.lines
    c.loop-number-test.ensures.moved in
    omega (arith, fewer)

pub loop-number-preserved : goal.loop-number-preserved
loop-number-preserved c =
    let fewer = one_less c.args.from c.args.to (joined c.loop-number.self.chains)
    (joined c.move_first.new.self.chains) c.requires c.move_first.ensures.lines
    c.loop-number-test.ensures.moved in
    let number = c.loop-number.invariant.number in
    record {
      number = omega (arith, fewer, number);
      lines = still_all c.args.from c.args.to _ _ c.requires c.move_first.ensures.lines
          ∙ c.loop-number.invariant.lines;
      capacity = c.move_first.ensures.same.0 ∙ c.loop-number.invariant.capacity;
      bits = c.move_first.ensures.same.1 ∙ c.loop-number.invariant.bits;
    }

pub returns-clause-number : goal.returns-clause-number
returns-clause-number c =
    let room : length (line c.args.from (joined c.args.self.now.chains)) ≤ c.args.self.now.capacity =
    rw (← c.self.view_is) (few _ c.args.from (hashed _ _ _ _ c.self.invariant.1)) in
    let none = none_left (line c.args.from (joined c.loop-number.self.chains))
    c.loop-number-test.ensures.moved in
    let number = c.loop-number.invariant.number in
    (omega (arith, none, number), omega (arith, none, number, room))

pub returns-clause-lines : goal.returns-clause-lines
returns-clause-lines c = all_done c.args.from c.args.to _ _ c.move_first.ensures.lines
    c.loop-number-test.ensures.moved ∙ c.loop-number.invariant.lines
