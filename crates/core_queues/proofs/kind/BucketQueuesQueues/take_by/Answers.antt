use Rattle.std.proofs.Common.{◌∙◌, sym, refl, arith}
use Rattle.core_queues.specs.Chains.{chain}
use Rattle.core_queues.proofs.Sifted.{passed_waiting, skipped_waiting, taken_waiting, stopped_waiting}
use Rattle.core_queues.proofs.Sifted.{ended_waiting, passed_taken, skipped_taken, taken_taken, stopped_taken}
use Rattle.core_queues.proofs.Sifted.{ended_taken, sifted_lines, sifted_taken, set_again, set_first}
use Rattle.core_queues.proofs.Sifted.{one_shorter, chain_fits, falls, still_stands, as_long}
use Rattle.core_queues.proofs.kind.BucketQueuesQueues.take_by.Goals as goal

pub loop-waiter-init : goal.loop-waiter-init
loop-waiter-init g c =
    let fits = chain_fits c.args.self.now c.bucket-bucket.result c.bucket-bucket.ensures.hashed in
    let room = c.requires in
    record {
      chains = set_first c.args.self.now.chains c.bucket-bucket.result;
      waiting = refl;
      taken = refl;
      left = omega arith;
      room = refl;
      capacity = refl;
      bits = refl;
      stands = tt;
      hashed = c.bucket-bucket.ensures.hashed;
    }

pub loop-waiter-preserved-then-waiter-key : goal.loop-waiter-preserved-then-waiter-key
loop-waiter-preserved-then-waiter-key g c = let by = g.P.Picker in
    let i = c.loop-waiter.invariant in
    let once = (i.hashed.seated c.bucket-bucket.result).once in
    record {
      chains = i.chains;
      waiting = passed_waiting by.answer by.next c.loop-waiter.picker c.args.key c.loop-waiter.before _
          c.in-Some.waiter once c.in-Some.ensures.found c.if-waiter-key.true ∙ i.waiting;
      taken = passed_taken by.answer by.next c.loop-waiter.picker c.args.key c.loop-waiter.before _
          c.in-Some.waiter _ c.in-Some.ensures.found c.if-waiter-key.true ∙ i.taken;
      left = i.left;
      room = i.room;
      capacity = i.capacity;
      bits = i.bits;
      stands = c.in-Some.ensures.stands;
      hashed = i.hashed;
    }

pub loop-waiter-smaller-in-Unpark : goal.loop-waiter-smaller-in-Unpark
loop-waiter-smaller-in-Unpark g c =
    let i = c.loop-waiter.invariant in
    let once = (i.hashed.seated c.bucket-bucket.result).once in
    let fits = as_long c.args.self.now.chains c.loop-waiter.self.chains c.bucket-bucket.result _ i.chains
    c.bucket-bucket.ensures.within in
    let again = set_again c.args.self.now.chains c.loop-waiter.self.chains c.leave.new.self.chains
    c.bucket-bucket.result _ i.chains c.leave.ensures.chains fits in
    falls c.loop-waiter.before (chain c.loop-waiter.self c.bucket-bucket.result)
    (chain c.leave.new.self c.bucket-bucket.result) c.in-Some.waiter once c.in-Some.ensures.found again.1

pub loop-waiter-preserved-in-Unpark : goal.loop-waiter-preserved-in-Unpark
loop-waiter-preserved-in-Unpark g c = let by = g.P.Picker in
    let i = c.loop-waiter.invariant in
    let once = (i.hashed.seated c.bucket-bucket.result).once in
    let fits = as_long c.args.self.now.chains c.loop-waiter.self.chains c.bucket-bucket.result _ i.chains
    c.bucket-bucket.ensures.within in
    let again = set_again c.args.self.now.chains c.loop-waiter.self.chains c.leave.new.self.chains
    c.bucket-bucket.result _ i.chains c.leave.ensures.chains fits in
    let shorter = one_shorter c.in-Some.waiter.thread (chain c.loop-waiter.self c.bucket-bucket.result)
    c.in-Some.ensures.stands in
    let left = i.left in
    let pushed = c.push_reserved.ensures.len in
    let room = c.push_reserved.ensures.capacity in
    record {
      chains = again.0;
      waiting = rw again.1 (taken_waiting by.answer by.next c.loop-waiter.picker c.pick.new.self c.args.key
          c.loop-waiter.before (chain c.loop-waiter.self c.bucket-bucket.result) c.in-Some.waiter once
          c.in-Some.ensures.found c.if-waiter-key.false (sym c.in-Unpark.ensures.answer)
          c.in-Unpark.ensures.next ∙ i.waiting);
      taken = rw again.1 (taken_taken by.answer by.next c.loop-waiter.picker c.pick.new.self c.args.key
          c.loop-waiter.before (chain c.loop-waiter.self c.bucket-bucket.result) c.in-Some.waiter
          c.loop-waiter.out.items c.push_reserved.new.self.items once c.in-Some.ensures.found
          c.if-waiter-key.false (sym c.in-Unpark.ensures.answer) c.in-Unpark.ensures.next
          c.push_reserved.ensures.items ∙ i.taken);
      left = rw again.1 (omega arith);
      room = room ∙ i.room;
      capacity = c.leave.ensures.same.0 ∙ i.capacity;
      bits = c.leave.ensures.same.1 ∙ i.bits;
      stands = rw again.1 (still_stands c.loop-waiter.before (chain c.loop-waiter.self c.bucket-bucket.result)
          c.in-Some.waiter c.in-Some.ensures.found i.stands);
      hashed = c.leave.ensures.hashed;
    }

pub loop-waiter-preserved : goal.loop-waiter-preserved
loop-waiter-preserved g c = let by = g.P.Picker in
    let i = c.loop-waiter.invariant in
    let once = (i.hashed.seated c.bucket-bucket.result).once in
    record {
      chains = i.chains;
      waiting = skipped_waiting by.answer by.next c.loop-waiter.picker c.pick.new.self c.args.key
          c.loop-waiter.before _ c.in-Some.waiter once c.in-Some.ensures.found c.if-waiter-key.false
          (sym c.in-Skip.ensures.answer) c.in-Skip.ensures.next ∙ i.waiting;
      taken = skipped_taken by.answer by.next c.loop-waiter.picker c.pick.new.self c.args.key
          c.loop-waiter.before _ c.in-Some.waiter _ c.in-Some.ensures.found c.if-waiter-key.false
          (sym c.in-Skip.ensures.answer) c.in-Skip.ensures.next ∙ i.taken;
      left = i.left;
      room = i.room;
      capacity = i.capacity;
      bits = i.bits;
      stands = c.in-Some.ensures.stands;
      hashed = i.hashed;
    }

pub returns-in-Stop-clause-taken : goal.returns-in-Stop-clause-taken
returns-in-Stop-clause-taken g c = let by = g.P.Picker in
    let i = c.loop-waiter.invariant in
    sym (stopped_taken by.answer by.next c.loop-waiter.picker c.args.key c.loop-waiter.before _
    c.in-Some.waiter _ c.in-Some.ensures.found c.if-waiter-key.false (sym c.in-Stop.ensures.answer))
    ∙ i.taken ∙ sifted_taken by.answer by.next c.args.picker c.args.self.now c.args.key c.bucket-bucket.result
    _ c.bucket-bucket.ensures.hashed c.bucket-bucket.ensures.bucket

pub returns-in-Stop-clause-lines : goal.returns-in-Stop-clause-lines
returns-in-Stop-clause-lines g c = let by = g.P.Picker in
    let i = c.loop-waiter.invariant in
    sifted_lines by.answer by.next c.args.picker c.args.self.now c.loop-waiter.self c.args.key
    c.bucket-bucket.result c.bucket-bucket.ensures.hashed i.hashed i.bits c.bucket-bucket.ensures.bucket
    c.bucket-bucket.ensures.within i.chains
    (sym (stopped_waiting by.answer by.next c.loop-waiter.picker c.args.key c.loop-waiter.before _
    c.in-Some.waiter c.in-Some.ensures.found c.if-waiter-key.false (sym c.in-Stop.ensures.answer))
    ∙ i.waiting)

pub returns-clause-taken : goal.returns-clause-taken
returns-clause-taken g c = let by = g.P.Picker in
    let i = c.loop-waiter.invariant in
    sym (ended_taken by.answer by.next c.loop-waiter.picker c.args.key c.loop-waiter.before _ _
    c.in_default.ensures.found)
    ∙ i.taken ∙ sifted_taken by.answer by.next c.args.picker c.args.self.now c.args.key c.bucket-bucket.result
    _ c.bucket-bucket.ensures.hashed c.bucket-bucket.ensures.bucket

pub returns-clause-lines : goal.returns-clause-lines
returns-clause-lines g c = let by = g.P.Picker in
    let i = c.loop-waiter.invariant in
    sifted_lines by.answer by.next c.args.picker c.args.self.now c.loop-waiter.self c.args.key
    c.bucket-bucket.result c.bucket-bucket.ensures.hashed i.hashed i.bits c.bucket-bucket.ensures.bucket
    c.bucket-bucket.ensures.within i.chains
    (sym (ended_waiting by.answer by.next c.loop-waiter.picker c.args.key c.loop-waiter.before _
    c.in_default.ensures.found) ∙ i.waiting)
