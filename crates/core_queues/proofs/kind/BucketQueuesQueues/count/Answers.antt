use Rattle.std.proofs.Common.{◌≡◌, ◌∙◌, ap, arith, length, sym}
use Rattle.core_base.specs.Lines.{line}
use Rattle.core_queues.specs.Chains.{chain, joined, Chained}
use Rattle.core_queues.proofs.Joined.{few, line_at}
use Rattle.core_queues.proofs.kind.BucketQueuesQueues.count.Goals as goal

pub overflow_add-number : goal.overflow_add-number
overflow_add-number c =
    let some = ap length c.in-Some.ensures.found in
    let at : length (line c.args.key (joined c.args.self.now.chains)) ≡ length
    (line c.args.key (chain c.args.self.now c.bucket-bucket.result)) =
    ap length (line_at c.args.self.now c.args.key c.bucket-bucket.ensures.hashed)
    ∙ ap (λ b. length (line c.args.key (chain c.args.self.now b))) (sym c.bucket-bucket.ensures.bucket) in
    let room = few c.args.self.now c.args.key c.bucket-bucket.ensures.hashed in
    let size : c.args.self.now.capacity ≡ length c.self.inside.records.items =
    sym (ap (λ (q : Chained). q.capacity) c.self.view_is) in
    let number = c.loop-waiter.invariant.number in
    let ok = c.self.inside.records.ok in
    let small = c.self.inside.records.small in
    omega arith

pub returns : goal.returns
returns c =
    let none = ap length c.in_default.ensures.found in
    let at : length (line c.args.key (joined c.args.self.now.chains)) ≡ length
    (line c.args.key (chain c.args.self.now c.bucket-bucket.result)) =
    ap length (line_at c.args.self.now c.args.key c.bucket-bucket.ensures.hashed)
    ∙ ap (λ b. length (line c.args.key (chain c.args.self.now b))) (sym c.bucket-bucket.ensures.bucket) in
    let number = c.loop-waiter.invariant.number in
    omega arith
