use Rattle.std.proofs.Common.{sym}
use Rattle.core_queues.proofs.Places.{first_moved}
use Rattle.core_queues.proofs.buckets.BucketQueues.move_first.Goals as goal

pub returns-clause-lines : goal.returns-clause-lines
returns-clause-lines c = first_moved c.args.from c.args.to c.in-Some.thread _ _ _
    (sym c.in-Some.ensures.first) c.in-Some.ensures.lines c.come.ensures.lines
