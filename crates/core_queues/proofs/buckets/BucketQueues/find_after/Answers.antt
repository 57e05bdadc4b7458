use Rattle.std.proofs.Common.{◌∙◌}
use Rattle.core_queues.proofs.Places.{rest_after_one}
use Rattle.core_queues.proofs.buckets.BucketQueues.find_after.Goals as goal

pub returns : goal.returns
returns c = record {
  found = c.in-Some.ensures.found ∙ rest_after_one c.args.self.now c.args.key
      c.args.bucket c.in-Some.waiter c.requires.bucket;
}
