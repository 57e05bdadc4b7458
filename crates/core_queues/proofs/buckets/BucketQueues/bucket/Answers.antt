use Rattle.core_queues.proofs.Linked.{hashed}
use Rattle.core_queues.proofs.buckets.BucketQueues.bucket.Goals as goal

pub returns-clause-within : goal.returns-clause-within
returns-clause-within c = rw (← c.self.view_is, (hashed _ _ _ _ c.self.invariant.1).as_many)
    c.bucket_among.ensures.within

pub returns-clause-hashed : goal.returns-clause-hashed
returns-clause-hashed c = rw (← c.self.view_is) (hashed _ _ _ _ c.self.invariant.1)
