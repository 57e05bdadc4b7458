use Rattle.core_queues.proofs.Became.{under_first, under_none, under_taken}
use Rattle.core_queues.proofs.buckets.BucketQueues.take_under.Goals as goal

pub returns-in_default-clause-first : goal.returns-in_default-clause-first
returns-in_default-clause-first c = (under_none c.args.self.now c.args.key c.bucket-bucket.result
    c.bucket-bucket.ensures.hashed c.bucket-bucket.ensures.bucket c.in_default.ensures.found).0

pub returns-in_default-clause-lines : goal.returns-in_default-clause-lines
returns-in_default-clause-lines c = (under_none c.args.self.now c.args.key c.bucket-bucket.result
    c.bucket-bucket.ensures.hashed c.bucket-bucket.ensures.bucket c.in_default.ensures.found).1

pub returns-clause-first : goal.returns-clause-first
returns-clause-first c = under_first c.args.self.now c.args.key c.bucket-bucket.result c.in-Some.waiter _
    c.bucket-bucket.ensures.hashed c.bucket-bucket.ensures.bucket c.in-Some.ensures.found

pub returns-clause-lines : goal.returns-clause-lines
returns-clause-lines c = under_taken c.args.self.now c.leave.new.self c.args.key c.bucket-bucket.result
    c.in-Some.waiter _ c.bucket-bucket.ensures.hashed c.leave.ensures.hashed c.leave.ensures.same
    c.bucket-bucket.ensures.within c.bucket-bucket.ensures.bucket c.in-Some.ensures.found
    c.leave.ensures.chains
