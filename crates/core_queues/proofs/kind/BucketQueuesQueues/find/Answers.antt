use Rattle.core_queues.proofs.Joined.{few}
use Rattle.core_queues.proofs.Places.{at_first, after_nobody, in_another}
use Rattle.std.proofs.Common.{sym, refl}
use Rattle.core_queues.proofs.kind.BucketQueuesQueues.find.Goals as goal

pub returns-then-place-eq0-clause-few : goal.returns-then-place-eq0-clause-few
returns-then-place-eq0-clause-few c = few c.args.self.now c.args.key c.bucket-bucket.ensures.hashed

pub returns-then-place-eq0-clause-found : goal.returns-then-place-eq0-clause-found
returns-then-place-eq0-clause-found c = at_first c.args.self.now c.args.key c.bucket-bucket.result
    c.args.place c.find_after.result c.bucket-bucket.ensures.hashed c.if-place-eq0.true
    c.bucket-bucket.ensures.bucket c.find_after.ensures.found

pub returns-in_default-clause-few : goal.returns-in_default-clause-few
returns-in_default-clause-few c = few c.args.self.now c.args.key c.bucket-bucket.ensures.hashed

pub returns-in_default-clause-found : goal.returns-in_default-clause-found
returns-in_default-clause-found c = after_nobody c.args.self.now c.args.key c.args.place _
    c.if-place-eq0.false refl (sym c.in_default.ensures.key)

pub returns-then-bucket-clause-few : goal.returns-then-bucket-clause-few
returns-then-bucket-clause-few c = few c.args.self.now c.args.key c.bucket-bucket.ensures.hashed

pub returns-then-bucket-clause-found : goal.returns-then-bucket-clause-found
returns-then-bucket-clause-found c = in_another c.args.self.now c.args.key c.args.place _ c.in-Some.other
    c.bucket-bucket.result c.bucket.result c.bucket-bucket.ensures.hashed c.if-place-eq0.false refl
    c.in-Some.ensures.stands c.bucket-bucket.ensures.bucket c.bucket.ensures.bucket c.if-bucket.true

pub returns-clause-few : goal.returns-clause-few
returns-clause-few c = few c.args.self.now c.args.key c.bucket-bucket.ensures.hashed
