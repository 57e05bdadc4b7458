use Rattle.std.proofs.Common.{sym}
use Rattle.core_queues.proofs.Hashes.{first_bucket, bucket_is, bucket_below}
use Rattle.core_queues.proofs.formula.bucket_among.Goals as goal

pub returns-then-bits-eq0-clause-bucket : goal.returns-then-bits-eq0-clause-bucket
returns-then-bits-eq0-clause-bucket c = rw c.if-bits-eq0.true (sym (first_bucket c.args.key))

pub returns-clause-bucket : goal.returns-clause-bucket
returns-clause-bucket c = bucket_is c.args.bits c.args.key c.if-bits-eq0.false

pub returns-clause-within : goal.returns-clause-within
returns-clause-within c = rw (bucket_is c.args.bits c.args.key c.if-bits-eq0.false)
    (bucket_below c.args.bits c.args.key c.requires.few)
