use Rattle.std.proofs.Common.{ap, sym}
use Rattle.core_base.specs.Lines.{lines}
use Rattle.core_queues.proofs.Places.{without_nobody}
use Rattle.core_queues.proofs.buckets.BucketQueues.drop_thread.Goals as goal

pub returns-in_default-clause-lines : goal.returns-in_default-clause-lines
returns-in_default-clause-lines c =
    ap lines (sym (without_nobody c.args.thread _ (sym c.in_default.ensures.key)))
