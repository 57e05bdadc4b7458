use Rattle.std.proofs.Common.{◌∙◌}
use Rattle.core_queues.proofs.Places.{lines_both}
use Rattle.core_queues.proofs.kind.BucketQueuesQueues.append.Goals as goal

pub returns-clause-lines : goal.returns-clause-lines
returns-clause-lines c = c.come.ensures.lines ∙ lines_both _ _ _ c.drop_thread.ensures.lines
