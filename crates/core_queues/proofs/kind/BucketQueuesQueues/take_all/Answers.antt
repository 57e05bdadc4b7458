use Rattle.std.proofs.Common.{◌∙◌, ap, ◌++◌}
use Rattle.core_base.specs.Lines.{lines, threads_of}
use Rattle.core_queues.proofs.Places.{all_picked, all_leave}
use Rattle.core_queues.proofs.kind.BucketQueuesQueues.take_all.Goals as goal

pub returns-clause-taken : goal.returns-clause-taken
returns-clause-taken c = c.take_by.ensures.taken ∙ ap (λ l. c.args.out.now.items ++ threads_of l)
    (all_picked _ _ _)

pub returns-clause-lines : goal.returns-clause-lines
returns-clause-lines c = c.take_by.ensures.lines ∙ ap lines (all_leave _ _ c.args.key _)
