use Rattle.spec_locks.proofs.QueueOrder.{queues_keep_order}
use Rattle.spec_locks.proofs.queues_keep_order.Goals as goal

pub returns : goal.returns
returns c w v s o all step = queues_keep_order w v s o step
