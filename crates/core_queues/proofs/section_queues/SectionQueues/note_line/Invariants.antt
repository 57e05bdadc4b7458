use Rattle.std.proofs.Common.{length, drop}
use Rattle.core_base.specs.Lines.{line}
use Rattle.core_queues.proofs.section_queues.SectionQueues.note_line.Given as goal

abbrev pub decreases-loop-waiter : goal.decreases-loop-waiter
decreases-loop-waiter l = length (line l.key (drop l.place l.self.queues.waiters))
