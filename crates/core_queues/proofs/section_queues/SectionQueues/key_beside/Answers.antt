use Rattle.std.proofs.Common.{◌∙◌}
use Rattle.core_queues.proofs.Halves.{key_first, key_other}
use Rattle.core_queues.proofs.section_queues.SectionQueues.key_beside.Goals as goal

pub returns-in-Some : goal.returns-in-Some
returns-in-Some c = key_first c.args.thread c.in-Some.key c.args.self.now.queues.waiters
    c.args.other.now.queues.waiters c.in-Some.ensures

pub returns-in-None : goal.returns-in-None
returns-in-None c = c.key_of-in-None.ensures ∙ key_other c.args.thread c.args.self.now.queues.waiters
    c.args.other.now.queues.waiters c.in-None.ensures
