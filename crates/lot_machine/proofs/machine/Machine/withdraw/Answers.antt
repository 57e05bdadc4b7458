use Rattle.std.proofs.Common.{length, refl}
use Rattle.lot_machine.proofs.QueueLemmas.{lines_removed}
use Rattle.lot_machine.proofs.machine.Machine.withdraw.Goals as goal

pub returns : goal.returns
returns g c =
    rw (
      lines_removed (length c.self.inside.sections.items) c.args.thread (g.Q.Queues.waiting
          c.self.inside.queues) (g.Q.Queues.waiting c.remove.new.self) c.remove.ensures.lines,
      ← c.self.view_is,
    )
    refl
