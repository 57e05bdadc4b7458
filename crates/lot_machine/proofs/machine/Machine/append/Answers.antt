use Rattle.std.proofs.Common.{◌<◌, length, ap, refl}
use Rattle.lot_machine.specs.Machine.{State}
use Rattle.lot_machine.proofs.QueueLemmas.{lines_appended}
use Rattle.lot_machine.proofs.machine.Machine.append.Goals as goal

pub returns : goal.returns
returns g c =
    let within : c.args.key < length c.self.inside.sections.items =
    rw (ap (λ (v : State). length v.sections) c.self.view_is) c.requires.key in
    rw (
      lines_appended (length c.self.inside.sections.items) c.args.key c.args.thread c.args.want
          (g.Q.Queues.waiting c.self.inside.queues) (g.Q.Queues.waiting c.append.new.self) within
          c.append.ensures.lines,
      ← c.self.view_is,
    ) refl
