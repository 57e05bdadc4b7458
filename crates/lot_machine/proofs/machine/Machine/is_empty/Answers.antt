use Rattle.std.proofs.Common.{◌<◌, length, ap, refl}
use Rattle.lot_machine.specs.Machine.{State}
use Rattle.lot_machine.proofs.QueueLemmas.{line_here}
use Rattle.lot_machine.proofs.machine.Machine.is_empty.Goals as goal

pub returns : goal.returns
returns g c =
    let within : c.args.key < length c.self.inside.sections.items =
    rw (ap (λ (v : State). length v.sections) c.self.view_is) c.requires in
    rw (
      ← c.self.view_is,
      line_here (length c.self.inside.sections.items) c.args.key
          (g.Q.Queues.waiting c.self.inside.queues) within,
      c.count.ensures,
    ) refl
