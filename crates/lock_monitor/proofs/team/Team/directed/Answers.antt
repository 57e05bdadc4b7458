use Rattle.std.proofs.Common.{◌∙◌, sym}
use Rattle.std.specs.Arc.{arc_value}
use Rattle.lock_monitor.proofs.Members.{one_less, others}
use Rattle.lock_monitor.proofs.team.Team.directed.Goals as goal

pub invariant_of-result : goal.invariant_of-result
invariant_of-result c = (
  others (arc_value c.in_ok-lot.lot) c.in_ok-lot.tickets.items c.pop.new.self.items _ c.in-Some.ensures.rest
      c.in_ok-lot.ensures.tickets.1,
  (
    one_less c.in_ok-lot.tickets.items c.pop.new.self.items c.in-Some.ticket _ c.in-Some.ensures.items
        c.in_ok-lot.ensures.tickets.0 ∙ sym c.in_ok-lot.ensures.lot.1,
    tt,
  ),
)
