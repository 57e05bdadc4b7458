use Rattle.std.proofs.Common.{sym, refl}
use Rattle.parking_lot_core.proofs.tokens.Ticket.run.Goals as goal

pub returns : goal.returns
returns g c = (
  _,
  _,
  c.enter-token.ensures,
  (sym c.leave.ensures.0, sym c.leave.ensures.1, sym c.leave.ensures.2),
  record { shown = _; shows = refl; left = _; met = c.f-answer.ensures; leaves = refl },
)
