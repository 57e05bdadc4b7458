use base.Shift.{Keyless}
use denote.Param.Send.{IsSend}
use types.Keyed.{entry_keyless, token}
use Rattle.std.proofs.Common.{List, [], ◌∷◌}
use Rattle.core_parts.specs.PermitIds.{PermitId, slot_owns}
use Rattle.core_parts.specs.contracts.slot.PermitSlot.{the_row}

slot_keyless : (zs : List PermitId) → Keyless (slot_owns zs)
slot_keyless [] = tt
slot_keyless (z ∷ zs) = entry_keyless token z.family z.number tt

pub send : IsSend the_row
send = record { owned = λ d vs. ((λ vss. (tt, tt)), slot_keyless d.holds); leaving = λ k f vs. tt }
