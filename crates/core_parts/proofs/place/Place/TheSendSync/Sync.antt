use Rattle.std.proofs.Common.{ℕ, ◌+◌, Bool, true, false}
use base.Fraction.{full_share}
use base.Shift.{Keyless}
use denote.RattleType.{RattleType}
use denote.Param.Send.{IsSend, IsSync, part_keyless}
use Rattle.core.proofs.atomic.Sent.{chain-Keyless}
use types.Keyed.{entry_keyless, token}
use Rattle.core_parts.specs.PermitIds.{PermitId}
use Rattle.core_parts.specs.Ownership.{Id, offset, state}
use Rattle.core_parts.specs.contracts.place.Place.{the_row}

state_keyless : (R : RattleType) → IsSend R → (id : PermitId) (b o : ℕ) (t : Id) (y : Bool)
    → Keyless (state R id b o t y)
state_keyless R s id b o t true = ((λ x. part_keyless R s full_share x b (o + offset R)), (tt, tt))
state_keyless R s id b o t false = entry_keyless token id.family id.number tt

pub sync : (T : RattleType) → IsSend T → IsSync (the_row T)
sync T s = record { shared = λ d b o κ t. ((λ νs. chain-Keyless νs κ t.0), λ y. state_keyless T s d b o t y) }
