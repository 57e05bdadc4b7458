use Rattle.std.proofs.Common.{◌+◌}
use denote.RattleType.{RattleType}
use denote.Param.Send.{IsSend, IsSync}
use Rattle.core.proofs.atomic.Sent.{chain-Keyless}
use Rattle.lock_values.specs.Ownership.{offset}
use Rattle.lock_values.specs.Owning.{alone, among}
use Rattle.core_words.specs.contracts.views.View as view
use Rattle.lock_values.proofs.Sent.{state_keyless}
use Rattle.lock_values.specs.contracts.place.Place.{the_row}

pub sync : (T : RattleType) → IsSend T → IsSync T → IsSync (the_row T)
sync T s y = record {
  shared = λ d b o κ t. (
    (λ νs. chain-Keyless νs κ t.0),
    λ p. state_keyless
        view.the_row.coded (alone d.at) (among d.at) d.table T s y b (o + offset T) t p,
  );
}
