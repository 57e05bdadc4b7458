use denote.RattleType.{RattleType}
use denote.Param.Send.{IsSend}
use Rattle.core_parts.specs.contracts.place.Place.{the_row}

pub send : (T : RattleType) → IsSend T → IsSend (the_row T)
send T s = record { owned = λ d vs. ((λ _. tt), λ x vss. (tt, (s.owned x vss.0, tt))); leaving = λ k d w. tt }
