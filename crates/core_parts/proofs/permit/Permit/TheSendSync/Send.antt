use denote.Param.Send.{IsSend}
use types.Keyed.{entry_keyless, token}
use Rattle.core_parts.specs.contracts.permit.Permit.{the_row}

pub send : IsSend the_row
send = record {
  owned = λ d vs. ((λ vss. (tt, tt)), entry_keyless token d.id.family d.id.number tt);
  leaving = λ k f vs. tt;
}
