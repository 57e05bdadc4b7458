use denote.Param.Send.{IsSend}
use types.Keyed.{entries_keyless, token}
use Rattle.core_parts.specs.contracts.permit.Permits.{the_row}

pub send : IsSend the_row
send = record {
  owned = λ d vs. ((λ vss. (tt, tt)), entries_keyless token d.family d.next (λ _. tt));
  leaving = λ k f vs. tt;
}
