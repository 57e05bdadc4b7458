use Rattle.std.proofs.Common.{◌≤◌, ◌⊎◌, ◌++◌, ◌∙◌, sym, ap, inl, inr, length, take, arith}
use Rattle.std.proofs.lemmas.Bool.{cases_lt}
use Rattle.std.proofs.lemmas.List.{take-append-drop}
use Rattle.lot_machine.proofs.ShareLemmas.{given_all}
use Rattle.lot_machine.proofs.shares.give_shares.Goals as goal

pub returns : goal.returns
returns c =
    let i = c.loop-other.other in
    let ps = c.args.places.now in
    let ns = c.loop-other.shares in
    let over : (length ps ≤ i) ⊎ (length ns ≤ i) = elim (cases_lt i (length ps)) [
      | inl lt ↦ inr (omega (
        arith,
        lt,
        c.loop-other-test.false,
        c.min-other-end.ensures,
        c.loop-other.auto.shares,
        c.loop-other.auto.other-end,
      ))
      | inr ge ↦ inl ge
    ] in
    sym (c.loop-other.invariant ∙ ap (λ q. take i ns ++ q) (given_all c.args.thread i ps ns over)
    ∙ take-append-drop i ns)
