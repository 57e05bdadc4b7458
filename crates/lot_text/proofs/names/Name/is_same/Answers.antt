use Rattle.std.proofs.Common.{◌∙◌, sym, arith}
use Rattle.lot_text.proofs.NameLemmas.{names_same}
use Rattle.lot_text.proofs.names.Name.is_same.Goals as goal

pub returns : goal.returns
returns c =
    let i = c.loop-at.invariant in
    rw (← c.self.view_is, ← c.other.view_is)
    (names_same c.self.inside.bytes c.other.inside.bytes c.loop-at.same (c.self.told ∙ sym c.other.told)
    c.self.invariant c.other.invariant
    (λ s k h. i.0 s k (omega (arith, h, c.self.told, c.loop-at-test.false)))
    (λ each. i.1 (λ k h. each k (omega (arith, h, c.self.told, c.loop-at.auto.at-end)))))
