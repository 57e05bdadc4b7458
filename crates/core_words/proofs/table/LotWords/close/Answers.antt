use Rattle.std.proofs.Common.{ℕ, ◌≡◌, [], ◌∷◌, ◌∙◌, ap, sym}
use Rattle.atomic_table.specs.Table.{Me, rest}
use Rattle.core_parts.specs.declared.slot.PermitSlot.{PermitSlot}
use Rattle.core_words.specs.Permits.{bare}
use Rattle.core_words.specs.declared.views.View.{View}
use Rattle.core_words.proofs.table.LotWords.close.Goals as goal

pub exchange-requires : goal.exchange-requires
exchange-requires c = let owner = c.args.opened.seat in let opened = c.requires.1 in
    let out : owner.me.1 ≡ (c.index.result, bare) ∷ [] = ap (λ (m : Me PermitSlot View). m.1) opened.1
    ∙ ap (λ (i : ℕ). (i, bare) ∷ []) (sym c.index.ensures) in
    (opened.0, (bare, out ∙ ap (λ l. (c.index.result, bare) ∷ rest l) (sym out)))
