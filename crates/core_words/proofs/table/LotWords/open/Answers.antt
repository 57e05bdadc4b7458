use Rattle.std.proofs.Common.{ℕ, ◌≡◌, [], ◌∷◌, ◌∙◌, ap, sym}
use Rattle.atomic_table.specs.Table.{rest}
use Rattle.core_words.specs.Permits.{slot_at, slots_of}
use Rattle.core_words.proofs.table.LotWords.open.Goals as goal

pub exchange-slot-requires : goal.exchange-slot-requires
exchange-slot-requires c = let owner = c.args.owner in let own = c.requires.1 in let family =
    c.args.self.now.table.shared.key.1.family in
    let slot = slot_at family c.index.result in
    let out : owner.me.1 ≡ (c.index.result, slot) ∷ [] = own.0.1 ∙ ap (λ v. slots_of family v.out) own.1
    ∙ ap (λ (i : ℕ). (i, slot_at family i) ∷ []) (sym c.index.ensures) in
    (own.0.0, (slot, out ∙ ap (λ l. (c.index.result, slot) ∷ rest l) (sym out)))
