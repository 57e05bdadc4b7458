use Rattle.std.proofs.Common.{◌≡◌, ◌+◌, ◌∙◌, ap, subst, sym}
use Rattle.atomic_table.specs.Table.{Splits}
use Rattle.core_words.specs.Rule.{LotRule}
use Rattle.core_words.specs.declared.views.View.{View}
use Rattle.core_names.specs.Shares.{named, namer_from}
use Rattle.core_names.proofs.Parts.{draws_number}
use Rattle.core_names.proofs.name.Name.draw_tagged.Goals as goal

pub split_seat-seat-requires : goal.split_seat-seat-requires
split_seat-seat-requires g c = let lot = c.args.words.now in let first = c.args.first.now in let t =
    g.C.CountTag.thread in
    let is : first.me.0 ≡ namer_from t = ap (λ m. m.0) c.requires.own.1 ∙ ap namer_from (sym
    c.requires.pick) in
    subst (λ table. (first.table_id ≡ table.table_id) × Splits (LotRule table.key.0 table.key.1.family)
    first.id first.me.0 (namer_from (t + 1)) (named t)) (sym c.seats.ensures) (
      c.requires.own.0,
      subst (λ (v : View). Splits (LotRule lot.table.shared.key.0 lot.table.shared.key.1.family) first.id v
          (namer_from (t + 1)) (named t)) (sym is)
          (draws_number lot.table.shared.key.0 lot.table.shared.key.1.family first.id t),
    )
