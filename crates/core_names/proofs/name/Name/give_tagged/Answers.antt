use Rattle.std.proofs.Common.{◌≡◌, ◌∷◌, ◌∙◌, ap, subst, sym}
use Rattle.atomic_table.specs.Table.{Splits}
use Rattle.core_words.specs.Rule.{LotRule}
use Rattle.core_names.specs.Shares.{share_view, sharing, without_first_share}
use Rattle.core_names.proofs.Parts.{gives_share}
use Rattle.core_names.proofs.name.Name.give_tagged.Goals as goal

pub split_seat-seat-requires : goal.split_seat-seat-requires
split_seat-seat-requires g c = let lot = c.args.words.now in let seat = c.args.self.now.seat in let t =
    g.C.CountTag.thread in let at = g.C.CountTag.at in
    let rest = c.requires.share.0 in
    let is : seat.me.0.shares ≡ sharing at t ∷ rest = c.requires.share.1 ∙ ap (λ k. sharing k c.args.thread
    ∷ rest) (sym c.requires.pick.1) ∙ ap (λ k. sharing at k ∷ rest) (sym c.requires.pick.0) in
    subst (λ table. (seat.table_id ≡ table.table_id) × Splits (LotRule table.key.0 table.key.1.family)
    seat.id seat.me.0 (without_first_share seat.me.0) (share_view at t)) (sym c.seats.ensures) (
      c.requires.own.0,
      gives_share lot.table.shared.key.0 lot.table.shared.key.1.family seat.id seat.me.0
          at t rest is,
    )
