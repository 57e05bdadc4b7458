use Rattle.std.proofs.Common.{◌≡◌, cond, ap, refl, sym, ◌∙◌}
use Rattle.core_words.specs.Permits.{slots_of}
use Rattle.core_words.specs.Rights.{named_by, piece_of, takes_permit, with_permit}
use Rattle.core_words.proofs.Seats.{takes_back}
use Rattle.core_words.proofs.table.LotWords.join_right.Goals as goal

pub join_seat-requires : goal.join_seat-requires
join_seat-requires c = let lot = c.args.self.now in let sized = lot.sized in let sized₀ = sized.0
    in let right = c.args.right in let family = lot.table.shared.key.1.family in
    let names : right.seat.me.0 ≡ piece_of right.word right.owner = right.names
    ∙ ap (λ b. cond b (with_permit right.word) (piece_of right.word right.owner))
    (ap (λ k. takes_permit k right.owner) (sym c.kind.ensures) ∙ sym c.takes_permit.ensures
    ∙ c.if-takes_permit.false) in (
      c.requires.0.0,
      c.requires.1.0.0,
      c.requires.1.0.1 ∙ ap (λ v. slots_of family v.out) names,
      takes_back lot.table.shared.key.0 family c.args.seat.now.id c.args.seat.now.me.0 right.seat.id
          (named_by right.word right.owner) right.seat.me.0 refl names,
    )
