use Rattle.std.proofs.Common.{◌≡◌, ◌<◌, ℕ, subst, sym}
use mathlib.Core.Option.{none}
use Rattle.atomic_table.specs.Table.{Allows, step}
use Rattle.core_words.specs.Rule.{LotRule}
use Rattle.core_names.specs.Shares.{sees_two}
use Rattle.core_names.proofs.AtCount.{below, here, near}
use Rattle.core_names.proofs.Stores.{two_allowed}
use Rattle.core_names.proofs.name.CountShare.see_two.Goals as goal

pub load-requires : goal.load-requires
load-requires g c = let lot = c.args.words.now in let seat = c.args.self.now.seat in let count =
    c.args.count in let words = lot.table.shared.key.0 in let family = lot.table.shared.key.1.family in let
    slots = lot.table.shared.table_id.slots in
    let drawn = c.requires.own.1 in let kind = c.requires.own.2 in let at = c.index.result in let one =
    g.C.CountTag.thread in let other = g.D.CountTag.thread in
    subst (λ table. (seat.table_id ≡ table.table_id) × (at < table.table_id.words) × Allows (LotRule
    table.key.0 table.key.1.family) table.table_id.slots seat.id seat.me at (λ n. n) (sees_two one other
    (step table.table_id.slots at 0 0 none) seat.me)) (sym c.seats.ensures) (
      c.requires.own.0,
      near lot count drawn kind at c.index.ensures,
      subst (λ (i : ℕ). Allows (LotRule words family) slots seat.id seat.me i (λ n. n) (sees_two one other
          (step slots i 0 0 none) seat.me)) (sym (here lot count drawn kind at c.index.ensures))
          (two_allowed words family slots seat.id seat.me one other count.number
          (below lot count drawn kind at c.index.ensures) c.requires.shares),
    )
