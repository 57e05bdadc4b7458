use Rattle.std.proofs.Common.{◌≡◌, ◌<◌, ℕ, subst, sym}
use mathlib.Core.Option.{none}
use Rattle.atomic_table.specs.Table.{Allows, step}
use Rattle.core_words.specs.Rule.{LotRule}
use Rattle.core_names.specs.Shares.{sees_own}
use Rattle.core_names.proofs.AtCount.{below, here, near}
use Rattle.core_names.proofs.Stores.{see_allowed}
use Rattle.core_names.proofs.name.Name.see_tagged.Goals as goal

pub load-requires : goal.load-requires
load-requires g c = let lot = c.args.words.now in let seat = c.args.self.now.seat in let count =
    c.args.count in let words = lot.table.shared.key.0 in let family = lot.table.shared.key.1.family in let
    slots = lot.table.shared.table_id.slots in
    let drawn = c.requires.own.1 in let kind = c.requires.own.2 in let at = c.index.result in let name =
    c.requires.own.0 in
    let Goal : ℕ → ℕ → Type 0 = λ t i. Allows (LotRule words family) slots seat.id seat.me i (λ n. n)
    (sees_own t (step slots i 0 0 none) seat.me) in
    subst (λ table. (seat.table_id ≡ table.table_id) × (at < table.table_id.words) × Allows (LotRule
    table.key.0 table.key.1.family) table.table_id.slots seat.id seat.me at (λ n. n) (sees_own
    g.C.CountTag.thread (step table.table_id.slots at 0 0 none) seat.me)) (sym c.seats.ensures) (
      name.0,
      near lot count drawn kind at c.index.ensures,
      subst (λ (t : ℕ). Goal t at) (sym c.requires.pick) (subst (λ (i : ℕ). Goal c.args.thread i) (sym
          (here lot count drawn kind at c.index.ensures))
          (see_allowed words family slots seat.id seat.me c.args.thread count.number c.requires.share.0
          (below lot count drawn kind at c.index.ensures) name.2.2 c.requires.share.1)),
    )
