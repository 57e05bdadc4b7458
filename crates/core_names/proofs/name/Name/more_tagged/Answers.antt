use Rattle.std.proofs.Common.{◌≡◌, ◌<◌, ℕ, subst, sym}
use mathlib.Core.Option.{none}
use Rattle.atomic_table.specs.Table.{Allows, step}
use Rattle.core_words.specs.Rule.{LotRule}
use Rattle.core_names.specs.Shares.{stores_more}
use Rattle.core_names.proofs.AtCount.{below, here, near}
use Rattle.core_names.proofs.Stores.{more_allowed}
use Rattle.core_names.proofs.name.Name.more_tagged.Goals as goal

pub swap-requires : goal.swap-requires
swap-requires g c = let lot = c.args.words.now in let seat = c.args.self.now.seat in let count =
    c.args.count in let words = lot.table.shared.key.0 in let family = lot.table.shared.key.1.family in let
    slots = lot.table.shared.table_id.slots in
    let drawn = c.requires.own.1 in let kind = c.requires.own.2 in let at = c.index.result in let name =
    c.requires.own.0 in let next = c.args.next in
    let Goal : ℕ → ℕ → ℕ → Type 0 = λ t s i. Allows (LotRule words family) slots seat.id seat.me i (λ _.
    next) (stores_more t s (step slots i next 0 none) seat.me) in
    subst (λ table. (seat.table_id ≡ table.table_id) × (at < table.table_id.words) × Allows (LotRule
    table.key.0 table.key.1.family) table.table_id.slots seat.id seat.me at (λ _. next) (stores_more
    g.C.CountTag.thread g.C.CountTag.said (step table.table_id.slots at next 0 none) seat.me)) (sym
    c.seats.ensures) (
      name.0,
      near lot count drawn kind at c.index.ensures,
      subst (λ (t : ℕ). Goal t g.C.CountTag.said at) (sym c.requires.pick.0) (subst (λ (s : ℕ). Goal
          c.args.thread s at) (sym c.requires.pick.1) (subst (λ (i : ℕ). Goal c.args.thread c.args.said i)
          (sym (here lot count drawn kind at c.index.ensures))
          (more_allowed words family slots seat.id seat.me c.args.thread count.number c.args.said next
          (below lot count drawn kind at c.index.ensures) name.2.2 name.2.1 c.requires.said.0
          c.requires.said.1 c.requires.next.1 c.requires.next.0 c.requires.next.2))),
    )
