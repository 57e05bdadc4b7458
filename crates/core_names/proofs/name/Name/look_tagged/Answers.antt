use Rattle.std.proofs.Common.{◌≡◌, ◌<◌, ◌∙◌, ℕ, ap, subst, sym}
use mathlib.Core.Option.{none}
use Rattle.atomic_table.specs.Table.{Allows, step}
use Rattle.core_words.specs.Rule.{LotRule}
use Rattle.core_words.specs.Permits.{slots_of}
use Rattle.core_names.specs.Shares.{looks_named}
use Rattle.core_names.proofs.AtCount.{below, here, near}
use Rattle.core_names.proofs.Stores.{look_allowed}
use Rattle.core_names.proofs.name.Name.look_tagged.Goals as goal

pub load-requires : goal.load-requires
load-requires g c = let lot = c.args.words.now in let seat = c.args.self.now.seat in let count =
    c.args.count in let words = lot.table.shared.key.0 in let family = lot.table.shared.key.1.family in let
    slots = lot.table.shared.table_id.slots in
    let drawn = c.requires.own.1 in let kind = c.requires.own.2 in let at = c.index.result in let name =
    c.requires.own.0 in
    let Goal : ℕ → ℕ → ℕ → Type 0 = λ f t i. Allows (LotRule words family) slots seat.id seat.me i (λ n. n)
    (looks_named f t (step slots i 0 0 none) seat.me) in
    subst (λ table. (seat.table_id ≡ table.table_id) × (at < table.table_id.words) × Allows (LotRule
    table.key.0 table.key.1.family) table.table_id.slots seat.id seat.me at (λ n. n) (looks_named
    g.P.PermitTag.family g.C.CountTag.thread (step table.table_id.slots at 0 0 none) seat.me)) (sym
    c.seats.ensures) (
      name.0,
      near lot count drawn kind at c.index.ensures,
      subst (λ (f : ℕ). Goal f g.C.CountTag.thread at) (sym c.requires.pick.1) (subst (λ (t : ℕ). Goal
          family t at) (sym c.requires.pick.0) (subst (λ (i : ℕ). Goal family c.args.thread i) (sym (here
          lot count drawn kind at c.index.ensures))
          (look_allowed words family slots seat.id seat.me c.args.thread count.number (below lot count
          drawn kind at c.index.ensures) name.2.2 (name.1 ∙ sym (ap (slots_of family) name.2.1))))),
    )
