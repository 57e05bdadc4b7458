use Rattle.std.proofs.Common.{◌≡◌, [], ap, subst, sym}
use Rattle.atomic_table.specs.Table.{Joins}
use Rattle.core_words.specs.Rule.{LotRule}
use Rattle.core_words.specs.Views.{blank}
use Rattle.core_names.specs.Names.{count_at, thread_named}
use Rattle.core_names.specs.Shares.{takes_shares}
use Rattle.core_names.proofs.Parts.{takes_share}
use Rattle.core_names.proofs.name.CountShare.take_share.Goals as goal

pub join_seat-requires : goal.join_seat-requires
join_seat-requires c = let lot = c.args.words.now in let seat = c.args.self.now.seat in let other =
    c.args.other.seat in
    subst (λ table. (seat.table_id ≡ table.table_id) × (other.table_id ≡ table.table_id) × (other.me.1 ≡
    []) × Joins (LotRule table.key.0 table.key.1.family) seat.id seat.me.0 other.id other.me.0
    (takes_shares seat.me.0 other.me.0) blank) (sym c.seats.ensures) (
      c.requires.own.0,
      c.requires.other.0,
      ap (λ m. m.1) c.requires.other.1,
      takes_share lot.table.shared.key.0 lot.table.shared.key.1.family seat.id seat.me.0 other.id
          other.me.0 (count_at c.args.count.number) (thread_named c.args.other) (ap (λ m. m.0)
          c.requires.other.1),
    )
