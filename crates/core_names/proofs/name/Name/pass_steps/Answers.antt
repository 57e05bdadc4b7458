use Rattle.std.proofs.Common.{◌≡◌, subst, sym}
use Rattle.atomic_table.specs.Table.{Splits}
use Rattle.core_words.specs.Rule.{LotRule}
use Rattle.core_names.specs.Shares.{steps_alone, without_steps}
use Rattle.core_names.proofs.Parts.{passes_steps}
use Rattle.core_names.proofs.name.Name.pass_steps.Goals as goal

pub split_seat-steps-requires : goal.split_seat-steps-requires
split_seat-steps-requires c = let lot = c.args.words.now in let seat = c.args.self.now.seat in
    subst (λ table. (seat.table_id ≡ table.table_id) × Splits (LotRule table.key.0 table.key.1.family)
    seat.id seat.me.0 (without_steps seat.me.0) (steps_alone seat.me.0)) (sym c.seats.ensures)
    (c.requires.own.1, passes_steps lot.table.shared.key.0 lot.table.shared.key.1.family seat.id seat.me.0)
