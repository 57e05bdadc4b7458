use Rattle.std.proofs.Common.{arith}
use Rattle.core_words.proofs.Seats.{seats_another}
use Rattle.core_words.proofs.table.LotWords.another.Goals as goal

pub split_seat-requires : goal.split_seat-requires
split_seat-requires c = let sized = c.args.self.now.sized in let sized₀ = sized.0 in (
  c.requires.0,
  omega arith,
  seats_another c.args.self.now.table.shared.key.0
      c.args.self.now.table.shared.key.1.family c.args.seat.now.id c.args.seat.now.me.0,
)
