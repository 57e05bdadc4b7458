use Rattle.core_words.proofs.AtWord.{table_lays_back}
use Rattle.core_words.proofs.table.LotWords.put_back_permit.Goals as goal

pub change_view-requires : goal.change_view-requires
change_view-requires c = table_lays_back c.args.self.now c.args.seat.now c.requires
