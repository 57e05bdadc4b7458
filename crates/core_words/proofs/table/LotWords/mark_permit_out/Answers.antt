use Rattle.core_words.proofs.AtWord.{table_takes_out}
use Rattle.core_words.proofs.table.LotWords.mark_permit_out.Goals as goal

pub change_view-requires : goal.change_view-requires
change_view-requires g c = table_takes_out c.args.self.now c.args.seat.now c.args.word (
  c.requires.own.0,
  c.requires.own.1,
) g.P.PermitTag.family g.P.PermitTag.at c.requires.pick.0 c.requires.pick.1
    c.requires.own.2 c.requires.named
