use Rattle.core_words.proofs.AtWord.{table_sees_free}
use Rattle.core_words.proofs.table.LotWords.free_tagged.Goals as goal

pub load-requires : goal.load-requires
load-requires g c = table_sees_free c.args.self.now c.args.seat.now c.args.semaphore (
  c.requires.own.0,
  c.requires.own.1,
) g.P.PermitTag.family g.N.NumberTag.number c.index.result c.requires.pick.1
    c.requires.pick.0 c.index.ensures c.requires.own.2
