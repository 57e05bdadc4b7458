use Rattle.core_words.proofs.AtWord.{table_sees_shown}
use Rattle.core_words.proofs.table.LotWords.look_tagged.Goals as goal

pub load-requires : goal.load-requires
load-requires g c = table_sees_shown c.args.self.now c.args.seat.now c.args.condvar (
  c.requires.own.0,
  c.requires.own.1,
) g.P.PermitTag.family g.C.CondvarTag.words g.C.CondvarTag.number c.index.result
    c.requires.pick.2 c.requires.pick.0 c.requires.pick.1 c.index.ensures c.requires.own.2
