use Rattle.lot_replay.proofs.StartLemmas.{one_word}
use Rattle.lot_replay.proofs.start.is_job.Goals as goal

pub returns-in-len1 : goal.returns-in-len1
returns-in-len1 c = one_word c.args.args.now _ c.args.job.now c.eq.result c.in-len1.len_at_least
    c.in-len1.len_below c.eq.ensures
