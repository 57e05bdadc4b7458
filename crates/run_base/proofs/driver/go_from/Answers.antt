use Rattle.std.proofs.Common.{◌∙◌, inr, sym}
use Rattle.run_base.specs.Words.{at_in, kind_in}
use Rattle.run_base.proofs.Leading.{words_from}
use Rattle.run_base.proofs.Turning.{has_keys}
use Rattle.run_base.proofs.driver.go_from.Goals as goal

pub act-requires : goal.act-requires
act-requires c = has_keys c.in-Some.respins_from (kind_in c.args.words) (at_in c.args.words)
    (words_from (kind_in c.args.words) (at_in c.args.words) c.args.place.now c.in-Some.respins_from
    (inr (sym c.respins_from.ensures ∙ c.in-Some.is)) c.requires.words)
