use Rattle.lot_text.proofs.TurnLemmas.{text_begins}
use Rattle.lot_text.proofs.turns.text_line.Goals as goal

pub returns : goal.returns
returns c = text_begins c.args.text.now c.len_of_line-len.result c.len_of_line-len.ensures.within
    c.len_of_line-len.ensures.before c.len_of_line-len.ensures.found c.if-len-text.false
