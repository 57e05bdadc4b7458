use Rattle.std.proofs.Common.{sym}
use Rattle.lot_text.proofs.GrammarLemmas.{six_words}
use Rattle.lot_text.proofs.grammar.meaning.Goals as goal

pub returns-in-Some-rest-4 : goal.returns-in-Some-rest-4
returns-in-Some-rest-4 c =
    sym (six_words c.args.line.now c.in-Some.rest.now c.in-Some-rest.rest.now c.in-Some-rest-2.rest.now
    c.in-Some-rest-3.rest.now c.in-Some-rest-4.field-0.now _ _ _ _ _
    (rw c.in-Some.is at c.split_word.ensures) (rw c.in-Some-rest.is at c.split_word-2.ensures)
    (rw c.in-Some-rest-2.is at c.split_word-3.ensures)
    (rw c.in-Some-rest-3.is at c.split_word-4.ensures) (rw c.in-Some-rest-4.is at c.split_word-5.ensures))
