use Rattle.std.proofs.Common.{◌-◌, ◌+◌, ◌∷◌, ◌<◌, arith, take, drop, length, take_all, length-drop, sym, ap}
use Rattle.std.proofs.Common.{◌∙◌}
use Rattle.lot_text.specs.Grammar.{words_of}
use Rattle.lot_text.proofs.GrammarLemmas.{words_only, words_first}
use Rattle.lot_text.proofs.grammar.split_word.Goals as goal

pub returns-then-at-text : goal.returns-then-at-text
returns-then-at-text c = words_only c.args.text.now c.len_of_word-at.result c.if-at-text.true
    c.len_of_word-at.ensures.before

pub returns : goal.returns
returns c =
    let text = c.args.text.now in
    let at = c.len_of_word-at in
    let within : at.result < length text = omega arith in
    let first = words_first text at.result within at.ensures.before (at.ensures.found within) in
    let rest = drop (at.result + 1) text in
    first ∙ ap (λ l. take at.result text ∷ words_of l)
    (sym (take_all (length text - (at.result + 1)) rest
    (omega (arith, length-drop (at.result + 1) text))))
