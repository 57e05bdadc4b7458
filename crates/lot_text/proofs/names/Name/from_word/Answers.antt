use Rattle.std.proofs.Common.{arith, sym, ◌∙◌}
use Rattle.lot_text.proofs.NameLemmas.{found, is_name_word, name_known, name_kept}
use Rattle.lot_text.proofs.names.Name.from_word.Goals as goal

pub invariant_of-result : goal.invariant_of-result
invariant_of-result c =
    let word = c.args.word.now in
    let f = found word c.in_ok-bytes.bytes (sym c.in_ok-bytes.was ∙ c.padded.ensures) in
    name_kept word c.in_ok-bytes.bytes
    (is_name_word word _ c.in-Some.first.now c.in-Some.ensures.cases.0
    (omega (arith, c.if-word-gt-NAME_LEN.false)) (sym c.is_letter.ensures ∙ c.if-not-is_letter.false)
    f.are) f.is

pub returns : goal.returns
returns c =
    let word = c.args.word.now in
    let f = found word c.in_ok-bytes.bytes (sym c.in_ok-bytes.was ∙ c.padded.ensures) in
    name_known word c.in_ok-bytes.bytes
    (is_name_word word _ c.in-Some.first.now c.in-Some.ensures.cases.0
    (omega (arith, c.if-word-gt-NAME_LEN.false)) (sym c.is_letter.ensures ∙ c.if-not-is_letter.false)
    f.are) f.is
