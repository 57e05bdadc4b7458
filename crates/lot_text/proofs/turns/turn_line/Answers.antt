use Rattle.std.proofs.Common.{◌-◌, arith, drop, length, length-drop, take_all, subst, sym, ◌∙◌}
use Rattle.lot_text.specs.Turns.{BeginsWithWord}
use Rattle.lot_text.proofs.TurnLemmas.{turn_begins}
use Rattle.lot_text.proofs.turns.turn_line.Goals as goal

pub returns : goal.returns
returns c =
    let text = c.args.text.now in
    let digits = c.len_of_digits-digits in
    let found = c.in_ok-turn in
    let rest = drop digits.result text in
    turn_begins text digits.result c.in_ok-thread.thread found.len found.turn digits.ensures
    (sym c.number.ensures ∙ c.in_ok-thread.was)
    (subst (λ l. BeginsWithWord l found.turn found.len) (take_all (length text - digits.result) rest
    (omega (arith, length-drop digits.result text))) found.ensures)
