use Rattle.std.proofs.Common.{◌++◌}
use Rattle.std.specs.Prelude.{codes, decimal}
use Rattle.lot_text.specs.Text.{state_text, answer_text}
use Rattle.lot_text.proofs.SentLemmas.{puts_then}
use Rattle.lot_text.proofs.answers.print_turn.Goals as goal

pub returns-in-NotNow : goal.returns-in-NotNow
returns-in-NotNow g c =
    rw c.in-NotNow.is (puts_then _ _ _ c.args.page.now c.put_number.new.self c.put.new.self
    (decimal c.args.thread) (codes " not now\n") c.put_number.ensures c.put.ensures)

pub returns-in-Step : goal.returns-in-Step
returns-in-Step g c =
    rw c.in-Step.is (puts_then _ _ _ c.args.page.now c.put_number.new.self c.put-in-Step.new.self
    (decimal c.args.thread) (codes " step\n") c.put_number.ensures c.put-in-Step.ensures)

pub returns-in-Sleep : goal.returns-in-Sleep
returns-in-Sleep g c =
    rw c.in-Sleep.is (puts_then _ _ _ c.args.page.now c.put_number.new.self c.put-in-Sleep.new.self
    (decimal c.args.thread) (codes " sleep\n") c.put_number.ensures c.put-in-Sleep.ensures)

pub returns-in-Closure : goal.returns-in-Closure
returns-in-Closure g c =
    let text = state_text c.in-Closure.state in
    rw c.in-Closure.is
    (puts_then _ _ _ c.args.page.now c.put_number.new.self c.put-in-Closure-3.new.self (decimal c.args.thread)
    (codes " closure " ++ (text ++ codes "\n")) c.put_number.ensures
    (puts_then _ _ _ c.put_number.new.self c.put-in-Closure.new.self c.put-in-Closure-3.new.self
    (codes " closure ") (text ++ codes "\n") c.put-in-Closure.ensures
    (puts_then _ _ _ c.put-in-Closure.new.self c.put-in-Closure-2.new.self c.put-in-Closure-3.new.self text
    (codes "\n") (rw c.state_text.ensures at c.put-in-Closure-2.ensures) c.put-in-Closure-3.ensures)))

pub returns-in-End : goal.returns-in-End
returns-in-End g c =
    let text = answer_text c.in-End.answer in
    rw c.in-End.is
    (puts_then _ _ _ c.args.page.now c.put_number.new.self c.put-in-End-2.new.self (decimal c.args.thread)
    (codes " end " ++ (text ++ codes "\n")) c.put_number.ensures
    (puts_then _ _ _ c.put_number.new.self c.put-in-End.new.self c.put-in-End-2.new.self (codes " end ")
    (text ++ codes "\n") c.put-in-End.ensures
    (puts_then _ _ _ c.put-in-End.new.self c.print_answer.new.page c.put-in-End-2.new.self text (codes "\n")
    c.print_answer.ensures c.put-in-End-2.ensures)))
