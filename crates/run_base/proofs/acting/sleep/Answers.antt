use Rattle.std.proofs.Common.{◌∙◌, ap}
use Rattle.core_base.specs.declared.notes.Note.TheVariants.{Normal, HandOff}
use Rattle.core_words.specs.declared.views.View.{View}
use Rattle.run_base.proofs.Waking.{slept_late, slept_woken}
use Rattle.run_base.proofs.acting.sleep.Goals as goal

pub returns-in-Woken-clause-told : goal.returns-in-Woken-clause-told
returns-in-Woken-clause-told g c = slept_woken c.args.token.now c.sleep_told.new.token
    (ap (λ (v : View). v.steps) c.sleep_told.ensures.view) c.sleep_told.ensures.told c.args.token.now.number
    Normal c.args.section.now c.requires.own.2

pub returns-in-Handed-clause-told : goal.returns-in-Handed-clause-told
returns-in-Handed-clause-told g c = slept_woken c.args.token.now c.join_right.new.token
    (ap (λ (v : View). v.steps) c.join_right.ensures.joined
    ∙ ap (λ (v : View). v.steps) c.sleep_told.ensures.view)
    (c.join_right.ensures.untold ∙ c.sleep_told.ensures.told) c.args.token.now.number HandOff
    c.args.section.now c.requires.own.2

pub returns-in-Handed-2-clause-told : goal.returns-in-Handed-2-clause-told
returns-in-Handed-2-clause-told g c = slept_woken c.args.token.now c.sleep_told.new.token
    (ap (λ (v : View). v.steps) c.sleep_told.ensures.view) c.sleep_told.ensures.told c.args.token.now.number
    Normal c.args.section.now c.requires.own.2

pub returns-in-Late-clause-told : goal.returns-in-Late-clause-told
returns-in-Late-clause-told g c = slept_late c.args.token.now c.sleep_told.new.token
    (ap (λ (v : View). v.steps) c.sleep_told.ensures.view) c.sleep_told.ensures.told c.args.token.now.number
    c.in-Late.key c.awake_late.result c.awake_late.new.token c.awake_late.new.section
    c.sleep_told.ensures.own.0.1 c.awake_late.ensures.told
