use Rattle.std.proofs.Common.{◌∙◌, ap, sym, subst}
use Rattle.core_words.specs.Indices.{word_index}
use Rattle.core_words.specs.Steps.{CodesWith, MayStep, after_step}
use Rattle.core_words.specs.declared.views.View.{View}
use Rattle.run_base.proofs.driver.first_step.Goals as goal

pub step_word_unrecorded-requires-clause-may : goal.step_word_unrecorded-requires-clause-may
step_word_unrecorded-requires-clause-may c = let w = c.args.word in
    subst (λ (v : View). MayStep w.kind (word_index w.number w.kind) c.args.op v.owns)
    (sym c.begins.ensures.view) c.requires.may

pub returns-clause-stepped : goal.returns-clause-stepped
returns-clause-stepped c = let w = c.args.word in c.step_word_unrecorded.ensures.stepped
    ∙ ap (λ (v : View). after_step w.kind (word_index w.number w.kind) c.args.op c.step_word_unrecorded.result v)
    c.begins.ensures.view

pub returns-clause-coded : goal.returns-clause-coded
returns-clause-coded c = let w = c.args.word in
    subst (λ (v : View). CodesWith w.kind (word_index w.number w.kind) c.step_word_unrecorded.result v.owns)
    c.begins.ensures.view c.step_word_unrecorded.ensures.coded
