use Rattle.std.proofs.Common.{◌≡◌, ◌∙◌, ◌++◌, ◌∷◌, [], ℕ, Option, Some, ap, sym, subst}
use Rattle.core_base.specs.Lines.{queued_under}
use Rattle.core_base.specs.declared.keys.Keys.TheVariants.{One}
use Rattle.core_words.specs.declared.views.View.{View}
use Rattle.steps_base.specs.declared.acts.Reply.TheVariants.{Late}
use Rattle.parking_lot_core.specs.Sections.{told_in}
use Rattle.parking_lot_core.specs.declared.sections.Section.{Section}
use Rattle.parking_lot_core.specs.declared.tellings.Telling.TheVariants.{Left}
use Rattle.run_base.specs.Courses.{HasWokenLate}
use Rattle.run_base.specs.Stages.{entered_now, section_view, waiting_of}
use Rattle.run_base.proofs.Waking.{entered_late, left_late}
use Rattle.run_base.proofs.acting.awake_late.Goals as goal

pub returns-in-None-clause-queues : goal.returns-in-None-clause-queues
returns-in-None-clause-queues g c = (
  c.args.key,
  subst (λ (s : Option Section). section_view s ≡ entered_now (One c.args.key)) (sym c.replace.ensures.after)
      c.requires.late,
  subst (λ (s : Option Section). queued_under c.args.token.now.number (waiting_of s) ≡ Some c.args.key)
      (sym c.replace.ensures.after) c.requires.stands,
)

pub returns-in-None-clause-told : goal.returns-in-None-clause-told
returns-in-None-clause-told g c = let me = c.args.token.now.number in
    subst (λ (s : Option Section). HasWokenLate c.args.token.now.number c.args.key Late c.args.token.now
    c.args.token.now s) (sym c.replace.ensures.after)
    (entered_late me c.args.token.now c.args.inside c.args.key c.requires.late c.requires.untold.0
    c.requires.untold.1)

pub returns-clause-told : goal.returns-clause-told
returns-clause-told g c = left_late c.args.token.now.number c.args.token.now c.args.inside c.args.key
    c.requires.late c.requires.untold.0 c.requires.untold.1 c.leave_section.new.token c.remove.new.self
    c.args.section.now c.requires.own.1 c.remove.ensures.same.0.1 c.remove.ensures.same.0.3
    (c.remove.ensures.told ∙ ap (λ (n : ℕ). told_in c.args.inside ++ Left n ∷ []) c.requires.place.1)
    (ap (λ (v : View). v.steps) c.leave_section.ensures.own.1) c.leave_section.ensures.told
