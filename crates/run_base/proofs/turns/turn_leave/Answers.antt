use Rattle.std.proofs.Common.{◌≡◌, ◌++◌, ap, refl, sym, subst}
use Rattle.core_clocks.specs.Clocks.{TimeIsUp}
use Rattle.steps_base.specs.declared.acts.Act.TheVariants as act
use Rattle.steps_base.specs.declared.acts.Reply.TheVariants.{Done}
use Rattle.core_base.specs.declared.notes.Note.{Note}
use Rattle.core_words.specs.declared.views.View.{View}
use Rattle.parking_lot_core.specs.Tokens.{count_of, told_of}
use Rattle.run_base.specs.Courses.{told_within, visit_within, visited}
use Rattle.run_base.specs.Stages.{MayLeave, section_view}
use Rattle.run_base.proofs.TurnsOn.{needs_by, turned_by}
use Rattle.run_base.proofs.turns.turn_leave.Goals as goal

pub leave-requires : goal.leave-requires
leave-requires g c = (
  c.requires.1.0,
  c.requires.1.2,
  subst (λ (note : Note). MayLeave note (section_view c.args.section.now)) (sym c.note_of.ensures)
      (needs_by (TimeIsUp g.C.Clock.tells c.args._limit) c.args.lot.now c.args._words c.requires.0
      (act.Leave c.args._keys c.args.wakes) c.args.token.now c.args.section.now c.requires.1
      c.requires.2),
)

pub returns : goal.returns
returns g c = λ p at is.
    turned_by (TimeIsUp g.C.Clock.tells c.args._limit) c.args.lot.now c.args._words p c.args.token.now
    c.leave.new.token c.args.section.now c.leave.new.section (act.Leave c.args._keys
    c.args.wakes) Done is refl at
    c.leave.ensures.own.0 c.leave.ensures.left.1 (
      ap (λ (v : View). v.owns) c.leave.ensures.own.1,
      c.leave.ensures.left.0,
      c.leave.ensures.left.2,
      ap (λ (v : View). v.steps) c.leave.ensures.own.1,
    ) (ap (λ (v : View). v.steps) c.leave.ensures.own.1)
    tt (subst (λ (note : Note). told_of c.leave.new.token ≡ told_of c.args.token.now
    ++ (told_within c.args.section.now ++ visited (visit_within c.args.section.now)
    (count_of c.args.token.now) note)) c.note_of.ensures c.leave.ensures.told)
