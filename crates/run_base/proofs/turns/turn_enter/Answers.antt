use Rattle.std.proofs.Common.{Option, ap, ◌∙◌, refl, sym, subst}
use Rattle.core_clocks.specs.Clocks.{TimeIsUp}
use Rattle.steps_base.specs.declared.acts.Act.TheVariants as act
use Rattle.steps_base.specs.declared.acts.Reply.TheVariants.{Done}
use Rattle.parking_lot_core.specs.Tokens.{IsSameThread, last_of, told_of, view_of}
use Rattle.parking_lot_core.specs.declared.tokens.Token.{Token}
use Rattle.run_base.specs.Stages.{SectionView, section_view, stage}
use Rattle.run_base.specs.Telling.{steps_of}
use Rattle.run_base.proofs.TurnsOn.{needs_by, turned_by}
use Rattle.run_base.proofs.turns.turn_enter.Goals as goal

pub enter-requires : goal.enter-requires
enter-requires g c = let needs = needs_by (TimeIsUp g.C.Clock.tells c.args._limit) c.args.lot.now c.args._words
    c.requires.0 (act.Enter c.args.keys) c.args.token.now c.args.section.now c.requires.1
    c.requires.2 in (c.requires.1.0, needs.0, needs.1)

pub returns : goal.returns
returns g c = λ p at is.
    turned_by (TimeIsUp g.C.Clock.tells c.args._limit) c.args.lot.now c.args._words p c.args.token.now
    c.enter.new.token c.args.section.now c.enter.new.section (act.Enter c.args.keys) Done is
    refl at
    (subst (IsSameThread c.args.lot.now c.args.token.now) (sym c.enter.ensures.same) (at.0, refl))
    c.enter.ensures.entered.0
    (ap (λ (t : Token). stage (view_of t).owns (section_view c.enter.new.section) (last_of t)
    (view_of t).steps) c.enter.ensures.same
    ∙ ap (λ (i : Option SectionView). stage (view_of c.args.token.now).owns i (last_of c.args.token.now)
    (view_of c.args.token.now).steps) c.enter.ensures.entered.1)
    (ap steps_of c.enter.ensures.same) tt (
      ap told_of c.enter.ensures.same,
      c.enter.ensures.told.0,
      c.enter.ensures.told.1,
    )
