use Rattle.std.proofs.Common.{Option, ap, refl}
use Rattle.core_clocks.specs.Clocks.{TimeIsUp}
use Rattle.steps_base.specs.declared.acts.Act.TheVariants as act
use Rattle.steps_base.specs.declared.acts.Reply.TheVariants.{Done}
use Rattle.parking_lot_core.specs.Tokens.{last_of, view_of}
use Rattle.run_base.specs.Stages.{SectionView, stage}
use Rattle.run_base.proofs.TurnsOn.{needs_by, turned_by}
use Rattle.run_base.proofs.turns.turn_stand.Goals as goal

pub stand-requires : goal.stand-requires
stand-requires g c = (
  c.requires.1.0,
  c.requires.1.2,
  needs_by (TimeIsUp g.C.Clock.tells c.args._limit)
      c.args.lot.now c.args._words c.requires.0 (act.Stand c.args.key c.args.want)
      c.args.token.now
      c.args.section.now c.requires.1 c.requires.2,
)

pub returns-clause-done : goal.returns-clause-done
returns-clause-done g c = λ p at is.
    turned_by (TimeIsUp g.C.Clock.tells c.args._limit) c.args.lot.now c.args._words p c.args.token.now
    c.args.token.now c.args.section.now c.stand.new.section (act.Stand c.args.key c.args.want)
    Done is refl at
    (at.0, refl) c.stand.ensures.same.0
    (ap (λ (i : Option SectionView). stage (view_of c.args.token.now).owns i (last_of c.args.token.now)
    (view_of c.args.token.now).steps) c.stand.ensures.same.1) refl
    c.stand.ensures.stands (refl, c.stand.ensures.told.0, c.stand.ensures.told.1)
