use Rattle.std.proofs.Common.{refl}
use Rattle.core_clocks.specs.Clocks.{TimeIsUp}
use Rattle.steps_base.specs.declared.acts.Act.TheVariants as act
use Rattle.steps_base.specs.declared.acts.TakeWhich.TheVariants as whom
use Rattle.steps_base.specs.declared.acts.Reply.TheVariants.{Picked}
use Rattle.run_base.proofs.TurnsOn.{needs_by, turned_by}
use Rattle.run_base.proofs.turns.turn_take_wanted.Goals as goal

pub take_wanted-requires : goal.take_wanted-requires
take_wanted-requires g c =
    let needs = needs_by (TimeIsUp g.C.Clock.tells c.args._limit) c.args.lot.now c.args._words c.requires.0
    (act.Take c.args.key (whom.Picked c.args.start c.args.recursive))
    c.args._token.now c.args.section.now c.requires.1 c.requires.2 in
    (c.requires.1.2, needs.0, needs.1)

pub returns-clause-done : goal.returns-clause-done
returns-clause-done g c = λ p at is.
    turned_by (TimeIsUp g.C.Clock.tells c.args._limit) c.args.lot.now c.args._words p c.args._token.now
    c.args._token.now c.args.section.now c.take_wanted.new.section
    (act.Take c.args.key (whom.Picked c.args.start c.args.recursive))
    (Picked c.take_wanted.result.0 c.take_wanted.result.1 c.take_wanted.result.2) is refl at
    (at.0, refl) c.take_wanted.ensures.took.0 (c.take_wanted.ensures.took.1, refl, refl, refl) refl
    c.take_wanted.ensures.told (
      refl,
      c.take_wanted.ensures.tells.0,
      c.take_wanted.ensures.tells.1,
    )
