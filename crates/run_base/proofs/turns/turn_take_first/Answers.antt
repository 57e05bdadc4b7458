use Rattle.std.proofs.Common.{refl}
use Rattle.core_clocks.specs.Clocks.{TimeIsUp}
use Rattle.steps_base.specs.declared.acts.Act.TheVariants as act
use Rattle.steps_base.specs.declared.acts.TakeWhich.TheVariants as whom
use Rattle.steps_base.specs.declared.acts.Reply.TheVariants.{Took}
use Rattle.run_base.specs.Stages.{front_waiter}
use Rattle.run_base.specs.Telling.{line_in}
use Rattle.run_base.proofs.TurnsOn.{needs_by, turned_by}
use Rattle.run_base.proofs.turns.turn_take_first.Goals as goal

pub take_first-requires : goal.take_first-requires
take_first-requires g c = let needs = needs_by (TimeIsUp g.C.Clock.tells c.args._limit) c.args.lot.now
    c.args._words c.requires.0 (act.Take c.args.key whom.First) c.args._token.now
    c.args.section.now c.requires.1 c.requires.2 in (c.requires.1.2, needs.0, needs.1)

pub returns-clause-done : goal.returns-clause-done
returns-clause-done g c = λ p at is.
    turned_by (TimeIsUp g.C.Clock.tells c.args._limit) c.args.lot.now c.args._words p c.args._token.now
    c.args._token.now c.args.section.now c.take_first.new.section (act.Take c.args.key
    whom.First) (Took c.take_first.result.0 c.take_first.result.1) is refl at
    (at.0, refl) c.take_first.ensures.did.0 (
      (
        front_waiter (line_in c.args.key c.args.section.now),
        c.take_first.ensures.any,
        c.take_first.ensures.did.1,
      ),
      refl,
      refl,
      refl,
    ) refl
    (c.take_first.ensures.any, c.take_first.ensures.left.0, c.take_first.ensures.left.1) (
      refl,
      c.take_first.ensures.told.0,
      c.take_first.ensures.told.1,
    )
