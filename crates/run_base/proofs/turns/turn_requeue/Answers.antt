use Rattle.std.proofs.Common.{Option, ap, refl}
use Rattle.core_clocks.specs.Clocks.{TimeIsUp}
use Rattle.steps_base.specs.declared.acts.Act.TheVariants as act
use Rattle.steps_base.specs.declared.acts.Reply.TheVariants.{Requeued}
use Rattle.std.specs.Prelude.{length}
use Rattle.core_base.specs.Requeues.{moved_by}
use Rattle.parking_lot_core.specs.Tokens.{last_of, view_of}
use Rattle.run_base.specs.Stages.{SectionView, stage, taken_waiter}
use Rattle.run_base.specs.Telling.{line_in}
use Rattle.run_base.proofs.TurnsOn.{needs_by, turned_by}
use Rattle.run_base.proofs.turns.turn_requeue.Goals as goal

pub requeue-requires : goal.requeue-requires
requeue-requires g c = let needs = needs_by (TimeIsUp g.C.Clock.tells c.args._limit) c.args.lot.now c.args._words
    c.requires.0 (act.Requeue c.args.from c.args.to c.args.how) c.args._token.now
    c.args.section.now c.requires.1 c.requires.2 in ((c.requires.1.2, needs.0, needs.3), needs.1, needs.2)

pub returns-clause-done : goal.returns-clause-done
returns-clause-done g c = λ p at is.
    turned_by (TimeIsUp g.C.Clock.tells c.args._limit) c.args.lot.now c.args._words p c.args._token.now
    c.args._token.now c.args.section.now c.requeue.new.section (act.Requeue c.args.from
    c.args.to c.args.how) (Requeued c.requeue.result.0 c.requeue.result.1) is refl at
    (at.0, refl) c.requeue.ensures.did.0 (
      taken_waiter c.args.how (line_in c.args.from c.args.section.now),
      length (moved_by c.args.how (line_in c.args.from c.args.section.now)),
      c.requeue.ensures.number,
      ap (λ (i : Option SectionView). stage (view_of c.args._token.now).owns i (last_of c.args._token.now)
          (view_of c.args._token.now).steps) c.requeue.ensures.did.1,
    ) refl
    (c.requeue.ensures.number, c.requeue.ensures.left.0, c.requeue.ensures.left.1) (
      refl,
      c.requeue.ensures.told.0,
      c.requeue.ensures.told.1,
      c.requeue.ensures.told.2,
    )
