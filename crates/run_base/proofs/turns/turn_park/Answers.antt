use Rattle.std.proofs.Common.{Option, ap, ◌∙◌, ◌≡◌, refl, sym, subst}
use Rattle.core_clocks.specs.Clocks.{TimeIsUp}
use Rattle.core_base.specs.declared.ops.Op.TheVariants.{Load}
use Rattle.core_words.specs.Indices.{word_index}
use Rattle.core_words.specs.Steps.{CodesWith, MayStep, after_step}
use Rattle.core_words.specs.declared.views.View.{View}
use Rattle.core_words.specs.declared.words.Word.{Word}
use Rattle.steps_base.specs.declared.acts.Act.TheVariants as act
use Rattle.steps_base.specs.declared.acts.Reply.TheVariants.{Parked}
use Rattle.parking_lot_core.specs.Tokens.{last_of, view_of}
use Rattle.run_base.specs.Stages.{SectionView, stage}
use Rattle.run_base.proofs.Turning.{by_stage}
use Rattle.run_base.proofs.TurnsOn.{needs_by, turned_by}
use Rattle.run_base.specs.Words.{word_among}
use Rattle.run_base.proofs.turns.turn_park.Goals as goal

pub park-requires-clause-needs : goal.park-requires-clause-needs
park-requires-clause-needs g c =
    let needs = needs_by (TimeIsUp g.C.Clock.tells c.args._limit) c.args.lot.now c.args.words c.requires.0
    (act.Park c.args.lock c.args.key c.args.check c.args.want) c.args.token.now
    c.args.section.now c.requires.1 c.requires.2 in (
      subst (λ (w : Word). MayStep w.kind (word_index w.number w.kind) Load (view_of c.args.token.now).owns)
          (sym c.of.ensures) needs.0,
      needs.1,
    )

pub returns-clause-done : goal.returns-clause-done
returns-clause-done g c = λ p at is.
    let seen = c.park.ensures.stepped.0 in
    let then = subst (λ (w : Word). view_of c.park.new.token ≡ after_step w.kind (word_index w.number w.kind)
    Load seen (view_of c.args.token.now)) c.of.ensures c.park.ensures.stepped.3 in
    let code = subst (λ (w : Word). CodesWith w.kind (word_index w.number w.kind) seen
    (view_of c.args.token.now).owns) c.of.ensures c.park.ensures.stepped.2 in
    let there = by_stage (word_among c.args.words c.args.lock) Load seen c.args.token.now c.args.section.now
    c.park.new.token then c.park.ensures.own.1 code in
    turned_by (TimeIsUp g.C.Clock.tells c.args._limit) c.args.lot.now c.args.words p c.args.token.now
    c.park.new.token c.args.section.now c.park.new.section (act.Park c.args.lock c.args.key
    c.args.check c.args.want) (Parked c.park.result) is refl at
    c.park.ensures.own.0 c.park.ensures.same.0 (
      seen,
      c.park.ensures.stepped.1,
      (
        there.0,
        ap (λ (i : Option SectionView). stage (view_of c.park.new.token).owns i (last_of c.park.new.token)
            (view_of c.park.new.token).steps) c.park.ensures.same.1 ∙ there.1,
      ),
    )
    (seen, c.park.ensures.stepped.1, ap (λ (v : View). v.steps) then)
    c.park.ensures.stands c.park.ensures.told
