use Rattle.std.proofs.Common.{◌≡◌, ◌++◌, refl, sym, subst}
use Rattle.core_clocks.specs.Clocks.{TimeIsUp}
use Rattle.core_words.specs.Indices.{word_index}
use Rattle.core_words.specs.Steps.{CodesWith, MayStep}
use Rattle.core_words.specs.declared.words.Word.{Word}
use Rattle.steps_base.specs.declared.acts.Act.TheVariants as act
use Rattle.steps_base.specs.declared.acts.Reply.TheVariants.{Value}
use Rattle.parking_lot_core.specs.Tokens.{view_of}
use Rattle.run_base.specs.Paths.{step}
use Rattle.run_base.specs.Stages.{HandsEach, section_view, stage_handed, stage_of, wanted_in}
use Rattle.run_base.specs.Telling.{steps_of}
use Rattle.run_base.proofs.TurnsOn.{needs_by, turned_by}
use Rattle.run_base.proofs.turns.turn_hand_over.Goals as goal

pub hand_over-requires-clause-may : goal.hand_over-requires-clause-may
hand_over-requires-clause-may g c =
    let needs = needs_by (TimeIsUp g.C.Clock.tells c.args._limit) c.args.lot.now c.args.words c.requires.0
    (act.HandOver c.args.lock c.args.op) c.args.token.now c.args.section.now c.requires.1
    c.requires.2 in
    subst (λ (w : Word). MayStep w.kind (word_index w.number w.kind) c.args.op
    (view_of c.args.token.now).owns) (sym c.of.ensures) needs.0

pub hand_over-requires-clause-each : goal.hand_over-requires-clause-each
hand_over-requires-clause-each g c =
    let needs = needs_by (TimeIsUp g.C.Clock.tells c.args._limit) c.args.lot.now c.args.words c.requires.0
    (act.HandOver c.args.lock c.args.op) c.args.token.now c.args.section.now c.requires.1
    c.requires.2 in (
      needs.1,
      subst (λ (w : Word). HandsEach w.kind (word_index w.number w.kind) c.args.op
          (view_of c.args.token.now).owns (wanted_in (section_view c.args.section.now))) (sym c.of.ensures)
          needs.2,
    )

pub returns : goal.returns
returns g c = λ p at is.
    let seen = c.hand_over.result in
    turned_by (TimeIsUp g.C.Clock.tells c.args._limit) c.args.lot.now c.args.words p c.args.token.now
    c.hand_over.new.token c.args.section.now c.hand_over.new.section (act.HandOver c.args.lock
    c.args.op) (Value seen) is refl at
    c.hand_over.ensures.own.0 c.hand_over.ensures.own.1 (
      subst (λ (w : Word). CodesWith w.kind (word_index w.number w.kind) seen (view_of c.args.token.now).owns)
          c.of.ensures c.hand_over.ensures.coded,
      subst (λ (w : Word). stage_of c.hand_over.new.token c.hand_over.new.section ≡ stage_handed w.kind
          (word_index w.number w.kind) c.args.op seen (stage_of c.args.token.now c.args.section.now))
          c.of.ensures c.hand_over.ensures.handed,
    )
    (subst (λ (w : Word). steps_of c.hand_over.new.token ≡ steps_of c.args.token.now ++ step
    (word_index w.number w.kind) c.args.op seen) c.of.ensures c.hand_over.ensures.adds)
    tt c.hand_over.ensures.told
