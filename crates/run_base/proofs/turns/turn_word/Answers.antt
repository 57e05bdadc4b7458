use Rattle.std.proofs.Common.{sym, subst}
use Rattle.core_clocks.specs.Clocks.{TimeIsUp}
use Rattle.core_words.specs.Indices.{word_index}
use Rattle.core_words.specs.Steps.{MayStep}
use Rattle.core_words.specs.declared.words.Word.{Word}
use Rattle.steps_base.specs.declared.acts.Act.TheVariants as act
use Rattle.parking_lot_core.specs.Tokens.{view_of}
use Rattle.run_base.proofs.TurnsOn.{needs_by, word_turned}
use Rattle.run_base.proofs.turns.turn_word.Goals as goal

pub step_word-requires-clause-may : goal.step_word-requires-clause-may
step_word-requires-clause-may g c =
    subst (λ (w : Word). MayStep w.kind (word_index w.number w.kind) c.args.op
    (view_of c.args.token.now).owns) (sym c.of.ensures)
    (needs_by (TimeIsUp g.C.Clock.tells c.args._limit) c.args.lot.now c.args.words c.requires.0
    (act.Word c.args.lock c.args.op) c.args.token.now c.args._section.now c.requires.1
    c.requires.2)

pub returns : goal.returns
returns g c = λ p at is.
    word_turned (TimeIsUp g.C.Clock.tells c.args._limit) c.args.lot.now c.args.words p c.args.token.now
    c.step_word.new.token c.args._section.now c.args.lock c.args.op c.step_word.result c.of.result c.of.ensures is
    at c.step_word.ensures.own.0 c.step_word.ensures.stepped c.step_word.ensures.own.1 c.step_word.ensures.coded
    c.step_word.ensures.untold
