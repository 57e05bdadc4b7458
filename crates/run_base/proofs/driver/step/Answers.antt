use Rattle.std.proofs.Common.{sym, subst}
use Rattle.core_words.specs.Indices.{word_index}
use Rattle.core_words.specs.Steps.{MayStep}
use Rattle.core_words.specs.declared.words.WordKind.{WordKind}
use Rattle.parking_lot_core.specs.Tokens.{view_of}
use Rattle.run_base.proofs.driver.step.Goals as goal

pub step_word-requires-clause-may : goal.step_word-requires-clause-may
step_word-requires-clause-may c = subst (λ (k : WordKind). MayStep k (word_index c.args.word.number k) c.args.op
    (view_of c.args.token.now).owns) (sym c.requires.own.2) c.requires.may
