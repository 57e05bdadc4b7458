use Rattle.std.proofs.Common.{◌++◌, ◌∙◌, None, ap, subst}
use Rattle.core_base.specs.declared.ops.Op.TheVariants.{Load}
use Rattle.spec_locks.specs.declared.calls.OnceCall.{OnceCall}
use Rattle.core_words.specs.Indices.{word_index}
use Rattle.core_words.specs.Steps.{CodesWith}
use Rattle.core_words.specs.declared.views.View.{View}
use Rattle.core_words.specs.declared.words.WordKind.{WordKind}
use Rattle.run_base.specs.Paths.{once_at, step}
use Rattle.run_base.specs.Stages.{stage_of, stepped}
use Rattle.run_base.specs.Telling.{owns_of, steps_of}
use Rattle.run_base.proofs.Turning.{by_stage}
use Rattle.run_once_and_semaphores.proofs.OnceCalling.{begins_by}
use Rattle.run_once_and_semaphores.proofs.once_calls.begin.Goals as goal

pub returns-clause-seen : goal.returns-clause-seen
returns-clause-seen c = let n = c.args.word.number in let w = c.step_word_unrecorded in
    let code = subst (λ (kind : WordKind). CodesWith kind (word_index c.args.word.number kind) c.step_word_unrecorded.result
    (owns_of c.args.token.now)) c.requires.own.2 w.ensures.coded in
    let is = (by_stage c.args.word Load w.result c.args.token.now None w.new.token w.ensures.stepped
    w.ensures.own.1 w.ensures.coded).1
    ∙ ap (λ (kind : WordKind). stepped kind (word_index c.args.word.number kind) Load c.step_word_unrecorded.result
    (stage_of c.args.token.now None)) c.requires.own.2 in (
      w.ensures.own.0.1,
      ap (λ (v : View). v.steps) c.step_word_unrecorded.ensures.stepped ∙ ap (λ (kind : WordKind). steps_of c.args.token.now
          ++ step (word_index c.args.word.number kind) Load c.step_word_unrecorded.result) c.requires.own.2,
      λ (call : OnceCall). begins_by n call (owns_of c.args.token.now) (steps_of c.args.token.now
          ++ step (once_at n) Load w.result) w.result (stage_of w.new.token None) code.1.0 is,
      w.ensures.untold,
    )
