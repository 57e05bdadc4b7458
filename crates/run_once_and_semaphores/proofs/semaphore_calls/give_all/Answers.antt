use Rattle.std.proofs.Common.{◌∙◌, List, ap}
use Rattle.core_words.specs.declared.owners.Ownership.{Ownership}
use Rattle.core_words.specs.declared.views.View.{View}
use Rattle.run_base.specs.Telling.{owns_of}
use Rattle.run_once_and_semaphores.proofs.SemaphoreCalling.{filled, may_fill}
use Rattle.run_once_and_semaphores.proofs.semaphore_calls.give_all.Goals as goal

pub step_word-requires-clause-may : goal.step_word-requires-clause-may
step_word-requires-clause-may c = may_fill c.args.word.number c.args.permits c.requires.own.2.0 c.args.word.kind
    c.requires.own.2.1 (owns_of c.args.token.now) c.requires.held.0 c.requires.held.1

pub returns-clause-gave : goal.returns-clause-gave
returns-clause-gave c = λ (rest : List Ownership) all. ap (λ (v : View). v.owns) c.step_word.ensures.stepped
    ∙ filled c.args.word.number c.args.permits c.requires.own.2.0 c.args.word.kind c.requires.own.2.1
    (owns_of c.args.token.now) rest all c.step_word.result c.step_word.ensures.coded
