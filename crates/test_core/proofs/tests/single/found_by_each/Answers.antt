use Rattle.std.specs.Prelude.{◌≡◌, List}
use Rattle.std.proofs.Common.{rules, sym, subst, refl}
use Rattle.core_base.specs.declared.ops.Op.{Op}
use Rattle.core_words.specs.Indices.{word_index}
use Rattle.core_words.specs.Steps.{MayStep}
use Rattle.core_words.specs.declared.owners.Ownership.{Ownership}
use Rattle.core_words.specs.declared.words.Word.{Word}
use Rattle.core_words.specs.declared.words.WordKind.{WordKind}
use Rattle.core_words.specs.declared.words.WordKind.TheVariants.{Mutex}
use Rattle.test_core.proofs.tests.single.found_by_each.Goals as goal

-- tells what may be done to a mutex may be done to this word
may : (word : Word) (op : Op) (owns : List Ownership) → word.kind ≡ Mutex
    → MayStep Mutex (word_index word.number Mutex) op owns
    → MayStep word.kind (word_index word.number word.kind) op owns
may word op owns is step = subst (λ (kind : WordKind). MayStep kind (word_index word.number kind) op owns)
    (sym is) step

pub step_word-requires-clause-may : goal.step_word-requires-clause-may
step_word-requires-clause-may c = may c.args.word _ _ c.requires.2 ((c.mutex_may_step.ensures _ _).enter 0
    (search rules) refl)

pub step_word-requires-2-clause-may : goal.step_word-requires-2-clause-may
step_word-requires-2-clause-may c = may c.args.word _ _ c.requires.2 (c.mutex_may_step.ensures _ _).set_parked

pub step_word-requires-3-clause-may : goal.step_word-requires-3-clause-may
step_word-requires-3-clause-may c = may c.args.word _ _ c.requires.2 (c.mutex_may_step.ensures _ _).set_parked

pub step_word-requires-4-clause-may : goal.step_word-requires-4-clause-may
step_word-requires-4-clause-may c = may c.args.word _ _ c.requires.2 (c.mutex_may_step.ensures _ _).clear_parked

pub step_word-requires-5-clause-may : goal.step_word-requires-5-clause-may
step_word-requires-5-clause-may c = may c.args.word _ _ c.requires.2 (c.mutex_may_step.ensures _ _).set_locked

pub step_word-requires-6-clause-may : goal.step_word-requires-6-clause-may
step_word-requires-6-clause-may c = may c.args.word _ _ c.requires.2 (c.mutex_may_step.ensures _ _).load
