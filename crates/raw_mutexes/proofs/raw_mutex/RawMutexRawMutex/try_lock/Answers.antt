use Rattle.std.proofs.Common.{◌≡◌, ◌∙◌, ◌++◌, true, false, ap, rules}
use Rattle.core_base.specs.declared.ops.Op.TheVariants.{Or}
use Rattle.run_base.specs.Paths.{step}
use Rattle.steps_mutex.specs.MutexSteps.{is_locked}
use Rattle.core_words.specs.Indices.{word_index}
use Rattle.core_words.specs.declared.views.View.{View}
use Rattle.core_words.specs.declared.words.WordKind.{WordKind}
use Rattle.parking_lot_core.specs.Tokens.{view_of}
use Rattle.run_base.proofs.Afterwards.{path_of_try}
use Rattle.raw_mutexes.proofs.raw_mutex.RawMutexRawMutex.try_lock.Goals as goal

pub returns-in-Some-clause-path : goal.returns-in-Some-clause-path
returns-in-Some-clause-path c = let mutex = c.args.self.now in let n = mutex.word.number in let steps =
    (view_of c.args.token.now).steps in
    let tried = c.try_lock_with_permit-taken in let seen = tried.result.0 in let free : is_locked seen ≡ false =
    search rules in
    path_of_try n false seen c.args.token.now tried.new.token free
    (ap (λ (v : View). v.steps) tried.ensures.stepped
    ∙ ap (λ (k : WordKind). steps ++ step (word_index n k) (Or 1) seen) mutex.drawn.1)
    tried.ensures.untold

pub returns-in-None-clause-path : goal.returns-in-None-clause-path
returns-in-None-clause-path c = let mutex = c.args.self.now in let n = mutex.word.number in let steps =
    (view_of c.args.token.now).steps in
    let tried = c.try_lock_with_permit-taken in let seen = tried.result.0 in let locked : is_locked seen ≡ true =
    search rules in
    path_of_try n true seen c.args.token.now tried.new.token locked
    (ap (λ (v : View). v.steps) tried.ensures.stepped
    ∙ ap (λ (k : WordKind). steps ++ step (word_index n k) (Or 1) seen) mutex.drawn.1)
    tried.ensures.untold
