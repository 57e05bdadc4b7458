use Rattle.std.proofs.Common.{rules, ◌≡◌, ◌++◌, ◌∙◌, Bool, List, None, true, false, ap, subst, sym}
use Rattle.spec_locks.specs.Codes.{has_parked}
use Rattle.spec_locks.specs.declared.outcomes.Answer.{Answer}
use Rattle.spec_locks.specs.declared.outcomes.Answer.TheVariants as answers
use Rattle.core_base.specs.declared.ops.Op.TheVariants.{Add}
use Rattle.core_words.specs.declared.views.View.{View}
use Rattle.core_words.specs.declared.views.WordStep.{WordStep}
use Rattle.parking_lot_core.specs.Tokens.{last_of}
use Rattle.run_base.specs.Courses.{steps_in, trail_of}
use Rattle.run_base.specs.Paths.{semaphore_at, step}
use Rattle.run_base.proofs.Courses.{one_more, steps_since}
use Rattle.run_once_and_semaphores.specs.SemaphoreCalls.{HasGone, WokeIfParked, waking}
use Rattle.run_once_and_semaphores.proofs.SemaphoreCalling.{by_same, releases_at_once, releases_on}
use Rattle.run_once_and_semaphores.proofs.semaphore.Permit.release.Goals as goal

pub returns-then-has_parked-clause-path : goal.returns-then-has_parked-clause-path
returns-then-has_parked-clause-path g c = let n = c.args.self.semaphore.now.word.number in let old =
    c.args.token.now in let mid = c.give-seen.new.token in let new = c.wake_first.new.token in
    let parked : has_parked c.give-seen.result ≡ true = search rules in
    let joined = ap (λ (v : View). v.steps) c.join_held.ensures.joined in
    releases_on n c.give-seen.result old.number (trail_of old None) (trail_of mid None) (trail_of new None)
    answers.Ok parked
    (one_more _ _ _ _ _ (c.give-seen.ensures.added.1 ∙ ap (λ (v : View). v.steps ++ step (semaphore_at
    c.args.self.semaphore.now.word.number) (Add 2) c.give-seen.result) c.may_begin.ensures.view
    ∙ ap (λ (steps : List WordStep). steps ++ step (semaphore_at c.args.self.semaphore.now.word.number)
    (Add 2) c.give-seen.result) joined) (c.give-seen.ensures.added.2 ∙ c.may_begin.ensures.untold ∙ c.join_held.ensures.untold))
    (by_same n (waking n) answers.Ok old mid new (c.give-seen.ensures.added.0 ∙ c.may_begin.ensures.own.0.1 ∙ c.join_held.ensures.own.0.1)
    (subst (λ (answer : Answer). HasGone c.args.self.semaphore.now.word.number
    (waking c.args.self.semaphore.now.word.number) answer c.give-seen.new.token c.wake_first.new.token)
    c.wake_first.ensures.over.0 c.wake_first.ensures.path))

pub returns-else-has_parked-clause-path : goal.returns-else-has_parked-clause-path
returns-else-has_parked-clause-path g c = let n = c.args.self.semaphore.now.word.number in let old =
    c.args.token.now in let mid = c.give-seen.new.token in
    let none : has_parked c.give-seen.result ≡ false = search rules in
    let joined = ap (λ (v : View). v.steps) c.join_held.ensures.joined in
    releases_at_once n c.give-seen.result old.number (trail_of old None) (trail_of mid None)
    (trail_of mid None) none
    (one_more _ _ _ _ _ (c.give-seen.ensures.added.1 ∙ ap (λ (v : View). v.steps ++ step (semaphore_at
    c.args.self.semaphore.now.word.number) (Add 2) c.give-seen.result) c.may_begin.ensures.view
    ∙ ap (λ (steps : List WordStep). steps ++ step (semaphore_at c.args.self.semaphore.now.word.number)
    (Add 2) c.give-seen.result) joined) (c.give-seen.ensures.added.2 ∙ c.may_begin.ensures.untold ∙ c.join_held.ensures.untold))

pub returns-then-has_parked-clause-woke : goal.returns-then-has_parked-clause-woke
returns-then-has_parked-clause-woke g c =
    let parked : has_parked c.give-seen.result ≡ true = search rules in
    let joined = ap (λ (v : View). v.steps) c.join_held.ensures.joined in
    let path = c.wake_first.ensures.path in (
      c.give-seen.result,
      steps_in path.0,
      steps_since _ _ path.0 path.1 ∙ ap (λ (l : List WordStep). l ++ steps_in c.wake_first.ensures.path.0)
          (c.give-seen.ensures.added.1 ∙ ap (λ (v : View). v.steps ++ step (semaphore_at
          c.args.self.semaphore.now.word.number) (Add 2) c.give-seen.result) c.may_begin.ensures.view
          ∙ ap (λ (steps : List WordStep). steps ++ step (semaphore_at
          c.args.self.semaphore.now.word.number) (Add 2) c.give-seen.result) joined),
      subst (λ (b : Bool). WokeIfParked c.args.self.semaphore.now.word.number b
          (steps_in c.wake_first.ensures.path.0) (last_of c.wake_first.new.token)) (sym parked)
          c.wake_first.ensures.over.2,
    )
