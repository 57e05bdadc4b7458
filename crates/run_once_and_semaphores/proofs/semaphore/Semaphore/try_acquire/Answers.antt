use Rattle.std.proofs.Common.{rules, ◌≡◌, ◌≢◌, ◌∙◌, None, true, false, ap}
use Rattle.spec_locks.specs.declared.outcomes.Answer.TheVariants as answers
use Rattle.core_words.specs.declared.views.View.{View}
use Rattle.steps_semaphore.specs.SemaphoreSteps.{is_free}
use Rattle.run_base.specs.Courses.{trail_of}
use Rattle.run_base.proofs.Courses.{one_more}
use Rattle.run_once_and_semaphores.specs.SemaphoreCalls.{permit_answer, try_place}
use Rattle.run_once_and_semaphores.proofs.SemaphoreCalling.{by_same, looked_since, misses_all, sees_none, tries_after, tries_on, tries_well}
use Rattle.run_once_and_semaphores.proofs.semaphore.Semaphore.try_acquire.Goals as goal

pub returns-then-free_permits-eq0-clause-path : goal.returns-then-free_permits-eq0-clause-path
returns-then-free_permits-eq0-clause-path g c = let n = c.args.self.now.word.number in let old =
    c.args.token.now in let mid = c.look_in_turn-seen.new.token in let looked = looked_since n
    c.look_in_turn-seen.result old c.may_begin.new.token mid c.may_begin.ensures.own.0.1 c.may_begin.ensures.view
    c.may_begin.ensures.untold c.look_in_turn-seen.ensures.looked in
    let none : is_free c.look_in_turn-seen.result ≡ false = search rules in
    sees_none n c.look_in_turn-seen.result 0 old.number (trail_of old None) (trail_of mid None) (trail_of mid None)
    none (one_more _ _ _ _ _ looked.2 looked.3)

pub returns-then-not-may_begin-clause-path : goal.returns-then-not-may_begin-clause-path
returns-then-not-may_begin-clause-path g c = let n = c.args.self.now.word.number in let old =
    c.args.token.now in let mid = c.look_in_turn-seen.new.token in let looked = looked_since n
    c.look_in_turn-seen.result old c.may_begin.new.token mid c.may_begin.ensures.own.0.1 c.may_begin.ensures.view
    c.may_begin.ensures.untold c.look_in_turn-seen.ensures.looked in
    let free : is_free c.look_in_turn-seen.result ≡ true = search rules in
    let answer = permit_answer answers.Yes c.retry.result in
    tries_after n c.look_in_turn-seen.result 0 old.number (trail_of old None) (trail_of mid None)
    (trail_of c.retry.new.token None) answer free (one_more _ _ _ _ _ looked.2 looked.3)
    (by_same n (try_place n c.look_in_turn-seen.result) answer old mid c.retry.new.token looked.0.0
    c.retry.ensures.path)

pub returns-then-free_permits-eq0-2-clause-path : goal.returns-then-free_permits-eq0-2-clause-path
returns-then-free_permits-eq0-2-clause-path g c = let n = c.args.self.now.word.number in let old =
    c.args.token.now in let mid = c.look-seen.new.token in let looked = looked_since n
    c.look-seen.result old c.may_begin.new.token mid c.may_begin.ensures.own.0.1 c.may_begin.ensures.view
    c.may_begin.ensures.untold c.look-seen.ensures.looked in
    let none : is_free c.look-seen.result ≡ false = search rules in
    sees_none n c.look-seen.result 0 old.number (trail_of old None) (trail_of mid None) (trail_of mid None)
    none (one_more _ _ _ _ _ looked.2 looked.3)

pub returns-then-found-seen-clause-path : goal.returns-then-found-seen-clause-path
returns-then-found-seen-clause-path g c = let n = c.args.self.now.word.number in let old = c.args.token.now
    in let mid = c.look-seen.new.token in let looked = looked_since n
    c.look-seen.result old c.may_begin.new.token mid c.may_begin.ensures.own.0.1 c.may_begin.ensures.view
    c.may_begin.ensures.untold c.look-seen.ensures.looked in let found =
    c.take-found.ensures.found in
    let free : is_free c.look-seen.result ≡ true = search rules in
    let same : c.take-found.result ≡ c.look-seen.result = search rules in
    tries_well n c.look-seen.result c.take-found.result old.number (trail_of old None) (trail_of mid None)
    (trail_of c.split.new.token None) free (one_more _ _ _ _ _ looked.2 looked.3)
    (one_more _ _ _ _ _ (ap (λ (v : View). v.steps) c.split.ensures.left ∙ found.2) (c.split.ensures.untold
    ∙ found.3)) same

pub returns-then-free_permits-eq0-3-clause-path : goal.returns-then-free_permits-eq0-3-clause-path
returns-then-free_permits-eq0-3-clause-path g c = let n = c.args.self.now.word.number in let old =
    c.args.token.now in let mid = c.look-seen.new.token in let looked = looked_since n
    c.look-seen.result old c.may_begin.new.token mid c.may_begin.ensures.own.0.1 c.may_begin.ensures.view
    c.may_begin.ensures.untold c.look-seen.ensures.looked
    in let found = c.take-found.ensures.found in
    let free : is_free c.look-seen.result ≡ true = search rules in
    let none : is_free c.take-found.result ≡ false = search rules in
    let other : c.take-found.result ≢ c.look-seen.result = search rules in
    misses_all n c.look-seen.result c.take-found.result old.number (trail_of old None) (trail_of mid None)
    (trail_of c.take-found.new.token None) free none (one_more _ _ _ _ _ looked.2 looked.3)
    (one_more _ _ _ _ _ found.2 found.3) other

pub returns-clause-path : goal.returns-clause-path
returns-clause-path g c = let n = c.args.self.now.word.number in let old = c.args.token.now in let mid =
    c.look-seen.new.token in let new = c.take-found.new.token in let looked = looked_since n
    c.look-seen.result old c.may_begin.new.token mid c.may_begin.ensures.own.0.1 c.may_begin.ensures.view
    c.may_begin.ensures.untold c.look-seen.ensures.looked
    in let found = c.take-found.ensures.found in
    let free : is_free c.look-seen.result ≡ true = search rules in
    let more : is_free c.take-found.result ≡ true = search rules in
    let other : c.take-found.result ≢ c.look-seen.result = search rules in
    let answer = permit_answer answers.Yes c.retry-2.result in
    tries_on n c.look-seen.result c.take-found.result old.number (trail_of old None) (trail_of mid None)
    (trail_of new None) (trail_of c.retry-2.new.token None) answer free more
    (one_more _ _ _ _ _ looked.2 looked.3) (one_more _ _ _ _ _ found.2 found.3) other
    (by_same n (try_place n c.take-found.result) answer old new c.retry-2.new.token (found.0 ∙ looked.0.0)
    c.retry-2.ensures.path)
