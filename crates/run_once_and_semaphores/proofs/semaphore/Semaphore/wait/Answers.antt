use Rattle.std.proofs.Common.{rules, ◌≡◌, ◌≢◌, ◌∙◌, None, true, ap}
use Rattle.core_words.specs.declared.views.View.{View}
use Rattle.steps_semaphore.specs.SemaphoreSteps.{acquired, is_free}
use Rattle.run_base.specs.Courses.{trail_of}
use Rattle.run_base.proofs.Courses.{one_more}
use Rattle.run_once_and_semaphores.specs.SemaphoreCalls.{deciding, permit_answer}
use Rattle.run_once_and_semaphores.proofs.SemaphoreCalling.{by_same, looked_since, misses, takes, waits_on}
use Rattle.run_once_and_semaphores.proofs.semaphore.Semaphore.wait.Goals as goal

pub returns-then-not-may_begin-clause-path : goal.returns-then-not-may_begin-clause-path
returns-then-not-may_begin-clause-path g c = let n = c.args.self.now.word.number in let old =
    c.args.token.now in let mid = c.look_in_turn-seen.new.token in let looked = looked_since n
    c.look_in_turn-seen.result old c.may_begin.new.token mid c.may_begin.ensures.own.0.1 c.may_begin.ensures.view
    c.may_begin.ensures.untold c.look_in_turn-seen.ensures.looked in
    let answer = permit_answer (acquired c.args.timed) c.wait_after.result in
    waits_on n c.args.timed c.look_in_turn-seen.result 0 old.number (trail_of old None) (trail_of mid None)
    (trail_of c.wait_after.new.token None) answer (one_more _ _ _ _ _ looked.2 looked.3)
    (by_same n (deciding n c.args.timed c.look_in_turn-seen.result) answer old mid c.wait_after.new.token
    looked.0.0 c.wait_after.ensures.path)

pub returns-then-free_permits-eq0-clause-path : goal.returns-then-free_permits-eq0-clause-path
returns-then-free_permits-eq0-clause-path g c = let n = c.args.self.now.word.number in let old =
    c.args.token.now in let mid = c.look-seen.new.token in let looked = looked_since n
    c.look-seen.result old c.may_begin.new.token mid c.may_begin.ensures.own.0.1 c.may_begin.ensures.view
    c.may_begin.ensures.untold c.look-seen.ensures.looked in
    let answer = permit_answer (acquired c.args.timed) c.wait_after-then-free_permits-eq0.result in
    waits_on n c.args.timed c.look-seen.result 0 old.number (trail_of old None) (trail_of mid None)
    (trail_of c.wait_after-then-free_permits-eq0.new.token None) answer (one_more _ _ _ _ _ looked.2 looked.3)
    (by_same n (deciding n c.args.timed c.look-seen.result) answer old mid c.wait_after-then-free_permits-eq0.new.token looked.0.0
    c.wait_after-then-free_permits-eq0.ensures.path)

pub returns-then-found-seen-clause-path : goal.returns-then-found-seen-clause-path
returns-then-found-seen-clause-path g c = let n = c.args.self.now.word.number in let old = c.args.token.now
    in let mid = c.look-seen.new.token in let looked = looked_since n
    c.look-seen.result old c.may_begin.new.token mid c.may_begin.ensures.own.0.1 c.may_begin.ensures.view
    c.may_begin.ensures.untold c.look-seen.ensures.looked in let found =
    c.take-found.ensures.found in
    let free : is_free c.look-seen.result ≡ true = search rules in
    let same : c.take-found.result ≡ c.look-seen.result = search rules in
    takes n c.args.timed c.look-seen.result c.take-found.result old.number (trail_of old None)
    (trail_of mid None) (trail_of c.split.new.token None) free (one_more _ _ _ _ _ looked.2 looked.3)
    (one_more _ _ _ _ _ (ap (λ (v : View). v.steps) c.split.ensures.left ∙ found.2) (c.split.ensures.untold
    ∙ found.3)) same

pub returns-clause-path : goal.returns-clause-path
returns-clause-path g c = let n = c.args.self.now.word.number in let old = c.args.token.now in let mid =
    c.look-seen.new.token in let new = c.take-found.new.token in let looked = looked_since n
    c.look-seen.result old c.may_begin.new.token mid c.may_begin.ensures.own.0.1 c.may_begin.ensures.view
    c.may_begin.ensures.untold c.look-seen.ensures.looked
    in let found = c.take-found.ensures.found in
    let free : is_free c.look-seen.result ≡ true = search rules in
    let other : c.take-found.result ≢ c.look-seen.result = search rules in
    let answer = permit_answer (acquired c.args.timed) c.wait_after-2.result in
    misses n c.args.timed c.look-seen.result c.take-found.result old.number (trail_of old None)
    (trail_of mid None) (trail_of new None) (trail_of c.wait_after-2.new.token None) answer free
    (one_more _ _ _ _ _ looked.2 looked.3) (one_more _ _ _ _ _ found.2 found.3) other
    (by_same n (deciding n c.args.timed c.take-found.result) answer old new c.wait_after-2.new.token (found.0
    ∙ looked.0.0) c.wait_after-2.ensures.path)
