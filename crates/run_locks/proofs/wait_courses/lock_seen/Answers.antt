use Rattle.std.proofs.Common.{refl, sym, ap, ◌∙◌}
use Rattle.core_clocks.specs.Clocks.{TimeIsUp}
use Rattle.steps_base.specs.declared.acts.Reply.TheVariants.{Value}
use Rattle.steps_mutex.specs.MutexSteps.{is_locked}
use Rattle.steps_mutex.specs.declared.lock.LockAt.TheVariants as lock
use Rattle.run_locks.specs.CondvarCourses.{locks_at, wait_at}
use Rattle.run_base.proofs.Coming.{begins, comes, named}
use Rattle.run_locks.proofs.CondvarGoing.{decides_on}
use Rattle.std.proofs.lemmas.Bool.{false≢true}
use Rattle.run_base.specs.Queued.{is_queued}
use Rattle.run_locks.proofs.wait_courses.lock_seen.Goals as goal

pub finish_by_driver-requires-clause-at : goal.finish_by_driver-requires-clause-at
finish_by_driver-requires-clause-at g c = let pair = c.args.pair in let at = wait_at pair.condvar pair.mutex c.args.timed
    in let seen = c.turn_word-seen.result in
    let here = begins (TimeIsUp g.C.Clock.tells c.args.limit) c.args.lot.now pair.words (at (locks_at lock.Load))
    c.args.token.now c.args.section c.requires in
    let looked = comes here (Value seen) c.turn_word-seen.new.token c.args.section c.turn_word-seen.ensures
    refl (at (locks_at (lock.Decide seen)))
    (refl, decides_on pair.condvar pair.mutex c.args.timed seen (is_locked seen) refl) in
    let there = named looked (sym (c.waits-place.ensures ∙ ap at c.locks.ensures)) in
    there.at

pub returns-then-is_locked : goal.returns-then-is_locked
returns-then-is_locked g c = let pair = c.args.pair in let at = wait_at pair.condvar pair.mutex c.args.timed
    in let seen = c.turn_word-seen.result in
    let here = begins (TimeIsUp g.C.Clock.tells c.args.limit) c.args.lot.now pair.words (at (locks_at lock.Load))
    c.args.token.now c.args.section c.requires in
    let looked = comes here (Value seen) c.turn_word-seen.new.token c.args.section c.turn_word-seen.ensures
    refl (at (locks_at (lock.Decide seen)))
    (refl, decides_on pair.condvar pair.mutex c.args.timed seen (is_locked seen) refl) in
    let there = named looked (sym (c.waits-place.ensures ∙ ap at c.locks.ensures)) in
    there.ends c.finish_by_driver.result c.finish_by_driver.new.token c.finish_by_driver.ensures

pub lock_free-requires-clause-at : goal.lock_free-requires-clause-at
lock_free-requires-clause-at g c = let pair = c.args.pair in let at = wait_at pair.condvar pair.mutex
    c.args.timed in let seen = c.turn_word-seen.result in
    let here = begins (TimeIsUp g.C.Clock.tells c.args.limit) c.args.lot.now pair.words (at (locks_at lock.Load))
    c.args.token.now c.args.section c.requires in
    let looked = comes here (Value seen) c.turn_word-seen.new.token c.args.section c.turn_word-seen.ensures
    refl (at (locks_at (lock.Decide seen)))
    (refl, decides_on pair.condvar pair.mutex c.args.timed seen (is_locked seen) refl) in
    looked.at

pub returns : goal.returns
returns g c = let pair = c.args.pair in let at = wait_at pair.condvar pair.mutex c.args.timed in let seen =
    c.turn_word-seen.result in
    let here = begins (TimeIsUp g.C.Clock.tells c.args.limit) c.args.lot.now pair.words (at (locks_at lock.Load))
    c.args.token.now c.args.section c.requires in
    let looked = comes here (Value seen) c.turn_word-seen.new.token c.args.section c.turn_word-seen.ensures
    refl (at (locks_at (lock.Decide seen)))
    (refl, decides_on pair.condvar pair.mutex c.args.timed seen (is_locked seen) refl) in
    looked.ends c.lock_free.result c.lock_free.new.token c.lock_free.ensures

pub finish_by_driver-requires-clause-queued : goal.finish_by_driver-requires-clause-queued
finish_by_driver-requires-clause-queued g c = λ queued. absurd
    (false≢true (ap is_queued (sym (c.waits-place.ensures
    ∙ ap (wait_at c.args.pair.condvar c.args.pair.mutex c.args.timed) c.locks.ensures)) ∙ queued))
