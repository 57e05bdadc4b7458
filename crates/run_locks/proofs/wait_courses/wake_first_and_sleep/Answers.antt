use Rattle.std.proofs.Common.{refl, sym, ◌∙◌}
use Rattle.core_clocks.specs.Clocks.{TimeIsUp}
use Rattle.steps_base.specs.declared.acts.Reply.TheVariants.{Done, Took}
use Rattle.steps_mutex.specs.declared.unlock.UnlockAt.TheVariants as unlock
use Rattle.run_locks.specs.CondvarCourses.{releases_at, wait_at}
use Rattle.run_base.specs.MutexCourses.{taken_on}
use Rattle.run_base.proofs.Coming.{begins, comes, enters_one, may_do, takes_first}
use Rattle.run_locks.proofs.CondvarGoing.{took_on}
use Rattle.run_locks.proofs.wait_courses.wake_first_and_sleep.Goals as goal

pub turn_enter-requires : goal.turn_enter-requires
turn_enter-requires g c = let pair = c.args.pair in let at = wait_at pair.condvar pair.mutex c.args.timed in
    let here = begins (TimeIsUp g.C.Clock.tells c.args.limit) c.args.lot.now pair.words
    (at (releases_at unlock.Enter)) c.args.token.now c.args.section c.requires.at in
    may_do here (enters_one c.main_key-key.ensures)

pub turn_take_first-any-requires : goal.turn_take_first-any-requires
turn_take_first-any-requires g c = let pair = c.args.pair in let at = wait_at pair.condvar pair.mutex
    c.args.timed in
    let here = begins (TimeIsUp g.C.Clock.tells c.args.limit) c.args.lot.now pair.words
    (at (releases_at unlock.Enter)) c.args.token.now c.args.section c.requires.at in
    let entered = comes here Done c.turn_enter.new.token c.turn_enter.new.section c.turn_enter.ensures
    (enters_one c.main_key-key.ensures)
    (at (releases_at unlock.Take)) (refl, refl) in
    may_do entered (takes_first c.main_key-key.ensures)

pub clear_and_sleep-requires-clause-at : goal.clear_and_sleep-requires-clause-at
clear_and_sleep-requires-clause-at g c = let pair = c.args.pair in let at =
    wait_at pair.condvar pair.mutex c.args.timed in
    let here = begins (TimeIsUp g.C.Clock.tells c.args.limit) c.args.lot.now pair.words
    (at (releases_at unlock.Enter)) c.args.token.now c.args.section c.requires.at in
    let entered = comes here Done c.turn_enter.new.token c.turn_enter.new.section c.turn_enter.ensures
    (enters_one c.main_key-key.ensures)
    (at (releases_at unlock.Take)) (refl, refl) in
    let any = c.turn_take_first-any.result.0 in let none = c.turn_take_first-any.result.1 in
    let took = comes entered (Took any none) c.turn_enter.new.token c.turn_take_first-any.new.section
    c.turn_take_first-any.ensures.done
    (takes_first c.main_key-key.ensures) (at (releases_at (taken_on any none)))
    (took_on pair.condvar pair.mutex c.args.timed any none) in
    took.at

pub clear_and_sleep-requires-clause-queued : goal.clear_and_sleep-requires-clause-queued
clear_and_sleep-requires-clause-queued g c = let pair = c.args.pair in let at =
    wait_at pair.condvar pair.mutex c.args.timed in
    let here = begins (TimeIsUp g.C.Clock.tells c.args.limit) c.args.lot.now pair.words
    (at (releases_at unlock.Enter)) c.args.token.now c.args.section c.requires.at in
    let entered = comes here Done c.turn_enter.new.token c.turn_enter.new.section c.turn_enter.ensures
    (enters_one c.main_key-key.ensures)
    (at (releases_at unlock.Take)) (refl, refl) in
    let any = c.turn_take_first-any.result.0 in let none = c.turn_take_first-any.result.1 in
    let took = comes entered (Took any none) c.turn_enter.new.token c.turn_take_first-any.new.section
    c.turn_take_first-any.ensures.done
    (takes_first c.main_key-key.ensures) (at (releases_at (taken_on any none)))
    (took_on pair.condvar pair.mutex c.args.timed any none) in
    (c.requires.queued.0, c.requires.queued.1 ∙ sym took.same)

pub returns : goal.returns
returns g c = let pair = c.args.pair in let at = wait_at pair.condvar pair.mutex c.args.timed in
    let here = begins (TimeIsUp g.C.Clock.tells c.args.limit) c.args.lot.now pair.words
    (at (releases_at unlock.Enter)) c.args.token.now c.args.section c.requires.at in
    let entered = comes here Done c.turn_enter.new.token c.turn_enter.new.section c.turn_enter.ensures
    (enters_one c.main_key-key.ensures)
    (at (releases_at unlock.Take)) (refl, refl) in
    let any = c.turn_take_first-any.result.0 in let none = c.turn_take_first-any.result.1 in
    let took = comes entered (Took any none) c.turn_enter.new.token c.turn_take_first-any.new.section
    c.turn_take_first-any.ensures.done
    (takes_first c.main_key-key.ensures) (at (releases_at (taken_on any none)))
    (took_on pair.condvar pair.mutex c.args.timed any none) in
    took.ends c.clear_and_sleep.result c.clear_and_sleep.new.token c.clear_and_sleep.ensures
