use Rattle.std.proofs.Common.{◌≡◌, true, false, refl, rules, sym, ◌∙◌}
use Rattle.core_clocks.specs.Clocks.{TimeIsUp}
use Rattle.steps_base.specs.declared.acts.Reply.TheVariants.{Value}
use Rattle.steps_condvar.specs.declared.wait.WaiterFate.TheVariants.{Listed}
use Rattle.steps_condvar.specs.declared.wait.WaitAt.TheVariants as wait
use Rattle.steps_mutex.specs.MutexSteps.{is_parked}
use Rattle.steps_mutex.specs.declared.unlock.UnlockAt.TheVariants as unlock
use Rattle.run_locks.specs.CondvarCourses.{releases_at, wait_at}
use Rattle.run_base.proofs.Coming.{begins, comes}
use Rattle.run_locks.proofs.CondvarGoing.{released_on, releases_on}
use Rattle.run_locks.proofs.wait_courses.release.Goals as goal

pub fall_asleep-requires-clause-at : goal.fall_asleep-requires-clause-at
fall_asleep-requires-clause-at g c = let pair = c.args.pair in let at = wait_at pair.condvar pair.mutex
    c.args.timed in let seen = c.turn_word-seen.result in
    let alone : is_parked c.turn_word-seen.result ≡ false = search rules in
    let here = begins (TimeIsUp g.C.Clock.tells c.args.limit) c.args.lot.now pair.words
    (at (releases_at unlock.Subtract)) c.args.token.now c.args.section c.requires.at in
    let released = comes here (Value seen) c.turn_word-seen.new.token c.args.section c.turn_word-seen.ensures
    refl (at (wait.Asleep Listed))
    (released_on pair.condvar pair.mutex c.args.timed seen alone) in
    released.at

pub fall_asleep-requires-clause-queued : goal.fall_asleep-requires-clause-queued
fall_asleep-requires-clause-queued g c = let pair = c.args.pair in let at =
    wait_at pair.condvar pair.mutex c.args.timed in let seen = c.turn_word-seen.result in
    let alone : is_parked c.turn_word-seen.result ≡ false = search rules in
    let here = begins (TimeIsUp g.C.Clock.tells c.args.limit) c.args.lot.now pair.words
    (at (releases_at unlock.Subtract)) c.args.token.now c.args.section c.requires.at in
    let released = comes here (Value seen) c.turn_word-seen.new.token c.args.section c.turn_word-seen.ensures
    refl (at (wait.Asleep Listed))
    (released_on pair.condvar pair.mutex c.args.timed seen alone) in
    (c.requires.queued.0, c.requires.queued.1 ∙ sym released.same)

pub returns-then-not-is_parked : goal.returns-then-not-is_parked
returns-then-not-is_parked g c = let pair = c.args.pair in let at = wait_at pair.condvar pair.mutex
    c.args.timed in let seen = c.turn_word-seen.result in
    let alone : is_parked c.turn_word-seen.result ≡ false = search rules in
    let here = begins (TimeIsUp g.C.Clock.tells c.args.limit) c.args.lot.now pair.words
    (at (releases_at unlock.Subtract)) c.args.token.now c.args.section c.requires.at in
    let released = comes here (Value seen) c.turn_word-seen.new.token c.args.section c.turn_word-seen.ensures
    refl (at (wait.Asleep Listed))
    (released_on pair.condvar pair.mutex c.args.timed seen alone) in
    released.ends c.fall_asleep.result c.fall_asleep.new.token c.fall_asleep.ensures

pub wake_first_and_sleep-requires-clause-at : goal.wake_first_and_sleep-requires-clause-at
wake_first_and_sleep-requires-clause-at g c = let pair = c.args.pair in let at =
    wait_at pair.condvar pair.mutex c.args.timed in let seen = c.turn_word-seen.result in
    let parked : is_parked c.turn_word-seen.result ≡ true = search rules in
    let here = begins (TimeIsUp g.C.Clock.tells c.args.limit) c.args.lot.now pair.words
    (at (releases_at unlock.Subtract)) c.args.token.now c.args.section c.requires.at in
    let released = comes here (Value seen) c.turn_word-seen.new.token c.args.section c.turn_word-seen.ensures
    refl (at (releases_at unlock.Enter))
    (releases_on pair.condvar pair.mutex c.args.timed seen parked) in
    released.at

pub wake_first_and_sleep-requires-clause-queued : goal.wake_first_and_sleep-requires-clause-queued
wake_first_and_sleep-requires-clause-queued g c = let pair = c.args.pair in let at =
    wait_at pair.condvar pair.mutex c.args.timed in let seen = c.turn_word-seen.result in
    let parked : is_parked c.turn_word-seen.result ≡ true = search rules in
    let here = begins (TimeIsUp g.C.Clock.tells c.args.limit) c.args.lot.now pair.words
    (at (releases_at unlock.Subtract)) c.args.token.now c.args.section c.requires.at in
    let released = comes here (Value seen) c.turn_word-seen.new.token c.args.section c.turn_word-seen.ensures
    refl (at (releases_at unlock.Enter))
    (releases_on pair.condvar pair.mutex c.args.timed seen parked) in
    (c.requires.queued.0, c.requires.queued.1 ∙ sym released.same)

pub returns : goal.returns
returns g c = let pair = c.args.pair in let at = wait_at pair.condvar pair.mutex c.args.timed in let seen =
    c.turn_word-seen.result in
    let parked : is_parked c.turn_word-seen.result ≡ true = search rules in
    let here = begins (TimeIsUp g.C.Clock.tells c.args.limit) c.args.lot.now pair.words
    (at (releases_at unlock.Subtract)) c.args.token.now c.args.section c.requires.at in
    let released = comes here (Value seen) c.turn_word-seen.new.token c.args.section c.turn_word-seen.ensures
    refl (at (releases_at unlock.Enter))
    (releases_on pair.condvar pair.mutex c.args.timed seen parked) in
    released.ends c.wake_first_and_sleep.result c.wake_first_and_sleep.new.token
    c.wake_first_and_sleep.ensures
