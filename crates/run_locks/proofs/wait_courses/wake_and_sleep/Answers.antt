use Rattle.std.proofs.Common.{refl, sym, ◌∙◌}
use Rattle.core_clocks.specs.Clocks.{TimeIsUp}
use Rattle.steps_base.specs.declared.acts.Reply.TheVariants.{Done}
use Rattle.steps_condvar.specs.declared.wait.WaiterFate.TheVariants.{Listed}
use Rattle.steps_condvar.specs.declared.wait.WaitAt.TheVariants as wait
use Rattle.steps_mutex.specs.declared.unlock.UnlockAt.TheVariants as unlock
use Rattle.run_locks.specs.CondvarCourses.{releases_at, wait_at}
use Rattle.run_base.proofs.Coming.{begins, comes, leaves_one, may_do}
use Rattle.run_locks.proofs.wait_courses.wake_and_sleep.Goals as goal

pub turn_leave-requires : goal.turn_leave-requires
turn_leave-requires g c = let pair = c.args.pair in let at = wait_at pair.condvar pair.mutex c.args.timed in
    let here = begins (TimeIsUp g.C.Clock.tells c.args.limit) c.args.lot.now pair.words
    (at (releases_at (unlock.Leave c.args.any))) c.args.token.now c.args.section c.requires.at in
    may_do here (leaves_one c.main_key.ensures c.taken-wakes.ensures)

pub fall_asleep-requires-clause-at : goal.fall_asleep-requires-clause-at
fall_asleep-requires-clause-at g c = let pair = c.args.pair in let at = wait_at pair.condvar pair.mutex
    c.args.timed in
    let here = begins (TimeIsUp g.C.Clock.tells c.args.limit) c.args.lot.now pair.words
    (at (releases_at (unlock.Leave c.args.any))) c.args.token.now c.args.section c.requires.at in
    let left = comes here Done c.turn_leave.new.token c.turn_leave.new.section c.turn_leave.ensures
    (leaves_one c.main_key.ensures c.taken-wakes.ensures) (at (wait.Asleep Listed)) (refl, refl) in
    left.at

pub fall_asleep-requires-clause-queued : goal.fall_asleep-requires-clause-queued
fall_asleep-requires-clause-queued g c = let pair = c.args.pair in let at =
    wait_at pair.condvar pair.mutex c.args.timed in
    let here = begins (TimeIsUp g.C.Clock.tells c.args.limit) c.args.lot.now pair.words
    (at (releases_at (unlock.Leave c.args.any))) c.args.token.now c.args.section c.requires.at in
    let left = comes here Done c.turn_leave.new.token c.turn_leave.new.section c.turn_leave.ensures
    (leaves_one c.main_key.ensures c.taken-wakes.ensures) (at (wait.Asleep Listed)) (refl, refl) in
    (c.requires.queued.0, c.requires.queued.1 ∙ sym left.same)

pub returns : goal.returns
returns g c = let pair = c.args.pair in let at = wait_at pair.condvar pair.mutex c.args.timed in
    let here = begins (TimeIsUp g.C.Clock.tells c.args.limit) c.args.lot.now pair.words
    (at (releases_at (unlock.Leave c.args.any))) c.args.token.now c.args.section c.requires.at in
    let left = comes here Done c.turn_leave.new.token c.turn_leave.new.section c.turn_leave.ensures
    (leaves_one c.main_key.ensures c.taken-wakes.ensures) (at (wait.Asleep Listed)) (refl, refl) in
    left.ends c.fall_asleep.result c.fall_asleep.new.token c.fall_asleep.ensures
