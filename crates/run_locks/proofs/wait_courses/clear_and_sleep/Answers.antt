use Rattle.std.proofs.Common.{◌≡◌, Bool, true, false, refl, ap, rules, sym, ◌∙◌}
use Rattle.core_clocks.specs.Clocks.{TimeIsUp}
use Rattle.steps_base.specs.declared.acts.Reply.TheVariants.{Value}
use Rattle.steps_mutex.specs.declared.unlock.UnlockAt.TheVariants as unlock
use Rattle.run_locks.specs.CondvarCourses.{releases_at, wait_at}
use Rattle.run_base.specs.MutexCourses.{taken_on}
use Rattle.run_base.proofs.Coming.{begins, comes, may_do, named}
use Rattle.run_locks.proofs.wait_courses.clear_and_sleep.Goals as goal

pub turn_word-requires : goal.turn_word-requires
turn_word-requires g c = let pair = c.args.pair in let at = wait_at pair.condvar pair.mutex c.args.timed in
    let none : c.args.none_left ≡ true = search rules in
    let here = begins (TimeIsUp g.C.Clock.tells c.args.limit) c.args.lot.now pair.words
    (at (releases_at (taken_on c.args.any c.args.none_left))) c.args.token.now c.args.section
    c.requires.at in
    let there = named here (ap (λ (b : Bool). at (releases_at (taken_on c.args.any b))) none) in
    may_do there refl

pub wake_and_sleep-requires-clause-at : goal.wake_and_sleep-requires-clause-at
wake_and_sleep-requires-clause-at g c = let pair = c.args.pair in let at =
    wait_at pair.condvar pair.mutex c.args.timed in
    let none : c.args.none_left ≡ true = search rules in
    let here = begins (TimeIsUp g.C.Clock.tells c.args.limit) c.args.lot.now pair.words
    (at (releases_at (taken_on c.args.any c.args.none_left))) c.args.token.now c.args.section
    c.requires.at in
    let there = named here (ap (λ (b : Bool). at (releases_at (taken_on c.args.any b))) none) in
    let cleared = comes there (Value c.turn_word.result) c.turn_word.new.token c.args.section
    c.turn_word.ensures refl
    (at (releases_at (unlock.Leave c.args.any))) (refl, refl) in
    cleared.at

pub wake_and_sleep-requires-clause-queued : goal.wake_and_sleep-requires-clause-queued
wake_and_sleep-requires-clause-queued g c = let pair = c.args.pair in let at =
    wait_at pair.condvar pair.mutex c.args.timed in
    let none : c.args.none_left ≡ true = search rules in
    let here = begins (TimeIsUp g.C.Clock.tells c.args.limit) c.args.lot.now pair.words
    (at (releases_at (taken_on c.args.any c.args.none_left))) c.args.token.now c.args.section
    c.requires.at in
    let there = named here (ap (λ (b : Bool). at (releases_at (taken_on c.args.any b))) none) in
    let cleared = comes there (Value c.turn_word.result) c.turn_word.new.token c.args.section
    c.turn_word.ensures refl
    (at (releases_at (unlock.Leave c.args.any))) (refl, refl) in
    (c.requires.queued.0, c.requires.queued.1 ∙ sym cleared.same)

pub returns-then-none_left : goal.returns-then-none_left
returns-then-none_left g c = let pair = c.args.pair in let at = wait_at pair.condvar pair.mutex c.args.timed
    in
    let none : c.args.none_left ≡ true = search rules in
    let here = begins (TimeIsUp g.C.Clock.tells c.args.limit) c.args.lot.now pair.words
    (at (releases_at (taken_on c.args.any c.args.none_left))) c.args.token.now c.args.section
    c.requires.at in
    let there = named here (ap (λ (b : Bool). at (releases_at (taken_on c.args.any b))) none) in
    let cleared = comes there (Value c.turn_word.result) c.turn_word.new.token c.args.section
    c.turn_word.ensures refl
    (at (releases_at (unlock.Leave c.args.any))) (refl, refl) in
    cleared.ends c.wake_and_sleep.result c.wake_and_sleep.new.token c.wake_and_sleep.ensures

pub wake_and_sleep-requires-2-clause-at : goal.wake_and_sleep-requires-2-clause-at
wake_and_sleep-requires-2-clause-at g c = let pair = c.args.pair in let at =
    wait_at pair.condvar pair.mutex c.args.timed in
    let some : c.args.none_left ≡ false = search rules in
    let here = begins (TimeIsUp g.C.Clock.tells c.args.limit) c.args.lot.now pair.words
    (at (releases_at (taken_on c.args.any c.args.none_left))) c.args.token.now c.args.section
    c.requires.at in
    let there = named here (ap (λ (b : Bool). at (releases_at (taken_on c.args.any b))) some) in
    there.at

pub wake_and_sleep-requires-2-clause-queued : goal.wake_and_sleep-requires-2-clause-queued
wake_and_sleep-requires-2-clause-queued g c = let pair = c.args.pair in let at =
    wait_at pair.condvar pair.mutex c.args.timed in
    let some : c.args.none_left ≡ false = search rules in
    let here = begins (TimeIsUp g.C.Clock.tells c.args.limit) c.args.lot.now pair.words
    (at (releases_at (taken_on c.args.any c.args.none_left))) c.args.token.now c.args.section
    c.requires.at in
    let there = named here (ap (λ (b : Bool). at (releases_at (taken_on c.args.any b))) some) in
    (c.requires.queued.0, c.requires.queued.1 ∙ sym there.same)

pub returns : goal.returns
returns g c = let pair = c.args.pair in let at = wait_at pair.condvar pair.mutex c.args.timed in
    let some : c.args.none_left ≡ false = search rules in
    let here = begins (TimeIsUp g.C.Clock.tells c.args.limit) c.args.lot.now pair.words
    (at (releases_at (taken_on c.args.any c.args.none_left))) c.args.token.now c.args.section
    c.requires.at in
    let there = named here (ap (λ (b : Bool). at (releases_at (taken_on c.args.any b))) some) in
    there.ends c.wake_and_sleep-2.result c.wake_and_sleep-2.new.token c.wake_and_sleep-2.ensures
